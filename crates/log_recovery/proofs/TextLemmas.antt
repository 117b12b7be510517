-- Texts that are written line by line.
use Rattle.std.proofs.Common.{◌≡◌, ◌≤◌, ◌<◌, Some, slice_get, slice_index_or, sym, ap, subst, refl, ℕ, ◌+◌, zero, suc, List, [], ◌∷◌, ◌++◌, inl, inr}
use Rattle.std.proofs.Common.{Option, length, arith, append_assoc, add-one, codes}
use Rattle.std.proofs.lemmas.List.{append-nil}
use Rattle.std.proofs.lemmas.Option.{get_or_from_slice_get}
use Rattle.std.proofs.lemmas.List.Concat.{flat_map-append}
use Rattle.std.proofs.Math.Nat.{eq-or-lt_of_le}
use Rattle.std.specs.Io.KnownBytes.{Appends}
use Rattle.std.proofs.KnownBytes.{Appends-trans}
use Rattle.log_disk.specs.Streams.{AppendsPrefix, AppendsPart, AppendsBut}
use Rattle.log_disk.proofs.Blocks.{AppendsBut-trans, AppendsBut-trans_part_of_piece, AppendsPart-append, positive_length-append}
use Rattle.lsn_space.specs.Number.{number_text}
use Rattle.lock_core.specs.Lawful.{base_with}
use Rattle.lock_core.specs.Sums.{ShowsAccounts, balance_of, last_commit_of}
use Rattle.lock_core.specs.AccountRows.{opening_of}
use Rattle.log_recovery.specs.Opened.{OpenedList, list_end, placed}
use Rattle.log_recovery.specs.Text.{account_line, numbers_below, account_lines, lsn_line, rows_text, accounts_text}

account_lines-suc : (balance : ℕ → ℕ) (n : ℕ) → account_lines balance (n + 1) ≡ account_lines balance n ++ account_line n (balance n)
account_lines-suc balance n = rw (add-one, flat_map-append, append-nil) refl

-- the lines go on behind the first few
account_lines-split : (balance : ℕ → ℕ) (i n : ℕ) → i ≤ n → (more : List ℕ) × (account_lines balance n ≡ account_lines balance i ++ more)
account_lines-split balance i zero few = let none : i ≡ 0 = omega arith in ([], rw (none, append-nil) refl)
account_lines-split balance i (suc n) few = elim (eq-or-lt_of_le few) [
  | inl all ↦ ([], rw (all, append-nil) refl)
  | inr below ↦ let split = account_lines-split balance i n (omega arith) in (
    split.0 ++ account_line n (balance n),
    rw (flat_map-append, append-nil, split.1) (append_assoc (account_lines balance i) split.0 (account_line n (balance n))),
  )
]

-- a front of a text's first piece is a front of the text
pub AppendsPrefix-append : (old new : Option (List ℕ)) (text piece more : List ℕ) → AppendsPrefix old new piece → text ≡ piece ++ more → AppendsPrefix old new text
AppendsPrefix-append old new text piece more written whole =
    (written.0, written.1 ++ more, rw (whole, written.2) (append_assoc written.0 written.1 more), written.3)

-- a front behind what was written whole
pub AppendsPrefix-after_Appends : (old middle new : Option (List ℕ)) (text done piece more : List ℕ) → Appends old middle done → AppendsPrefix middle new piece
    → text ≡ (done ++ piece) ++ more → AppendsPrefix old new text
AppendsPrefix-after_Appends old middle new text done piece more before cut whole =
    (done ++ cut.0, cut.1 ++ more, rw (whole, cut.2) (simp append_assoc), Appends-trans old middle new done cut.0 before cut.3)

-- likewise of a front that isn't all of the piece
pub AppendsPart-after_Appends : (old middle new : Option (List ℕ)) (text done piece more : List ℕ) → Appends old middle done → AppendsPart middle new piece
    → text ≡ (done ++ piece) ++ more → AppendsPart old new text
AppendsPart-after_Appends old middle new text done piece more before cut whole =
    (done ++ cut.0, cut.1 ++ more, rw (whole, cut.2) (simp append_assoc), Appends-trans old middle new done cut.0 before cut.3, positive_length-append cut.1 more cut.4)

-- the line that the accounts text begins with
pub lsn_line-some : (lsn : ℕ) → 0 < length (lsn_line lsn)
unfolding lsn_line
lsn_line-some lsn = positive_length-append (codes "lsn ") (number_text lsn ++ codes "\n") (omega arith)

-- the balance that is kept of an account
abbrev pub balance_in : List (ℕ × ℕ) → ℕ → ℕ
balance_in rows account = (slice_index_or rows account (0, 0)).0

balance_in-row : (rows : List (ℕ × ℕ)) (account : ℕ) (row : ℕ × ℕ) → slice_get rows account ≡ Some row → balance_in rows account ≡ row.0
balance_in-row rows account row kept = ap (λ (r : ℕ × ℕ). r.0) (get_or_from_slice_get rows account row (0, 0) kept)

module _ (old middle new : Option (List ℕ)) (start : List ℕ) (rows : List (ℕ × ℕ)) (account : ℕ) (row : ℕ × ℕ) (kept : slice_get rows account ≡ Some row)
    (waiting : List ℕ) (before : AppendsBut old middle (start ++ account_lines (balance_in rows) account) waiting) where
  line-added : start ++ account_lines (balance_in rows) (account + 1) ≡ (start ++ account_lines (balance_in rows) account) ++ account_line account row.0
  line-added =
      rw (account_lines-suc (balance_in rows) account, balance_in-row rows account row kept)
      (sym (append_assoc start (account_lines (balance_in rows) account) (account_line account row.0)))

  -- one more line is put
  pub AppendsBut-line : (waiting' : List ℕ) → AppendsBut middle new (waiting ++ account_line account row.0) waiting'
      → AppendsBut old new (start ++ account_lines (balance_in rows) (account + 1)) waiting'
  AppendsBut-line waiting' line =
      subst (λ bytes. AppendsBut old new bytes waiting') (sym line-added) (AppendsBut-trans old middle new _ waiting before (account_line account row.0) waiting' line)

  -- of the lines with one more a part is written
  pub AppendsPart-line : account < length rows → AppendsPart middle new (waiting ++ account_line account row.0)
      → AppendsPart old new (start ++ account_lines (balance_in rows) (length rows))
  AppendsPart-line within cut =
      let split = account_lines-split (balance_in rows) (account + 1) (length rows) (omega arith) in
      let lines = account_lines (balance_in rows) (account + 1) in
      let whole : start ++ account_lines (balance_in rows) (length rows) ≡ ((start ++ account_lines (balance_in rows) account) ++ account_line account row.0) ++ split.0 =
      rw (split.1, ← append_assoc start lines split.0, line-added) refl in
      AppendsPart-append old new _ _ split.0 (AppendsBut-trans_part_of_piece old middle new _ waiting before (account_line account row.0) cut) whole

pub account_lines-same : (one other : ℕ → ℕ) (n : ℕ) → ((account : ℕ) → account < n → one account ≡ other account) → account_lines one n ≡ account_lines other n
account_lines-same one other zero same = refl
account_lines-same one other (suc n) same =
    rw (
      flat_map-append (λ account. account_line account (one account)) (numbers_below n) (n ∷ []),
      flat_map-append (λ account. account_line account (other account)) (numbers_below n) (n ∷ []),
      account_lines-same one other n (λ account below. same account (omega arith)),
      same n (omega arith),
    ) refl

-- the accounts of a list have its text
pub rows_text-shown : (lsn : ℕ) (rows : List (ℕ × ℕ)) (list : OpenedList) → lsn ≡ list_end list
    → ShowsAccounts rows (base_with (opening_of list.opening) (placed list)) (placed list) → rows_text lsn rows ≡ accounts_text list
rows_text-shown lsn rows list end shows =
    let h = placed list in
    let base = base_with (opening_of list.opening) h in
    let same = account_lines-same (balance_in rows) (balance_of base h) base.accounts
    (λ account below. balance_in-row rows account (balance_of base h account, last_commit_of base h account) (shows.each account below)) in
    rw (end, shows.count, same) refl
