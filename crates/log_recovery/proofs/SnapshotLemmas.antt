-- How the lines of what stands before a list are written, account by account.
use Rattle.std.proofs.Common.{◌≡◌, ◌≤◌, ℕ, zero, suc, ◌+◌, List, [], ◌∷◌, ◌++◌, length, drop, Option, Some, refl, ap, ◌∙◌, sym, subst, arith, append_assoc}
use Rattle.std.specs.List.{slice_get}
use Rattle.std.proofs.lemmas.List.{append-nil, drop_all}
use Rattle.std.proofs.lemmas.Option.{slice_get_within}
use Rattle.lsn_space.specs.Opening.{Opening}
use Rattle.log_disk.specs.Streams.{AppendsPart, AppendsBut}
use Rattle.log_disk.proofs.Blocks.{AppendsBut-none, AppendsBut-trans, AppendsBut-trans_part_of_piece, AppendsPart-append}
use Rattle.log_recovery.specs.Dump.{row_line, row_lines, snapshot_line, snapshot_lines, opening_lines}

-- from this row on
drop-row : (rows : List (ℕ × ℕ)) (n : ℕ) (row : ℕ × ℕ) → slice_get rows n ≡ Some row → drop n rows ≡ row ∷ drop (n + 1) rows
drop-row [] n row is = let within = slice_get_within [] n row is in absurd (omega (arith, within))
drop-row (first ∷ rows) zero row is = let same : first ≡ row = cc in ap (λ r. r ∷ rows) same
drop-row (first ∷ rows) (suc n) row is =
    let past : suc (n + 1) ≡ suc n + 1 = omega arith in
    drop-row rows n row is ∙ ap (λ k. row ∷ drop k (first ∷ rows)) past

-- the lines of the accounts before this one are written, but for the bytes that wait; others waited before them
pub record RowsFront (rows : List (ℕ × ℕ)) (account : ℕ) (first waiting : List ℕ) (old new : Option (List ℕ)) : Type 0 where
  pub done : List ℕ
  pub whole : row_lines 0 rows ≡ done ++ row_lines account (drop account rows)
  pub written : AppendsBut old new (first ++ done) waiting

pub rows-none : (accounts : List (ℕ × ℕ)) (first : List ℕ) (old : Option (List ℕ)) → RowsFront accounts 0 first first old old
rows-none rows first old =
    record { done = []; whole = refl; written = subst (λ bytes. AppendsBut old old bytes first) (sym (append-nil first)) (AppendsBut-none old first) }

module _ (rows : List (ℕ × ℕ)) (account : ℕ) (row : ℕ × ℕ) (first waiting : List ℕ) (old mid : Option (List ℕ)) (is : slice_get rows account ≡ Some row)
    (before : RowsFront rows account first waiting old mid) where
  split : row_lines 0 rows ≡ before.done ++ row_line account row ++ row_lines (account + 1) (drop (account + 1) rows)
  split = before.whole ∙ ap (λ list. before.done ++ row_lines account list) (drop-row rows account row is)
      ∙ sym (append_assoc before.done (row_line account row) (row_lines (account + 1) (drop (account + 1) rows)))

  -- one more line is put
  pub rows-more : (new : Option (List ℕ)) (waiting' : List ℕ) → AppendsBut mid new (waiting ++ row_line account row) waiting'
      → RowsFront rows (account + 1) first waiting' old new
  rows-more new waiting' line = record {
    done = before.done ++ row_line account row;
    whole = split;
    written = subst (λ bytes. AppendsBut old new bytes waiting') (append_assoc first before.done (row_line account row))
        (AppendsBut-trans old mid new _ waiting before.written (row_line account row) waiting' line);
  }

  -- of the lines with one more a part is written
  pub row_line_cut-rows_part : (new : Option (List ℕ)) → AppendsPart mid new (waiting ++ row_line account row) → AppendsPart old new (first ++ row_lines 0 rows)
  row_line_cut-rows_part new cut =
      let rest : List ℕ = row_lines (account + 1) (drop (account + 1) rows) in
      AppendsPart-append old new _ _ rest (AppendsBut-trans_part_of_piece old mid new _ waiting before.written (row_line account row) cut)
      (ap (λ list. first ++ list) split ∙ sym (append_assoc first (before.done ++ row_line account row) rest)
      ∙ ap (λ list. list ++ rest) (sym (append_assoc first before.done (row_line account row))))

-- all lines are put
pub rows_front-all_lines_put : (rows : List (ℕ × ℕ)) (account : ℕ) (first waiting : List ℕ) (old new : Option (List ℕ)) → length rows ≤ account
    → RowsFront rows account first waiting old new → AppendsBut old new (first ++ row_lines 0 rows) waiting
rows_front-all_lines_put rows account first waiting old new past front =
    let whole : row_lines 0 rows ≡ front.done =
    front.whole ∙ ap (λ list. front.done ++ row_lines account list) (drop_all account rows past) ∙ append-nil front.done in
    subst (λ bytes. AppendsBut old new (first ++ bytes) waiting) (sym whole) front.written

-- ---- what stands before a list

lines-none : (lsn txn : ℕ) (rows : List (ℕ × ℕ)) → length rows ≡ 0 → snapshot_lines lsn txn rows ≡ []
lines-none lsn txn [] none = refl
lines-none lsn txn (row ∷ rows) none = absurd (omega (arith, none))

lines-some : (lsn txn : ℕ) (rows : List (ℕ × ℕ)) → (length rows ≡ 0 → ⊥) → snapshot_lines lsn txn rows ≡ snapshot_line lsn txn ++ row_lines 0 rows
lines-some lsn txn [] some = absurd (some refl)
lines-some lsn txn (row ∷ rows) some = refl

-- an opening that is shown so has no line, or these
pub opening_lines-none : {opening shown : Opening} → opening ≡ shown → length opening.accounts ≡ 0 → opening_lines shown ≡ []
opening_lines-none {opening} is none = ap opening_lines (sym is) ∙ lines-none opening.lsn opening.txn opening.accounts none

pub opening_lines-some : {opening shown : Opening} → opening ≡ shown → (length opening.accounts ≡ 0 → ⊥)
    → opening_lines shown ≡ snapshot_line opening.lsn opening.txn ++ row_lines 0 opening.accounts
opening_lines-some {opening} is some = ap opening_lines (sym is) ∙ lines-some opening.lsn opening.txn opening.accounts some
