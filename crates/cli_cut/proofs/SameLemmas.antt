-- Of a log that was cut `recover` answers what it answers of the log that it was cut from.
use Rattle.std.proofs.Common.{◌≡◌, ◌<◌, ℕ, zero, suc, Some, List, [], ◌∷◌, length, refl, ap, sym, ◌∙◌, subst, arith}
use Rattle.std.specs.List.{slice_get}
use Rattle.log_record.specs.declared.rec.Placed.{Placed}
use Rattle.lsn_space.specs.Opening.{Opening}
use Rattle.lock_core.specs.Lawful.{base_with, opening_after}
use Rattle.lock_core.specs.AccountRows.{row, opening_of}
use Rattle.lock_core.specs.Sums.{BaseState, ShowsAccounts, balance_of}
use Rattle.segment_file.specs.Log.{cut_log, HoldsLog}
use Rattle.log_recovery.specs.Opened.{OpenedList, list_end, placed}
use Rattle.log_recovery.specs.Recovery.{HoldsLawful, Recovers}
use Rattle.log_recovery.specs.declared.recovery.Recovered.{Recovered}
use Rattle.log_recovery.proofs.AnswerLemmas.{one-list}
use Rattle.cli_cut.specs.Recovered.{AnswersAlike, IsCutLog, RecoverAlike}

-- rows that are the same account by account are the same
rows-same : (xs ys : List (ℕ × ℕ)) → length xs ≡ length ys → ((account : ℕ) → account < length xs → slice_get xs account ≡ slice_get ys account) → xs ≡ ys
rows-same [] [] long same = refl
rows-same [] (y ∷ ys) long same = absurd (omega (arith, long))
rows-same (x ∷ xs) [] long same = absurd (omega (arith, long))
rows-same (x ∷ xs) (y ∷ ys) long same =
    let first : x ≡ y = let both = same 0 (omega arith) in cc in
    let rest = rows-same xs ys (omega (arith, long)) (λ account below. same (suc account) (omega (arith, below))) in
    λ i. first i ∷ rest i

-- the row of an account is the one there
row-there : (rows : List (ℕ × ℕ)) (account : ℕ) → account < length rows → slice_get rows account ≡ Some (row rows account)
row-there [] account below = absurd (omega (arith, below))
row-there (first ∷ rows) zero below = refl
row-there (first ∷ rows) (suc account) below = row-there rows account (omega (arith, below))

-- a list with no record
abbrev pub cut_list : Opening → OpenedList
cut_list opening = record { opening = opening; records = [] }

pub cut_log-holds_lawful : (made : List ℕ) (opening : Opening) → HoldsLog made (cut_log opening) → HoldsLawful made (cut_list opening)
cut_log-holds_lawful made opening holds = record { list = record { each = tt; holds = holds }; lawful = tt }

-- rows that show it are the opening's
shows-opening : (opening : Opening) (rows : List (ℕ × ℕ)) → ShowsAccounts rows (base_with (opening_of opening) []) [] → rows ≡ opening.accounts
shows-opening opening rows shows = rows-same rows opening.accounts shows.count (λ account below.
    let inside : account < length opening.accounts = omega (arith, below, shows.count) in
    let balance : balance_of (opening_of opening).state [] account ≡ (row opening.accounts account).0 = omega arith in
    shows.each account inside ∙ (λ i. Some (balance i, (row opening.accounts account).1)) ∙ sym (row-there opening.accounts account inside))

-- rows that show the same list are the same
pub shows-same : (base : BaseState) (h : List Placed) (xs ys : List (ℕ × ℕ)) → ShowsAccounts xs base h → ShowsAccounts ys base h → xs ≡ ys
shows-same base h xs ys first second = rows-same xs ys (first.count ∙ sym second.count) (λ account below.
    let inside : account < base.accounts = omega (arith, below, first.count) in first.each account inside ∙ sym (second.each account inside))

module _ (bytes made : List ℕ) (log : IsCutLog bytes made) (a b : Recovered) (before : Recovers a bytes) (after : Recovers b made) where
  list-before : before.list ≡ log.list
  list-before = one-list bytes before.list log.list before.held.list log.lawful.list

  list-after : after.list ≡ cut_list log.opening
  list-after = one-list made after.list (cut_list log.opening) after.held.list (cut_log-holds_lawful made log.opening log.held).list

  same-lsn : a.lsn ≡ b.lsn
  same-lsn = omega (arith, before.lsn, ap list_end list-before, log.cut.lsn, after.lsn, ap list_end list-after)

  same-next_txn : a.next_txn ≡ b.next_txn
  same-next_txn = omega (
    arith,
    before.next_txn,
    ap (λ (l : OpenedList). (opening_after (opening_of l.opening) (placed l)).txn) list-before,
    log.cut.txn,
    after.next_txn,
    ap (λ (l : OpenedList). (opening_after (opening_of l.opening) (placed l)).txn) list-after,
  )

  same-accounts : a.accounts.rows ≡ b.accounts.rows
  same-accounts =
      let first = subst (λ (l : OpenedList). ShowsAccounts a.accounts.rows (base_with (opening_of l.opening) (placed l)) (placed l)) list-before before.accounts in
      let second = subst (λ (l : OpenedList). ShowsAccounts b.accounts.rows (base_with (opening_of l.opening) (placed l)) (placed l)) list-after after.accounts in
      shows-same _ (placed log.list) a.accounts.rows log.opening.accounts first log.cut.accounts
      ∙ sym (shows-opening log.opening b.accounts.rows second)

  same-answers : AnswersAlike a b
  same-answers = record { lsn = same-lsn; accounts = same-accounts; next = same-next_txn }

pub IsCutLog-recover_alike : (bytes made : List ℕ) → IsCutLog bytes made → RecoverAlike bytes made
IsCutLog-recover_alike = same-answers
