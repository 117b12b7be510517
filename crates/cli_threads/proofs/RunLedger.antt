-- What the gathered list is to the opened one: the table's base state is that of the opened list, so that its ledger goes on from it.
use Rattle.std.proofs.Common.{◌≡◌, ◌<◌, ◌≤◌, ℕ, true, List, [], ◌++◌, Some, refl, ap, ◌∙◌, sym, subst, arith}
use Rattle.std.specs.List.{AllByRecursion}
use Rattle.log_record.specs.declared.rec.Rec.{Rec}
use Rattle.log_record.specs.declared.rec.Placed.{Placed}
use Rattle.log_record.specs.Spelling.{IsSpellable}
use Rattle.lock_core.specs.Lawful.{IsLawful, base_with}
use Rattle.lock_core.specs.Records.{txn_of}
use Rattle.lock_core.specs.Serial.{NumberedTransfer, IsPartlySerialAfter}
use Rattle.lock_core.specs.AccountRows.{KeepsRows}
use Rattle.lock_core.specs.Soundness.{IsSoundAfter}
use Rattle.lock_core.specs.Sums.{as_opening, BaseState, BeginsInRange, ShowsAccounts, balance_of, last_commit_of}
use Rattle.lock_core.specs.Transactions.{own_records_of, has_end, ShareNoTransaction}
use Rattle.lock_core.proofs.Apart.{numbers_apart-share_none, greatest_txn_below-all_below, share_none-of_transaction_none}
use Rattle.lock_core.proofs.Appending.{balance_of-append, last_commit_of-append, base_with-append_no_genesis, lawful-no_genesis, lawful-append_opening_after}
use Rattle.lock_core.proofs.Fronts.{lawful-front}
use Rattle.lock_core.proofs.GoingOn.{lawful_as_opening-lawful_after}
use Rattle.lock_core.proofs.ListLemmas.{all-split}
use Rattle.lock_core.proofs.JudgingLemmas.{keeps_rows-shows_accounts}
use Rattle.lock_core.proofs.Meeting.{lawful-met}
use Rattle.lock_core.proofs.SerialFronts.{partly_serial-front, partly_serial-all_ended_serial, no_others-numbers_from, numbered-from}
use Rattle.lock_core.proofs.SoundLemmas.{lawful_after-sound_after}
use Rattle.log_recovery.specs.Opened.{OpenedList, list_end, placed, with_records, opening_before, base_in, base_left, opening_left}
use Rattle.log_recovery.proofs.OpenedLemmas.{state_with-base_left}
use Rattle.log_recovery.proofs.TextLemmas.{rows_text-shown}
use Rattle.log_recovery.specs.Text.{rows_text, accounts_text}
use Rattle.log_rule.specs.declared.start.Start.{Start}
use Rattle.log_rule.specs.Sound.{base_of}
use Rattle.log_rule.proofs.SentRecords.{spellable-history}
use Rattle.txn_runner.specs.Places.{NumberedJobs}
use Rattle.lsn_space.proofs.TilingLemmas.{all-append}
use Rattle.cli_threads.specs.Run.{transfers_of, ComeInTurn, HasNoneBehind, GoesOn, RunsWhole}
use Rattle.cli_threads.specs.Sharing.{Sharing}
use Rattle.cli_threads.proofs.RunHistory.{later_of, placed-with_records, later-append}
use Rattle.cli_threads.proofs.RunPlaces.{tasks_of}

-- ---- the base state

-- the table's base state is that of the opened list
pub base_of-base_left : (opened : OpenedList) (key : Start) → IsLawful (opening_before opened) (placed opened) → key.start ≡ list_end opened
    → ShowsAccounts key.accounts.rows (base_in opened) (placed opened) → base_of key ≡ base_left opened
base_of-base_left opened key lawful start shows = state_with-base_left opened key.start key.accounts.rows lawful start shows

-- ---- a list that is lawful and partly serial after the opened one

module _ (opened : OpenedList) (list : List Rec) (jobs : NumberedJobs) (lawful : IsLawful (opening_before opened) (placed opened))
    (range : BeginsInRange (opening_before opened).state) (some_accounts : 0 < (base_in opened).accounts)
    (below : (opening_left opened).txn < jobs.first)
    (spellable : AllByRecursion IsSpellable (opened.records ++ list))
    (after : IsLawful (as_opening (base_left opened)) (later_of opened list))
    (serial : IsPartlySerialAfter (base_left opened) (tasks_of jobs) (later_of opened list)) where
  -- the records after the opened list have numbers from the first on
  pub later_of-numbered_from_first : AllByRecursion (λ (entry : Placed). jobs.first ≤ txn_of entry.rec) (later_of opened list)
  later_of-numbered_from_first = no_others-numbers_from jobs.first (tasks_of jobs) (later_of opened list) (numbered-from jobs.first (transfers_of jobs)) serial.others

  pub later-shares_no_transaction : ShareNoTransaction (later_of opened list) (placed opened)
  later-shares_no_transaction = numbers_apart-share_none jobs.first (later_of opened list) (placed opened) later_of-numbered_from_first
      (greatest_txn_below-all_below (placed opened) jobs.first (omega (arith, below)))

  -- as their numbers are above the opened list's, they are lawful behind the opening that it leaves
  behind : IsLawful (opening_left opened) (later_of opened list)
  behind = lawful_as_opening-lawful_after (opening_before opened) jobs.first (later_of opened list) (placed opened) after later_of-numbered_from_first below

  pub with_records-lawful : IsLawful (opening_before opened) (placed (with_records opened list))
  with_records-lawful = subst (IsLawful (opening_before opened)) (sym (placed-with_records opened list))
      (lawful-append_opening_after (opening_before opened) (later_of opened list) (placed opened) lawful some_accounts behind)

  pub with_records-goes_on : (sharing : Sharing) → ComeInTurn jobs sharing (placed (with_records opened list))
      → HasNoneBehind jobs sharing (placed (with_records opened list)) → GoesOn opened jobs sharing (with_records opened list)
  with_records-goes_on sharing in_turn none_behind = record {
    sound = subst (IsSoundAfter (opening_before opened) (placed opened)) (sym (placed-with_records opened list))
        (lawful_after-sound_after (opening_before opened) (placed opened) (later_of opened list) range lawful some_accounts
        (subst (AllByRecursion (λ (entry : Placed). IsSpellable entry.rec)) (placed-with_records opened list)
        (spellable-history opened.opening.lsn [] (opened.records ++ list) tt spellable)) behind);
    serial = record { later = later_of opened list; whole = placed-with_records opened list; serial = serial };
    in_turn = in_turn;
    rest = none_behind;
  }

  -- with each transfer ended
  pub has_end-runs_whole : AllByRecursion (λ (task : NumberedTransfer). has_end (own_records_of task.number (later_of opened list)) ≡ true) (tasks_of jobs)
      → RunsWhole opened jobs list
  has_end-runs_whole ended = record {
    later = later_of opened list;
    whole = placed-with_records opened list;
    serial = partly_serial-all_ended_serial (base_left opened) (tasks_of jobs) (later_of opened list) ended serial;
  }

  -- rows that are its accounts
  pub KeepsRows-shows_accounts : (rows : List (ℕ × ℕ)) → KeepsRows rows (base_left opened) (later_of opened list)
      → ShowsAccounts rows (base_in (with_records opened list)) (placed (with_records opened list))
  KeepsRows-shows_accounts rows kept =
      let shown = keeps_rows-shows_accounts rows (base_left opened) (later_of opened list) kept in
      subst (λ (h : List Placed). ShowsAccounts rows (base_with (opening_before opened) h) h) (sym (placed-with_records opened list)) (record {
        count = shown.count ∙ ap (λ (base : BaseState). base.accounts) (sym genesis);
        each = λ account inside.
            let small : account < (base_in opened).accounts =
            subst (λ (base : BaseState). account < base.accounts) genesis inside in
            shown.each account small
            ∙ (λ i. Some (sym (balances account small) i, sym (commits account) i));
      })
    where
      all : List Placed
      all = later_of opened list ++ placed opened

      genesis : base_with (opening_before opened) (later_of opened list ++ placed opened) ≡ base_in opened
      genesis = base_with-append_no_genesis (opening_before opened) (later_of opened list) (placed opened)
          (lawful-no_genesis (as_opening (base_left opened)) (later_of opened list) some_accounts after)

      balances : (account : ℕ) → account < (base_in opened).accounts
          → balance_of (base_with (opening_before opened) (later_of opened list ++ placed opened)) (later_of opened list ++ placed opened) account
          ≡ balance_of (base_left opened) (later_of opened list) account
      balances account small =
          ap (λ (base : BaseState). balance_of base (later_of opened list ++ placed opened) account) genesis
          ∙ balance_of-append (base_in opened) (placed opened) (lawful-met (opening_before opened) (placed opened) lawful) (later_of opened list)
          account small later-shares_no_transaction

      commits : (account : ℕ)
          → last_commit_of (base_with (opening_before opened) (later_of opened list ++ placed opened)) (later_of opened list ++ placed opened) account
          ≡ last_commit_of (base_left opened) (later_of opened list) account
      commits account =
          ap (λ (base : BaseState). last_commit_of base (later_of opened list ++ placed opened) account) genesis
          ∙ last_commit_of-append (base_in opened) (base_left opened) (later_of opened list) (placed opened)
          account refl (share_none-of_transaction_none (later_of opened list) (placed opened) later-shares_no_transaction)

  pub KeepsRows-accounts_text : (lsn : ℕ) (rows : List (ℕ × ℕ)) → lsn ≡ list_end (with_records opened list)
      → KeepsRows rows (base_left opened) (later_of opened list) → rows_text lsn rows ≡ accounts_text (with_records opened list)
  KeepsRows-accounts_text lsn rows end kept = rows_text-shown lsn rows (with_records opened list) end (KeepsRows-shows_accounts rows kept)

-- ---- fronts of it

module _ (opened : OpenedList) (list : List Rec) (jobs : NumberedJobs) (lawful : IsLawful (opening_before opened) (placed opened))
    (range : BeginsInRange (opening_before opened).state) (some_accounts : 0 < (base_in opened).accounts)
    (below : (opening_left opened).txn < jobs.first)
    (spellable : AllByRecursion IsSpellable (opened.records ++ list))
    (after : IsLawful (as_opening (base_left opened)) (later_of opened list))
    (serial : IsPartlySerialAfter (base_left opened) (tasks_of jobs) (later_of opened list))
    (front rest : List Rec) (splits : list ≡ front ++ rest) where
  pub front-spellable : AllByRecursion IsSpellable (opened.records ++ front)
  front-spellable =
      let parts = all-split IsSpellable opened.records list spellable in
      all-append IsSpellable opened.records front parts.0 (all-split IsSpellable front rest (subst (AllByRecursion IsSpellable) splits parts.1)).0

  later-front : (more : List Placed) × (later_of opened list ≡ more ++ later_of opened front)
  later-front = let found = later-append opened front rest in (found.0, ap (later_of opened) splits ∙ found.1)

  front-after : IsLawful (as_opening (base_left opened)) (later_of opened front)
  unfolding later-front
  front-after = lawful-front (as_opening (base_left opened)) later-front.0 (later_of opened front)
      (subst (IsLawful (as_opening (base_left opened))) later-front.1 after)

  front-serial : IsPartlySerialAfter (base_left opened) (tasks_of jobs) (later_of opened front)
  unfolding later-front
  front-serial = partly_serial-front (base_left opened) (tasks_of jobs) later-front.0 (later_of opened front)
      (subst (IsPartlySerialAfter (base_left opened) (tasks_of jobs)) later-front.1 serial)

  pub front-lawful : IsLawful (opening_before opened) (placed (with_records opened front))
  front-lawful = with_records-lawful opened front jobs lawful range some_accounts below front-spellable front-after front-serial

  pub front-goes_on : (sharing : Sharing) → ComeInTurn jobs sharing (placed (with_records opened front))
      → HasNoneBehind jobs sharing (placed (with_records opened front)) → GoesOn opened jobs sharing (with_records opened front)
  front-goes_on = with_records-goes_on opened front jobs lawful range some_accounts below front-spellable front-after front-serial
