-- How what a judge keeps goes on by one entry.
use Rattle.std.proofs.Common.{◌≡◌, ℕ, false, true≢false, List, ◌∷◌, ◌<◌, length, Result, Ok, Err, refl, sym, subst, ◌∙◌, arith}
use Rattle.std.specs.Prelude.{OnOk, IfErr, Some}
use Rattle.std.specs.List.{AllByRecursion}
use Rattle.std.proofs.lemmas.Option.{slice_get-get_or}
use Rattle.lsn_space.specs.Accounts.{Accounts}
use Rattle.log_record.specs.declared.rec.Rec.{Rec}
use Rattle.log_record.specs.declared.rec.Placed.{Placed}
use Rattle.log_record.specs.declared.rec.Rec.TheVariants.{Genesis, Update, Commit, Short, Over, Note}
use Rattle.lsn_space.specs.declared.opening.TheConstants.{MOST_ACCOUNTS}
use Rattle.lock_core.specs.declared.reason.Why.{Why}
use Rattle.lock_core.specs.Records.{commits}
use Rattle.lock_core.specs.Transactions.{own_records_of}
use Rattle.lock_core.specs.Sums.{BaseState, Opening, ShowsAccounts}
use Rattle.lock_core.specs.Tests.{IsGenesis}
use Rattle.lock_core.specs.Lawful.{tests, Passes, IsLawful, base_with}
use Rattle.lock_core.specs.Faults.{IsFirstFailing}
use Rattle.lock_core.specs.AccountRows.{row, KeepsRows}
use Rattle.lock_core.specs.Judging.{IsJudged, Judges}
use Rattle.lock_core.proofs.OneMore.{has_commit-unended, total-uncommitted, total-no_change}
use Rattle.lock_core.proofs.Meeting.{all_passed-meets_tests}
use Rattle.lock_core.proofs.Ranging.{is_balance-equals_balance_of}
use Rattle.lock_core.proofs.KindLemmas.{keeps_rows-first_unmoved}

module _ (opening : Opening) where
  -- an entry that passes all tests, and neither opens an account nor commits, leaves the accounts
  pub judged-first_same_accounts : (accounts : Accounts) (h : List Placed) (end : ℕ) (rec : Rec) → (IsGenesis rec → ⊥) → commits rec ≡ false
      → IsJudged opening accounts h → AllByRecursion (Passes opening h (record { end = end; rec = rec })) tests → IsJudged opening accounts (record { end = end; rec = rec } ∷ h)
  judged-first_same_accounts accounts h end (Genesis account balance) other plain before passes = absurd (other tt)
  judged-first_same_accounts accounts h end (Commit txn legs) other plain before passes = absurd (true≢false plain)
  judged-first_same_accounts accounts h end (Update txn account delta prev) other plain before passes =
      let entry : Placed = record { end = end; rec = Update txn account delta prev } in
      let unended = (all_passed-meets_tests opening h entry passes).ended in
      record {
        lawful = (passes, before.lawful);
        room = before.room;
        rows = keeps_rows-first_unmoved accounts.rows (base_with opening h) h entry (λ side a. total-uncommitted side a entry h refl
            (has_commit-unended (own_records_of txn h) unended)) (λ a. refl) before.rows;
      }
  judged-first_same_accounts accounts h end (Short txn leg) other plain before passes =
      let entry : Placed = record { end = end; rec = Short txn leg } in
      record {
        lawful = (passes, before.lawful);
        room = before.room;
        rows = keeps_rows-first_unmoved accounts.rows (base_with opening h) h entry (λ side a. total-no_change side a entry h refl refl) (λ a. refl) before.rows;
      }
  judged-first_same_accounts accounts h end (Over txn leg) other plain before passes =
      let entry : Placed = record { end = end; rec = Over txn leg } in
      record {
        lawful = (passes, before.lawful);
        room = before.room;
        rows = keeps_rows-first_unmoved accounts.rows (base_with opening h) h entry (λ side a. total-no_change side a entry h refl refl) (λ a. refl) before.rows;
      }
  judged-first_same_accounts accounts h end (Note txn text) other plain before passes =
      let entry : Placed = record { end = end; rec = Note txn text } in
      record {
        lawful = (passes, before.lawful);
        room = before.room;
        rows = keeps_rows-first_unmoved accounts.rows (base_with opening h) h entry (λ side a. total-no_change side a entry h refl refl) (λ a. refl) before.rows;
      }

  -- the answer on an entry whose record is known
  module _ {A : Type 0} (h : List Placed) (entry : Placed) (rec : Rec) (is : entry.rec ≡ rec) (result : Result A Why) where
    abbrev known : Placed
    known = record { end = entry.end; rec = rec }

    same : (X : Placed → Type 0) → X known → X entry
    same X here = subst (λ r. X (record { end = entry.end; rec = r })) (sym is) here

    pub judges-err_first_failing : Judges opening h known result → IfErr result (IsFirstFailing (Passes opening h entry))
    judges-err_first_failing judges = same (λ e. IfErr result (IsFirstFailing (Passes opening h e))) (by_case result judges)
      where
        by_case : (r : Result A Why) → Judges opening h known r → IfErr r (IsFirstFailing (Passes opening h known))
        by_case (Ok x) judges = tt
        by_case (Err why) judges = judges

    pub judges-ok_judged_same_accounts : (accounts : Accounts) → (IsGenesis rec → ⊥) → commits rec ≡ false → IsJudged opening accounts h → Judges opening h known result
        → OnOk result (IsJudged opening accounts (entry ∷ h))
    judges-ok_judged_same_accounts accounts other plain before judges = same (λ e. OnOk result (IsJudged opening accounts (e ∷ h))) (by_case result judges)
      where
        by_case : (r : Result A Why) → Judges opening h known r → OnOk r (IsJudged opening accounts (known ∷ h))
        by_case (Ok x) judges = judged-first_same_accounts accounts h entry.end rec other plain before judges
        by_case (Err why) judges = tt

    pub judges-ok_judged_by_rows : (accounts : Accounts) → IsLawful opening h → Judges opening h known result
        → OnOk result ((accounts.room ≡ MOST_ACCOUNTS) × KeepsRows accounts.rows (base_with opening (known ∷ h)) (known ∷ h)) → OnOk result (IsJudged opening accounts (entry ∷ h))
    judges-ok_judged_by_rows accounts lawful judges kept = same (λ e. OnOk result (IsJudged opening accounts (e ∷ h))) (by_case result judges kept)
      where
        by_case : (r : Result A Why) → Judges opening h known r → OnOk r ((accounts.room ≡ MOST_ACCOUNTS) × KeepsRows accounts.rows (base_with opening (known ∷ h)) (known ∷ h))
            → OnOk r (IsJudged opening accounts (known ∷ h))
        by_case (Ok x) judges kept = record { lawful = (judges, lawful); room = kept.0; rows = kept.1 }
        by_case (Err why) judges kept = tt

-- the rows that are kept are the accounts
pub keeps_rows-shows_accounts : (rows : List (ℕ × ℕ)) (base : BaseState) (h : List Placed) → KeepsRows rows base h → ShowsAccounts rows base h
keeps_rows-shows_accounts rows base h kept = let counted = kept.count in record {
  count = kept.count;
  each = λ a below. let inside : a < length rows = omega arith in
      slice_get-get_or rows a (0, 0) inside
      ∙ (λ i. Some (sym (is_balance-equals_balance_of base h a (row rows a).0 (kept.balance a inside)) i, kept.last a inside i));
}
