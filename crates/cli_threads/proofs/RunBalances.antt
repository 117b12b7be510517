-- An account that was given back uncommitted had its balance in a front of the whole list.
use Rattle.std.proofs.Common.{◌≡◌, ◌<◌, ◌≤◌, ℕ, false, List, [], ◌++◌, ap, ◌∙◌, sym, subst, append_assoc}
use Rattle.log_record.specs.declared.rec.Rec.{Rec}
use Rattle.log_record.specs.declared.rec.Placed.{Placed}
use Rattle.lock_core.specs.History.{end_from}
use Rattle.lock_core.specs.Lawful.{IsLawful, base_with}
use Rattle.lock_core.specs.Sums.{as_opening, BaseState, IsBalanceOf}
use Rattle.lock_core.specs.Transactions.{ShareNoTransaction}
use Rattle.lock_core.proofs.Appending.{base_with-append_no_genesis, lawful-no_genesis}
use Rattle.lock_core.proofs.Fronts.{lawful-front}
use Rattle.lock_core.proofs.ListLemmas.{all-split}
use Rattle.lock_core.proofs.SoundLemmas.{is_balance-lawful_append}
use Rattle.log_recovery.specs.Opened.{OpenedList, list_end, placed, with_records, opening_before, base_in, base_left}
use Rattle.log_recovery.proofs.ListingLemmas.{end_from-history}
use Rattle.log_recovery.proofs.OpenedLemmas.{list_end-more, end-left}
use Rattle.log_rule.specs.declared.view.Given.{Given}
use Rattle.log_rule.specs.Accounts.{WentBack}
use Rattle.cli_threads.specs.RunStops.{HadBalance}
use Rattle.cli_threads.proofs.RunHistory.{later_of, placed-with_records, history-front}

module _ (opened : OpenedList) (list : List Rec) (lawful : IsLawful (opening_before opened) (placed opened))
    (some_accounts : 0 < (base_in opened).accounts)
    (after : IsLawful (as_opening (base_left opened)) (later_of opened list))
    (apart : ShareNoTransaction (later_of opened list) (placed opened)) where
  abbrev base : BaseState
  base = base_left opened

  -- a balance in a front of what follows the opened list is one in both lists
  balance-both : (later front : List Placed) (account balance : ℕ) → later_of opened list ≡ later ++ front
      → IsBalanceOf base front account balance
      → IsBalanceOf (base_with (opening_before opened) (front ++ placed opened)) (front ++ placed opened) account balance
  balance-both later front account balance whole is =
      let front-lawful = lawful-front (as_opening base) later front (subst (IsLawful (as_opening base)) whole after) in
      let apart-front = (all-split _ later front (subst (λ h. ShareNoTransaction h (placed opened)) whole apart)).1 in
      subst (λ from. IsBalanceOf from (front ++ placed opened) account balance)
      (sym (base_with-append_no_genesis (opening_before opened) front (placed opened) (lawful-no_genesis (as_opening base) front some_accounts front-lawful)))
      (is_balance-lawful_append (opening_before opened) front (placed opened) account balance lawful apart-front is)

  balance-front : (later : List Placed) (front : List Rec) (account balance : ℕ) → later_of opened list ≡ later ++ later_of opened front
      → IsBalanceOf base (later_of opened front) account balance
      → IsBalanceOf (base_in (with_records opened front)) (placed (with_records opened front)) account balance
  balance-front later front account balance whole is =
      subst (λ (h : List Placed). IsBalanceOf (base_with (opening_before opened) h) h account balance) (sym (placed-with_records opened front))
      (balance-both later (later_of opened front) account balance whole is)

  end-front : (front : List Rec) → end_from base.end (later_of opened front) ≡ list_end (with_records opened front)
  end-front front =
      ap (λ from. end_from from (later_of opened front)) (end-left opened)
      ∙ end_from-history (list_end opened) [] front
      ∙ sym (list_end-more opened front)

  pub WentBack-had_balance : (given : Given) → WentBack base (later_of opened list) given → given.committed ≡ false
      → HadBalance (with_records opened list) given.tail given.account given.balance
  WentBack-had_balance given went uncommitted =
      let of = went uncommitted in
      let found = history-front (list_end opened) list of.later of.front of.whole in record {
        front = opened.records ++ found.0;
        rest = found.1;
        whole = ap (λ l. opened.records ++ l) found.2 ∙ sym (append_assoc opened.records found.0 found.1);
        above = subst (λ (end : ℕ). given.tail ≤ end) (ap (end_from base.end) found.3 ∙ end-front found.0) of.tail;
        balance_is = balance-front of.later found.0 given.account given.balance (of.whole ∙ ap (λ h. of.later ++ h) found.3)
            (subst (λ h. IsBalanceOf base h given.account given.balance) found.3 of.balance);
      }
