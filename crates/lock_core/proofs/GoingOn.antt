-- What a list leaves behind an opening, in two parts or whole; and what is lawful behind the same state with another number.
use Rattle.std.proofs.Common.{◌≡◌, ◌<◌, ◌≤◌, ℕ, suc, max, List, [], ◌∷◌, ◌++◌, refl, ap, ◌∙◌, sym, subst, arith}
use Rattle.std.specs.List.{AllByRecursion}
use Rattle.log_record.specs.declared.rec.Rec.{Rec}
use Rattle.log_record.specs.declared.rec.Placed.{Placed}
use Rattle.log_record.specs.declared.rec.Rec.TheVariants.{Genesis, Update, Commit, Short, Over, Note}
use Rattle.lock_core.specs.History.{end_from}
use Rattle.lock_core.specs.Records.{txn_of}
use Rattle.lock_core.specs.Transactions.{ShareNoTransaction}
use Rattle.lock_core.specs.Sums.{BaseState, Opening, as_opening, balance_of, last_commit_of, greatest_txn}
use Rattle.lock_core.specs.Tests.{IsGenesis, HasNoGenesis, OpensLedger, AreAbove}
use Rattle.lock_core.specs.Lawful.{tests, with_genesis, base_with, Passes, IsLawful, base_state_of, opening_after}
use Rattle.lock_core.proofs.Meeting.{MeetsTests, all_passed-meets_tests, meets_tests-all_passed, lawful-met}
use Rattle.lock_core.proofs.Apart.{share_none-of_transaction_none, numbers_apart-share_none, greatest_txn_below-all_below}
use Rattle.lock_core.proofs.Appending.{base_with-append_no_genesis, base_with-no_genesis, not_genesis-opens_ledger, lawful-no_genesis}
use Rattle.lock_core.proofs.Appending.{lawful-above_opening_txn, numbers_from-are_above, balance_of-append, last_commit_of-append}

greatest-append : (h l : List Placed) → greatest_txn (h ++ l) ≡ max (greatest_txn h) (greatest_txn l)
greatest-append [] l = omega arith
greatest-append (entry ∷ h) l = let more = greatest-append h l in omega arith

end-append : (start : ℕ) (h l : List Placed) → end_from start (h ++ l) ≡ end_from (end_from start l) h
end-append start [] l = refl
end-append start (entry ∷ h) l = refl

pub opening_after-txn_append : (opening : Opening) (h l : List Placed) → (opening_after opening (h ++ l)).txn ≡ (opening_after (opening_after opening l) h).txn
opening_after-txn_append opening h l = let both = greatest-append h l in omega arith

module _ (opening : Opening) (h l : List Placed) (some : 0 < (base_with opening l).accounts) (lawful : IsLawful (opening_after opening l) h) where
  none : HasNoGenesis h
  none = lawful-no_genesis (opening_after opening l) h some lawful

  same-base : base_with opening (h ++ l) ≡ base_with opening l
  same-base = base_with-append_no_genesis opening h l none

  same-after : base_with (opening_after opening l) h ≡ base_state_of opening l
  same-after = base_with-no_genesis (opening_after opening l) h none

  pub opening_after-accounts_append : (opening_after opening (h ++ l)).state.accounts ≡ (opening_after (opening_after opening l) h).state.accounts
  opening_after-accounts_append = ap (λ (base : BaseState). base.accounts) same-base ∙ sym (ap (λ (base : BaseState). base.accounts) same-after)

  pub opening_after-end_append : (opening_after opening (h ++ l)).state.end ≡ (opening_after (opening_after opening l) h).state.end
  opening_after-end_append = ap (λ (base : BaseState). end_from base.end (h ++ l)) same-base ∙ end-append (base_with opening l).end h l
      ∙ sym (ap (λ (base : BaseState). end_from base.end h) same-after)

module _ (opening : Opening) (h l : List Placed) (before : IsLawful opening l) where
  -- numbers above all of the list before share no transaction with it
  pub lawful_after-share_none : 0 < (base_with opening l).accounts → IsLawful (opening_after opening l) h → ShareNoTransaction h l
  lawful_after-share_none some lawful = let most : ℕ = max opening.txn (greatest_txn l) in
      numbers_apart-share_none (suc most) h l (lawful-above_opening_txn (opening_after opening l) h lawful (none opening h l some lawful)) (greatest_txn_below-all_below l (suc most) (omega arith))

  pub opening_after-balance_append : (account : ℕ) → account < (base_with opening l).accounts → IsLawful (opening_after opening l) h
      → (opening_after opening (h ++ l)).state.balance account ≡ (opening_after (opening_after opening l) h).state.balance account
  opening_after-balance_append account inside lawful = let some : 0 < (base_with opening l).accounts = omega arith in
      ap (λ (base : BaseState). balance_of base (h ++ l) account) (same-base opening h l some lawful)
      ∙ balance_of-append (base_with opening l) l (lawful-met opening l before) h account inside (lawful_after-share_none some lawful)
      ∙ sym (ap (λ (base : BaseState). balance_of base h account) (same-after opening h l some lawful))

  pub opening_after-last_commit_append : 0 < (base_with opening l).accounts → (account : ℕ) → IsLawful (opening_after opening l) h
      → (opening_after opening (h ++ l)).state.last_commit account ≡ (opening_after (opening_after opening l) h).state.last_commit account
  opening_after-last_commit_append some account lawful = ap (λ (base : BaseState). last_commit_of base (h ++ l) account) (same-base opening h l some lawful)
      ∙ last_commit_of-append (base_with opening l) (base_state_of opening l) h l account refl (share_none-of_transaction_none h l (lawful_after-share_none some lawful))
      ∙ sym (ap (λ (base : BaseState). last_commit_of base h account) (same-after opening h l some lawful))

-- for a table: an entry that meets the tests with the opening's state passes them all
pub meets_opening_state-all_passed : (opening : Opening) (h : List Placed) (entry : Placed) → 0 < opening.state.accounts → IsLawful opening h
    → (IsGenesis entry.rec → ⊥) → opening.txn < txn_of entry.rec → MeetsTests opening.state h entry → AllByRecursion (Passes opening h entry) tests
meets_opening_state-all_passed opening h entry some lawful other above meets =
    meets_tests-all_passed opening h entry (not_genesis-opens_ledger opening h entry.rec (omega arith) other) (λ is. above)
    (subst (λ base. MeetsTests base h entry) (sym (base_with-no_genesis opening h (lawful-no_genesis opening h some lawful))) meets)

-- ---- behind the same state, and another number

base_with-number : (opening : Opening) (txn : ℕ) (h : List Placed) → base_with (record opening { txn = txn }) h ≡ base_with opening h
base_with-number opening txn [] = refl
base_with-number opening txn (entry ∷ h) = ap (with_genesis entry.rec) (base_with-number opening txn h)

opens-number : (opening : Opening) (txn : ℕ) (h : List Placed) (rec : Rec) → OpensLedger opening h rec → OpensLedger (record opening { txn = txn }) h rec
opens-number opening txn h (Genesis account balance) opens = opens
opens-number opening txn h (Update number account delta prev) opens = opens
opens-number opening txn h (Commit number legs) opens = opens
opens-number opening txn h (Short number leg) opens = opens
opens-number opening txn h (Over number leg) opens = opens
opens-number opening txn h (Note number text) opens = opens

pub lawful-other_opening_txn : (opening : Opening) (txn : ℕ) (h : List Placed) → IsLawful opening h
    → AreAbove txn h → IsLawful (record opening { txn = txn }) h
lawful-other_opening_txn opening txn [] lawful above = tt
lawful-other_opening_txn opening txn (entry ∷ h) lawful above = (
  meets_tests-all_passed (record opening { txn = txn }) h entry (opens-number opening txn h entry.rec lawful.0.0) above.0
      (subst (λ base. MeetsTests base h entry) (sym (base_with-number opening txn h)) (all_passed-meets_tests opening h entry lawful.0)),
  lawful-other_opening_txn opening txn h lawful.1 above.1,
)

-- what is lawful behind the state that a list leaves, with numbers above all of the list, is lawful behind what the list leaves
pub lawful_as_opening-lawful_after : (opening : Opening) (first : ℕ) (h l : List Placed) → IsLawful (as_opening (base_state_of opening l)) h
    → AllByRecursion (λ (entry : Placed). first ≤ txn_of entry.rec) h → (opening_after opening l).txn < first → IsLawful (opening_after opening l) h
lawful_as_opening-lawful_after opening first h l lawful from less =
    lawful-other_opening_txn (as_opening (base_state_of opening l)) (opening_after opening l).txn h lawful (numbers_from-are_above (opening_after opening l).txn first less h from)
