-- What follows the state that a front of a lawful list leaves is lawful behind it.
use Rattle.std.proofs.Common.{◌≡◌, ◌≢◌, ◌<◌, ℕ, ◌-◌, ◌*◌, max, false, true≢false, List, [], ◌∷◌, ◌++◌, length, refl, ◌∙◌, sym, subst, arith}
use Rattle.std.specs.List.{AllByRecursion}
use Rattle.log_record.specs.declared.limits.TheConstants.{MOST_LEGS}
use Rattle.log_record.specs.declared.rec.Rec.{Rec}
use Rattle.log_record.specs.declared.rec.Placed.{Placed}
use Rattle.log_record.specs.declared.rec.Rec.TheVariants.{Genesis, Update, Commit, Short, Over, Note}
use Rattle.log_record.specs.Spelling.{IsSpellable}
use Rattle.lock_core.specs.declared.update.Change.{Change}
use Rattle.lock_core.specs.Records.{txn_of, gain, loss}
use Rattle.lock_core.specs.Transactions.{own_records_of, updates_of, has_end, changes_in, ShareNoTransaction}
use Rattle.lock_core.specs.Sums.{BaseState, Opening, no_opening, base_after, IsBalanceOf, AreInRange, last_commit_of, greatest_txn}
use Rattle.lock_core.specs.Tests.{IsGenesis, HasNoGenesis, IsAbove, AreAbove, IsCurrent, IsPaired}
use Rattle.lock_core.specs.Lawful.{IsLawful, base_with, opening_after}
use Rattle.lock_core.proofs.Meeting.{MeetsTests, AreMet, all_passed-meets_tests, meets_tests-all_passed, lawful-met}
use Rattle.lock_core.proofs.Fronts.{lawful-front}
use Rattle.lock_core.proofs.Apart.{own_records_of-append_none, share_none-of_transaction_none}
use Rattle.lock_core.proofs.Appending.{met-balance_of_is_balance, total-append, last_commit_of-append, base_with-append_no_genesis, base_with-no_genesis, not_genesis-opens_ledger, state_after}

module _ (base : BaseState) (l : List Placed) (met : AreMet base l) where
  is_balance-split : (h : List Placed) (account balance : ℕ) → account < base.accounts → ShareNoTransaction h l
      → IsBalanceOf base (h ++ l) account balance → IsBalanceOf (base_after base l) h account balance
  is_balance-split h account balance inside apart is =
      let before = met-balance_of_is_balance base l account inside met in
      let gains = total-append gain account h l apart in let losses = total-append loss account h l apart in omega arith

  last : (h : List Placed) (account : ℕ) → ShareNoTransaction h l → last_commit_of base (h ++ l) account ≡ last_commit_of (base_after base l) h account
  last h account apart = last_commit_of-append base (base_after base l) h l account refl (share_none-of_transaction_none h l apart)

  all_current : (h : List Placed) → ShareNoTransaction h l → (changes : List Change)
      → AllByRecursion (IsCurrent base (h ++ l)) changes → AllByRecursion (IsCurrent (base_after base l) h) changes
  all_current h apart [] all = tt
  all_current h apart (change ∷ changes) all = (all.0 ∙ last h change.account apart, all_current h apart changes all.1)

  in_range : (h : List Placed) → ShareNoTransaction h l → AreInRange base (h ++ l) → AreInRange (base_after base l) h
  in_range h apart range account inside =
      let found = range account inside in (found.0, found.1, is_balance-split h account found.0 inside apart found.2)

  own : (h : List Placed) (rec : Rec) (end : ℕ) → ShareNoTransaction (record { end = end; rec = rec } ∷ h) l
      → own_records_of (txn_of rec) (h ++ l) ≡ own_records_of (txn_of rec) h
  own h rec end apart = own_records_of-append_none (txn_of rec) h l (share_none-of_transaction_none (record { end = end; rec = rec } ∷ h) l apart).0

  -- an entry meets the tests after the base state that l leaves that it meets on both lists
  pub meets-split : (h : List Placed) (entry : Placed) → (IsGenesis entry.rec → ⊥) → ShareNoTransaction (entry ∷ h) l → MeetsTests base (h ++ l) entry
      → MeetsTests (base_after base l) h entry
  meets-split h entry other apart meets = by_kind entry.rec entry.end other apart meets
    where
      by_kind : (rec : Rec) (end : ℕ) → (IsGenesis rec → ⊥) → ShareNoTransaction (record { end = end; rec = rec } ∷ h) l
          → MeetsTests base (h ++ l) (record { end = end; rec = rec }) → MeetsTests (base_after base l) h (record { end = end; rec = rec })
      by_kind (Genesis account balance) end other apart meets = absurd (other tt)
      by_kind (Update txn account delta prev) end other apart meets =
          let same = own h (Update txn account delta prev) end apart in record {
            account = meets.account;
            ended = subst (λ records. has_end records ≡ false) same meets.ended;
            legs = subst (λ records. length (changes_in records) < 2 * MOST_LEGS) same meets.legs;
            pair = subst (λ records. IsPaired (changes_in records) (record { account = account; delta = delta; prev = prev })) same meets.pair;
            prev = meets.prev ∙ last h account apart.1;
            stale = tt;
            balance = λ on. absurd (true≢false (sym on));
          }
      by_kind (Commit txn legs) end other apart meets =
          let same = own h (Commit txn legs) end apart in record {
            account = tt;
            ended = subst (λ records. has_end records ≡ false) same meets.ended;
            legs = subst (λ records. length (changes_in records) ≡ 2 * legs) same meets.legs;
            pair = tt;
            prev = tt;
            stale = all_current h apart.1 (updates_of txn h)
                (subst (λ records. AllByRecursion (IsCurrent base (h ++ l)) (changes_in records)) same meets.stale);
            balance = λ on. in_range (record { end = end; rec = Commit txn legs } ∷ h) apart (meets.balance on);
          }
      by_kind (Short txn leg) end other apart meets =
          let same = own h (Short txn leg) end apart in record {
            account = tt;
            ended = subst (λ records. has_end records ≡ false) same meets.ended;
            legs = subst (λ records. length (changes_in records) ≡ 2 * (leg - 1)) same meets.legs;
            pair = tt;
            prev = tt;
            stale = tt;
            balance = λ on. absurd (true≢false (sym on));
          }
      by_kind (Over txn leg) end other apart meets =
          let same = own h (Over txn leg) end apart in record {
            account = tt;
            ended = subst (λ records. has_end records ≡ false) same meets.ended;
            legs = subst (λ records. length (changes_in records) ≡ 2 * (leg - 1)) same meets.legs;
            pair = tt;
            prev = tt;
            stale = tt;
            balance = λ on. absurd (true≢false (sym on));
          }
      by_kind (Note txn text) end other apart meets =
          let same = own h (Note txn text) end apart in record {
            account = tt;
            ended = subst (λ records. has_end records ≡ false) same meets.ended;
            legs = tt;
            pair = tt;
            prev = tt;
            stale = tt;
            balance = λ on. absurd (true≢false (sym on));
          }

pub lawful-split : (opening : Opening) (txn : ℕ) (h l : List Placed) → IsLawful opening (h ++ l) → 0 < (base_with opening l).accounts
    → HasNoGenesis h → AreAbove txn h → ShareNoTransaction h l → IsLawful (state_after opening l txn) h
lawful-split opening txn [] l lawful some none above apart = tt
lawful-split opening txn (entry ∷ h) l lawful some none above apart =
    let meets : MeetsTests (base_with opening l) (h ++ l) entry =
    subst (λ base. MeetsTests base (h ++ l) entry) (base_with-append_no_genesis opening h l none.1) (all_passed-meets_tests opening (h ++ l) entry lawful.0) in (
      meets_tests-all_passed (state_after opening l txn) h entry
          (not_genesis-opens_ledger (state_after opening l txn) h entry.rec (omega arith) none.0)
          above.0
          (subst (λ base. MeetsTests base h entry) (sym (base_with-no_genesis (state_after opening l txn) h none.1))
          (meets-split (base_with opening l) l (lawful-met opening l (lawful-front opening h l lawful.1)) h entry none.0 apart meets)),
      lawful-split opening txn h l lawful.1 some none.1 above.1 apart.1,
    )

-- ---- the records of a whole log behind its Genesis records

-- a record that can be spelled has a number of at least 1
pub above-spelled : (rec : Rec) → IsSpellable rec → IsAbove 0 rec
above-spelled (Genesis account balance) is other = absurd (other tt)
above-spelled (Update txn account delta prev) is other = let low = is.0.0 in omega arith
above-spelled (Commit txn legs) is other = let low = is.0.0 in omega arith
above-spelled (Short txn leg) is other = let low = is.0.0 in omega arith
above-spelled (Over txn leg) is other = let low = is.0.0 in omega arith
above-spelled (Note txn text) is other = let low = is.0.0 in omega arith

pub greatest-genesis : (l : List Placed) → AllByRecursion (λ (entry : Placed). IsGenesis entry.rec) l → greatest_txn l ≡ 0
greatest-genesis [] all = refl
greatest-genesis (entry ∷ l) all = by_kind entry.rec all.0 (greatest-genesis l all.1)
  where
    by_kind : (rec : Rec) → IsGenesis rec → greatest_txn l ≡ 0 → max (txn_of rec) (greatest_txn l) ≡ 0
    by_kind (Genesis account balance) is before = omega arith
    by_kind (Update txn account delta prev) is before = absurd is
    by_kind (Commit txn legs) is before = absurd is
    by_kind (Short txn leg) is before = absurd is
    by_kind (Over txn leg) is before = absurd is
    by_kind (Note txn text) is before = absurd is

genesis-txn : (rec : Rec) → IsGenesis rec → txn_of rec ≡ 0
genesis-txn (Genesis account balance) is = refl
genesis-txn (Update txn account delta prev) is = absurd is
genesis-txn (Commit txn legs) is = absurd is
genesis-txn (Short txn leg) is = absurd is
genesis-txn (Over txn leg) is = absurd is
genesis-txn (Note txn text) is = absurd is

pub all_genesis-share_none : (h l : List Placed) → AreAbove 0 h → HasNoGenesis h
    → AllByRecursion (λ (entry : Placed). IsGenesis entry.rec) l → ShareNoTransaction h l
all_genesis-share_none [] l above none all = tt
all_genesis-share_none (entry ∷ h) l above none all = (each l all, all_genesis-share_none h l above.1 none.1 all)
  where
    each : (l : List Placed) → AllByRecursion (λ (entry : Placed). IsGenesis entry.rec) l → AllByRecursion (λ (other : Placed). txn_of entry.rec ≢ txn_of other.rec) l
    each [] all = tt
    each (other ∷ l) all =
        ((λ same. let here = above.0 none.0 in let there = genesis-txn other.rec all.0 in omega arith), each l all.1)

pub above-all_spelled : (h : List Placed) → AllByRecursion (λ (entry : Placed). IsSpellable entry.rec) h → AreAbove 0 h
above-all_spelled [] all = tt
above-all_spelled (entry ∷ h) all = (above-spelled entry.rec all.0, above-all_spelled h all.1)

-- an upgraded log: what stands behind the Genesis records of a lawful log is lawful behind the opening that they leave
pub lawful-split_behind_genesis : (h l : List Placed) → AllByRecursion (λ (entry : Placed). IsSpellable entry.rec) h → IsLawful no_opening (h ++ l)
    → 0 < (base_with no_opening l).accounts → HasNoGenesis h → AllByRecursion (λ (entry : Placed). IsGenesis entry.rec) l
    → IsLawful (opening_after no_opening l) h
lawful-split_behind_genesis h l spellable lawful some none all =
    let above = above-all_spelled h spellable in
    subst (λ txn. IsLawful (state_after no_opening l txn) h)
    (let zero_is = greatest-genesis l all in let e : 0 ≡ max 0 (greatest_txn l) = omega arith in e)
    (lawful-split no_opening 0 h l lawful some none above (all_genesis-share_none h l above none all))
