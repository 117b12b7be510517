-- A lawful list, and what is lawful behind the opening that it leaves, is a lawful list: sums, last Commits and tests go on.
use Rattle.std.proofs.Common.{◌≡◌, ◌<◌, ◌≤◌, ℕ, suc, ◌+◌, ◌-◌, ◌*◌, max, ◌&&◌, cond, ℤ, Bool, false, true≢false, List, [], ◌∷◌, ◌++◌, length, refl, ap, ◌∙◌, sym, subst, arith, length-append}
use Rattle.std.specs.List.{AllByRecursion}
use Rattle.log_record.specs.declared.limits.TheConstants.{MOST_LEGS}
use Rattle.log_record.specs.declared.rec.Rec.{Rec}
use Rattle.log_record.specs.declared.rec.Placed.{Placed}
use Rattle.log_record.specs.declared.rec.Rec.TheVariants.{Genesis, Update, Commit, Short, Over, Note}
use Rattle.lock_core.specs.declared.update.Change.{Change}
use Rattle.lock_core.specs.Records.{txn_of, commits, changes_of, gain, loss}
use Rattle.lock_core.specs.Transactions.{of_transaction, own_records_of, updates_of, has_end, changes_in, has_commit, is_committed, touches, ShareNoTransaction}
use Rattle.lock_core.specs.Sums.{BaseState, Opening, base_after, moved, moved_by, total, IsBalanceOf, balance_of, AreInRange, last_commit_of, greatest_txn}
use Rattle.lock_core.specs.Tests.{IsGenesis, HasNoGenesis, OpensLedger, AreAbove, IsCurrent, IsPaired}
use Rattle.lock_core.specs.Lawful.{IsLawful, base_with, with_genesis, base_state_of, opening_after}
use Rattle.lock_core.proofs.OneMore.{has_commit-unended, total-uncommitted, total-no_change}
use Rattle.lock_core.proofs.Meeting.{MeetsTests, AreMet, all_passed-meets_tests, meets_tests-all_passed, lawful-met}
use Rattle.lock_core.proofs.Ranging.{is_balance-equals_balance_of}
use Rattle.lock_core.proofs.KindLemmas.{base_with-accounts_le}
use Rattle.lock_core.proofs.Apart.{own_records_of-append_none, own_records_of-none_append, share_none-of_transaction_none, share_none-sym, numbers_apart-share_none, greatest_txn_below-all_below}

moved_by-append : (counts : ℕ → Bool) (side : ℤ → ℕ) (account : ℕ) (h l : List Placed)
    → moved_by counts side account (h ++ l) ≡ moved_by counts side account h + moved_by counts side account l
moved_by-append counts side account [] l = omega arith
moved_by-append counts side account (entry ∷ h) l = let rest = moved_by-append counts side account h l in omega arith

moved_by-where : (c d : ℕ → Bool) (side : ℤ → ℕ) (account : ℕ) (P : Placed → Type 0) → ((entry : Placed) → P entry → c (txn_of entry.rec) ≡ d (txn_of entry.rec))
    → (h : List Placed) → AllByRecursion P h → moved_by c side account h ≡ moved_by d side account h
moved_by-where c d side account P same [] all = refl
moved_by-where c d side account P same (entry ∷ h) all =
    λ i. cond (same entry all.0 i) (moved side account (changes_of entry.rec)) 0 + moved_by-where c d side account P same h all.1 i

-- sums go on over the joined list
pub total-append : (side : ℤ → ℕ) (account : ℕ) (h l : List Placed) → ShareNoTransaction h l
    → total side account (h ++ l) ≡ total side account h + total side account l
total-append side account h l apart =
    let ours = moved_by-where (λ n. is_committed n (h ++ l)) (λ n. is_committed n h) side account (λ (entry : Placed). of_transaction (txn_of entry.rec) l ≡ [])
    (λ entry none. ap has_commit (own_records_of-append_none (txn_of entry.rec) h l none)) h (share_none-of_transaction_none h l apart) in
    let theirs = moved_by-where (λ n. is_committed n (h ++ l)) (λ n. is_committed n l) side account (λ (entry : Placed). of_transaction (txn_of entry.rec) h ≡ [])
    (λ entry none. ap has_commit (own_records_of-none_append (txn_of entry.rec) h l none)) l (share_none-of_transaction_none l h (share_none-sym h l apart)) in
    moved_by-append (λ n. is_committed n (h ++ l)) side account h l ∙ (λ i. ours i + theirs i)

-- last Commits go on
pub last_commit_of-append : (base later : BaseState) (h l : List Placed) (account : ℕ) → later.last_commit account ≡ last_commit_of base l account
    → AllByRecursion (λ (entry : Placed). of_transaction (txn_of entry.rec) l ≡ []) h
    → last_commit_of base (h ++ l) account ≡ last_commit_of later h account
last_commit_of-append base later [] l account start none = sym start
last_commit_of-append base later (entry ∷ h) l account start none =
    λ i. cond (commits entry.rec && touches account (changes_in (own_records_of-append_none (txn_of entry.rec) h l none.0 i))) entry.end
    (last_commit_of-append base later h l account start none.1 i)

-- where the tests are met, the balance is a balance
pub met-balance_of_is_balance : (base : BaseState) (h : List Placed) (account : ℕ) → account < base.accounts → AreMet base h
    → IsBalanceOf base h account (balance_of base h account)
met-balance_of_is_balance base [] account inside met = omega arith
met-balance_of_is_balance base (entry ∷ h) account inside met = by_kind entry.rec entry.end met.0 (met-balance_of_is_balance base h account inside met.1)
  where
    same : (now : Placed) → ((side : ℤ → ℕ) → total side account (now ∷ h) ≡ total side account h) → IsBalanceOf base h account (balance_of base h account)
        → IsBalanceOf base (now ∷ h) account (balance_of base (now ∷ h) account)
    same now sums before = let gains = sums gain in let losses = sums loss in omega arith

    by_kind : (rec : Rec) (end : ℕ) → MeetsTests base h (record { end = end; rec = rec }) → IsBalanceOf base h account (balance_of base h account)
        → IsBalanceOf base (record { end = end; rec = rec } ∷ h) account (balance_of base (record { end = end; rec = rec } ∷ h) account)
    by_kind (Genesis opened balance) end meets before = let now : Placed = record { end = end; rec = Genesis opened balance } in
        same now (λ side. total-no_change side account now h refl refl) before
    by_kind (Update txn changed delta prev) end meets before = let now : Placed = record { end = end; rec = Update txn changed delta prev } in
        same now (λ side. total-uncommitted side account now h refl (has_commit-unended (own_records_of txn h) meets.ended)) before
    by_kind (Commit txn legs) end meets before = let now : Placed = record { end = end; rec = Commit txn legs } in
        let found = meets.balance refl account inside in
        subst (IsBalanceOf base (now ∷ h) account) (sym (is_balance-equals_balance_of base (now ∷ h) account found.0 found.2)) found.2
    by_kind (Short txn leg) end meets before = let now : Placed = record { end = end; rec = Short txn leg } in
        same now (λ side. total-no_change side account now h refl refl) before
    by_kind (Over txn leg) end meets before = let now : Placed = record { end = end; rec = Over txn leg } in
        same now (λ side. total-no_change side account now h refl refl) before
    by_kind (Note txn text) end meets before = let now : Placed = record { end = end; rec = Note txn text } in
        same now (λ side. total-no_change side account now h refl refl) before

module _ (base : BaseState) (l : List Placed) (met : AreMet base l) where
  -- a balance after the base state that l leaves is one after both lists
  pub is_balance-append : (h : List Placed) (account balance : ℕ) → account < base.accounts → ShareNoTransaction h l
      → IsBalanceOf (base_after base l) h account balance → IsBalanceOf base (h ++ l) account balance
  is_balance-append h account balance inside apart is =
      let before = met-balance_of_is_balance base l account inside met in
      let gains = total-append gain account h l apart in let losses = total-append loss account h l apart in omega arith

  pub balance_of-append : (h : List Placed) (account : ℕ) → account < base.accounts → ShareNoTransaction h l
      → balance_of base (h ++ l) account ≡ balance_of (base_after base l) h account
  balance_of-append h account inside apart =
      let before = met-balance_of_is_balance base l account inside met in
      let gains = total-append gain account h l apart in let losses = total-append loss account h l apart in omega arith

  -- an entry meets the tests on both lists that it meets after the base state that l leaves
  pub meets-append : (h : List Placed) (entry : Placed) → (IsGenesis entry.rec → ⊥) → ShareNoTransaction (entry ∷ h) l → MeetsTests (base_after base l) h entry
      → MeetsTests base (h ++ l) entry
  meets-append h entry other apart meets = by_kind entry.rec entry.end other apart meets
    where
      last : (h : List Placed) (account : ℕ) → ShareNoTransaction h l → last_commit_of (base_after base l) h account ≡ last_commit_of base (h ++ l) account
      last h account apart = sym (last_commit_of-append base (base_after base l) h l account refl (share_none-of_transaction_none h l apart))

      all_current : (h : List Placed) → ShareNoTransaction h l → (changes : List Change)
          → AllByRecursion (IsCurrent (base_after base l) h) changes → AllByRecursion (IsCurrent base (h ++ l)) changes
      all_current h apart [] all = tt
      all_current h apart (change ∷ changes) all = (all.0 ∙ last h change.account apart, all_current h apart changes all.1)

      in_range : (h : List Placed) → ShareNoTransaction h l → AreInRange (base_after base l) h → AreInRange base (h ++ l)
      in_range h apart range account inside =
          let found = range account inside in (found.0, found.1, is_balance-append h account found.0 inside apart found.2)

      own : (rec : Rec) (end : ℕ) → ShareNoTransaction (record { end = end; rec = rec } ∷ h) l → own_records_of (txn_of rec) h ≡ own_records_of (txn_of rec) (h ++ l)
      own rec end apart = sym (own_records_of-append_none (txn_of rec) h l (share_none-of_transaction_none (record { end = end; rec = rec } ∷ h) l apart).0)

      by_kind : (rec : Rec) (end : ℕ) → (IsGenesis rec → ⊥) → ShareNoTransaction (record { end = end; rec = rec } ∷ h) l
          → MeetsTests (base_after base l) h (record { end = end; rec = rec }) → MeetsTests base (h ++ l) (record { end = end; rec = rec })
      by_kind (Genesis account balance) end other apart meets = absurd (other tt)
      by_kind (Update txn account delta prev) end other apart meets =
          let same = own (Update txn account delta prev) end apart in record {
            account = meets.account;
            ended = subst (λ records. has_end records ≡ false) same meets.ended;
            legs = subst (λ records. length (changes_in records) < 2 * MOST_LEGS) same meets.legs;
            pair = subst (λ records. IsPaired (changes_in records) (record { account = account; delta = delta; prev = prev })) same meets.pair;
            prev = meets.prev ∙ last h account apart.1;
            stale = tt;
            balance = λ on. absurd (true≢false (sym on));
          }
      by_kind (Commit txn legs) end other apart meets =
          let same = own (Commit txn legs) end apart in record {
            account = tt;
            ended = subst (λ records. has_end records ≡ false) same meets.ended;
            legs = subst (λ records. length (changes_in records) ≡ 2 * legs) same meets.legs;
            pair = tt;
            prev = tt;
            stale = subst (λ records. AllByRecursion (IsCurrent base (h ++ l)) (changes_in records)) same (all_current h apart.1 (updates_of txn h) meets.stale);
            balance = λ on. in_range (record { end = end; rec = Commit txn legs } ∷ h) apart (meets.balance on);
          }
      by_kind (Short txn leg) end other apart meets =
          let same = own (Short txn leg) end apart in record {
            account = tt;
            ended = subst (λ records. has_end records ≡ false) same meets.ended;
            legs = subst (λ records. length (changes_in records) ≡ 2 * (leg - 1)) same meets.legs;
            pair = tt;
            prev = tt;
            stale = tt;
            balance = λ on. absurd (true≢false (sym on));
          }
      by_kind (Over txn leg) end other apart meets =
          let same = own (Over txn leg) end apart in record {
            account = tt;
            ended = subst (λ records. has_end records ≡ false) same meets.ended;
            legs = subst (λ records. length (changes_in records) ≡ 2 * (leg - 1)) same meets.legs;
            pair = tt;
            prev = tt;
            stale = tt;
            balance = λ on. absurd (true≢false (sym on));
          }
      by_kind (Note txn text) end other apart meets =
          let same = own (Note txn text) end apart in record {
            account = tt;
            ended = subst (λ records. has_end records ≡ false) same meets.ended;
            legs = tt;
            pair = tt;
            prev = tt;
            stale = tt;
            balance = λ on. absurd (true≢false (sym on));
          }

-- ---- behind an account there is no Genesis

pub with_genesis-not_genesis : (rec : Rec) (base : BaseState) → (IsGenesis rec → ⊥) → with_genesis rec base ≡ base
with_genesis-not_genesis (Genesis account balance) base other = absurd (other tt)
with_genesis-not_genesis (Update txn account delta prev) base other = refl
with_genesis-not_genesis (Commit txn legs) base other = refl
with_genesis-not_genesis (Short txn leg) base other = refl
with_genesis-not_genesis (Over txn leg) base other = refl
with_genesis-not_genesis (Note txn text) base other = refl

-- what has no Genesis opens no account
pub base_with-append_no_genesis : (opening : Opening) (h l : List Placed) → HasNoGenesis h → base_with opening (h ++ l) ≡ base_with opening l
base_with-append_no_genesis opening [] l none = refl
base_with-append_no_genesis opening (entry ∷ h) l none = with_genesis-not_genesis entry.rec (base_with opening (h ++ l)) none.0 ∙ base_with-append_no_genesis opening h l none.1

pub base_with-no_genesis : (opening : Opening) (h : List Placed) → HasNoGenesis h → base_with opening h ≡ opening.state
base_with-no_genesis opening [] none = refl
base_with-no_genesis opening (entry ∷ h) none = with_genesis-not_genesis entry.rec (base_with opening h) none.0 ∙ base_with-no_genesis opening h none.1

pub not_genesis-opens_ledger : (opening : Opening) (h : List Placed) (rec : Rec) → 0 < opening.state.accounts + length h → (IsGenesis rec → ⊥) → OpensLedger opening h rec
not_genesis-opens_ledger opening h (Genesis account balance) some other = absurd (other tt)
not_genesis-opens_ledger opening h (Update txn account delta prev) some other = some
not_genesis-opens_ledger opening h (Commit txn legs) some other = some
not_genesis-opens_ledger opening h (Short txn leg) some other = some
not_genesis-opens_ledger opening h (Over txn leg) some other = some
not_genesis-opens_ledger opening h (Note txn text) some other = some

-- behind an account there is no Genesis
other-opens : (opening : Opening) (h : List Placed) (rec : Rec) → 0 < opening.state.accounts → OpensLedger opening h rec → IsGenesis rec → ⊥
other-opens opening h (Genesis account balance) some opens is = let none = opens.0 in absurd (omega arith)
other-opens opening h (Update txn account delta prev) some opens is = is
other-opens opening h (Commit txn legs) some opens is = is
other-opens opening h (Short txn leg) some opens is = is
other-opens opening h (Over txn leg) some opens is = is
other-opens opening h (Note txn text) some opens is = is

pub lawful-no_genesis : (opening : Opening) (h : List Placed) → 0 < opening.state.accounts → IsLawful opening h → HasNoGenesis h
lawful-no_genesis opening [] some lawful = tt
lawful-no_genesis opening (entry ∷ h) some lawful = (other-opens opening h entry.rec some lawful.0.0, lawful-no_genesis opening h some lawful.1)

-- behind an account the tests are met with the opening's state
pub lawful-met_with_opening_state : (opening : Opening) (h : List Placed) → 0 < opening.state.accounts → IsLawful opening h → AreMet opening.state h
lawful-met_with_opening_state opening h some lawful = subst (λ base. AreMet base h) (base_with-no_genesis opening h (lawful-no_genesis opening h some lawful)) (lawful-met opening h lawful)

-- ---- appending

-- the state that l leaves, with any number
abbrev pub state_after : Opening → List Placed → ℕ → Opening
state_after opening l txn = record { state = base_state_of opening l; txn = txn }

pub lawful-append : (opening : Opening) (txn : ℕ) (h l : List Placed) → IsLawful opening l → 0 < (base_with opening l).accounts
    → IsLawful (state_after opening l txn) h → AreAbove opening.txn h → ShareNoTransaction h l
    → IsLawful opening (h ++ l)
lawful-append opening txn [] l before some lawful above apart = before
lawful-append opening txn (entry ∷ h) l before some lawful above apart =
    let none = lawful-no_genesis (state_after opening l txn) (entry ∷ h) some lawful in
    let meets : MeetsTests (base_after (base_with opening l) l) h entry =
    subst (λ base. MeetsTests base h entry) (base_with-no_genesis (state_after opening l txn) h none.1) (all_passed-meets_tests (state_after opening l txn) h entry lawful.0) in (
      meets_tests-all_passed opening (h ++ l) entry
          (not_genesis-opens_ledger opening (h ++ l) entry.rec (let most = base_with-accounts_le opening l in let long = length-append h l in omega arith) none.0)
          above.0
          (subst (λ base. MeetsTests base (h ++ l) entry) (sym (base_with-append_no_genesis opening h l none.1))
          (meets-append (base_with opening l) l (lawful-met opening l before) h entry none.0 apart meets)),
      lawful-append opening txn h l before some lawful.1 above.1 apart.1,
    )

-- numbers that are above the opening's, one by one
pub lawful-above_opening_txn : (opening : Opening) (h : List Placed) → IsLawful opening h → HasNoGenesis h
    → AllByRecursion (λ (entry : Placed). suc opening.txn ≤ txn_of entry.rec) h
lawful-above_opening_txn opening [] lawful none = tt
lawful-above_opening_txn opening (entry ∷ h) lawful none = (let high = lawful.0.1.1.0.0 none.0 in omega arith, lawful-above_opening_txn opening h lawful.1 none.1)

-- numbers from one on are above those below it
pub numbers_from-are_above : (low first : ℕ) → low < first → (h : List Placed) → AllByRecursion (λ (entry : Placed). first ≤ txn_of entry.rec) h → AreAbove low h
numbers_from-are_above low first less [] all = tt
numbers_from-are_above low first less (entry ∷ h) all = ((λ other. let here = all.0 in omega arith), numbers_from-are_above low first less h all.1)

-- what is lawful behind the opening that a list leaves shares no transaction with it, and follows it
pub lawful-append_opening_after : (opening : Opening) (h l : List Placed) → IsLawful opening l → 0 < (base_with opening l).accounts
    → IsLawful (opening_after opening l) h → IsLawful opening (h ++ l)
lawful-append_opening_after opening h l before some lawful =
    let most : ℕ = max opening.txn (greatest_txn l) in
    let all = lawful-above_opening_txn (opening_after opening l) h lawful (lawful-no_genesis (opening_after opening l) h some lawful) in
    lawful-append opening most h l before some lawful
    (numbers_from-are_above opening.txn (suc most) (omega arith) h all)
    (numbers_apart-share_none (suc most) h l all (greatest_txn_below-all_below l (suc most) (omega arith)))
