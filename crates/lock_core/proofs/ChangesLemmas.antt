-- Sums over the changes of one transaction, change by change; and the rows after a Commit.
use Rattle.std.proofs.Common.{◌≡◌, ◌≢◌, ◌<◌, ◌==◌, ◌||◌, ℕ, zero, suc, ◌+◌, cond, ℤ, Bool, true, false, true≢false, List, [], ◌∷◌, ◌++◌, length, take}
use Rattle.std.proofs.Common.{get_or, refl, ap, ◌∙◌, sym, subst, arith, eq-eqb, eqb-true}
use Rattle.std.proofs.lemmas.List.{take_more, length-set, get_or-set_same, get_or-set_other}
use mathlib.Core.Logic.{dite}
use native.Mathlib.Decide.{ℕ_discrete}
use Rattle.lock_core.specs.declared.update.Change.{Change}
use Rattle.lock_core.specs.Sums.{moved}
use Rattle.log_record.specs.Spelling.{IsBalance}
use Rattle.lock_core.specs.Records.{gain, loss}
use Rattle.lock_core.specs.Transactions.{touches}
use Rattle.lock_core.specs.AccountRows.{row, IsBalanceAfter, AppliesToRow, AppliesToAccount, AppliesChanges, AreRowsInRange}
use Rattle.lock_core.proofs.OneMore.{moved-append, or_false-both_false, or-false, or-true}

pub moved-take_more : (side : ℤ → ℕ) (account : ℕ) (changes : List Change) (i : ℕ) (change : Change) → i < length changes
    → change ≡ get_or changes i change
    → moved side account (take (i + 1) changes) ≡ moved side account (take i changes) + cond (change.account == account) (side change.delta) 0
moved-take_more side account changes i change inside is =
    ap (moved side account) (take_more changes i change inside ∙ ap (λ x. take i changes ++ x ∷ []) (sym is))
    ∙ moved-append side account (take i changes) (change ∷ [])
    ∙ omega arith

pub moved-untouched : (side : ℤ → ℕ) (account : ℕ) (changes : List Change) → touches account changes ≡ false → moved side account changes ≡ 0
moved-untouched side account [] off = refl
moved-untouched side account (change ∷ changes) off =
    let parts = or_false-both_false (change.account == account) (touches account changes) off in
    let here : cond {A = ℕ} (change.account == account) (side change.delta) 0 ≡ 0 = ap (λ b. cond {A = ℕ} b (side change.delta) 0) parts.0 in
    let rest = moved-untouched side account changes parts.1 in omega arith

-- the accounts of these changes, which are some of the Commit's, are applied, and the others are as they were
pub record AppliesToTouched (some changes : List Change) (end : ℕ) (old new : List (ℕ × ℕ)) : Type 0 where
  pub count : length new ≡ length old
  pub done : (account : ℕ) → touches account some ≡ true → AppliesToRow changes end account (row old account) (row new account)
  pub left : (account : ℕ) → touches account some ≡ false → row new account ≡ row old account

pub touches-more : (account : ℕ) (changes : List Change) (change : Change) → touches account (changes ++ change ∷ []) ≡ (touches account changes || (change.account == account))
touches-more account [] change = or-false (change.account == account)
touches-more account (first ∷ changes) change = by_case (first.account == account) (touches-more account changes change)
  where
    by_case : (b : Bool) → touches account (changes ++ change ∷ []) ≡ (touches account changes || (change.account == account))
        → (b || touches account (changes ++ change ∷ [])) ≡ ((b || touches account changes) || (change.account == account))
    by_case true rest = refl
    by_case false rest = rest

-- a change on an account that is applied adds nothing
pub applies_touched-push_touched : (some changes : List Change) (change : Change) (end : ℕ) (old new : List (ℕ × ℕ)) → touches change.account some ≡ true
    → AppliesToTouched some changes end old new → AppliesToTouched (some ++ change ∷ []) changes end old new
applies_touched-push_touched some changes change end old new on before = record {
  count = before.count;
  done = λ account touched. by_case account (touches account some) refl (sym (touches-more account some change) ∙ touched);
  left = λ account untouched. before.left account (or_false-both_false (touches account some) (change.account == account) (sym (touches-more account some change) ∙ untouched)).0;
}
  where
    by_case : (account : ℕ) (b : Bool) → touches account some ≡ b → (touches account some || (change.account == account)) ≡ true
        → AppliesToRow changes end account (row old account) (row new account)
    by_case account true is either = before.done account is
    by_case account false is either =
        let same : change.account ≡ account = eqb-true change.account account (sym (ap (λ b. b || (change.account == account)) is) ∙ either) in
        subst (λ a. AppliesToRow changes end a (row old a) (row new a)) same (before.done change.account on)

-- a change on another account applies that one
pub applies_touched-push_untouched : (some changes : List Change) (change : Change) (end : ℕ) (old new newer : List (ℕ × ℕ)) → touches change.account some ≡ false
    → touches change.account changes ≡ true → change.account < length old → AppliesToTouched some changes end old new → AppliesToAccount changes change.account end new newer
    → AppliesToTouched (some ++ change ∷ []) changes end old newer
applies_touched-push_untouched some changes change end old new newer off on inside before here =
    let counted = before.count in
    let grown = ap length here.rows ∙ length-set new change.account (here.balance, end) in
    record {
      count = omega arith;
      done = λ account touched. dite (ℕ_discrete account change.account)
          (λ same. subst (λ a. AppliesToRow changes end a (row old a) (row newer a)) (sym same) own)
          (λ other. subst (AppliesToRow changes end account (row old account)) (sym (row-other account other))
          (before.done account (by_other account other (touches account some) refl (sym (touches-more account some change) ∙ touched))));
      left = λ account untouched.
          let parts = or_false-both_false (touches account some) (change.account == account) (sym (touches-more account some change) ∙ untouched) in
          row-other account (λ same. true≢false (sym (eq-eqb change.account account (sym same)) ∙ parts.1)) ∙ before.left account parts.0;
    }
  where
    row-other : (account : ℕ) → account ≢ change.account → row newer account ≡ row new account
    row-other account other =
        ap (λ rows. row rows account) here.rows ∙ get_or-set_other new change.account account (here.balance, end) (0, 0) other

    row-own : row newer change.account ≡ (here.balance, end)
    row-own = let counted = before.count in
        ap (λ rows. row rows change.account) here.rows ∙ get_or-set_same new change.account (here.balance, end) (0, 0) (omega arith)

    own : AppliesToRow changes end change.account (row old change.account) (row newer change.account)
    own = record {
      range = subst IsBalance (sym (ap (λ (v : ℕ × ℕ). v.0) row-own)) here.range;
      balance = subst (IsBalanceAfter changes change.account (row old change.account).0) (sym (ap (λ (v : ℕ × ℕ). v.0) row-own))
          (subst (λ (v : ℕ × ℕ). IsBalanceAfter changes change.account v.0 here.balance) (before.left change.account off) here.after);
      last = ap (λ (v : ℕ × ℕ). v.1) row-own ∙ sym (ap (λ b. cond b end (row old change.account).1) on);
    }

    by_other : (account : ℕ) → account ≢ change.account → (b : Bool) → touches account some ≡ b → (touches account some || (change.account == account)) ≡ true
        → touches account some ≡ true
    by_other account other true is either = is
    by_other account other false is either =
        absurd (other (sym (eqb-true change.account account (sym (ap (λ b. b || (change.account == account)) is) ∙ either))))

-- with all changes, all rows are applied
pub applies_touched-applies_changes : (changes : List Change) (end : ℕ) (old new : List (ℕ × ℕ)) → AreRowsInRange old
    → AppliesToTouched changes changes end old new → AppliesChanges changes end old new
applies_touched-applies_changes changes end old new range applied = record {
  count = applied.count;
  each = λ account inside. by_case account inside (touches account changes) refl;
}
  where
    by_case : (account : ℕ) → account < length old → (b : Bool) → touches account changes ≡ b → AppliesToRow changes end account (row old account) (row new account)
    by_case account inside true is = applied.done account is
    by_case account inside false is =
        let same = applied.left account is in
        let gains = moved-untouched gain account changes is in let losses = moved-untouched loss account changes is in
        let balance = ap (λ (v : ℕ × ℕ). v.0) same in
        record {
          range = subst IsBalance (sym balance) (range account inside);
          balance = omega arith;
          last = ap (λ (v : ℕ × ℕ). v.1) same ∙ sym (ap (λ b. cond b end (row old account).1) is);
        }

-- a change of the list touches its account
pub touches-at : (changes : List Change) (i : ℕ) (change : Change) → i < length changes → change ≡ get_or changes i change → touches change.account changes ≡ true
touches-at [] i change inside is = absurd (omega arith)
touches-at (first ∷ changes) zero change inside is =
    ap (λ b. b || touches change.account changes) (eq-eqb first.account change.account (sym (ap (λ (c : Change). c.account) is)))
touches-at (first ∷ changes) (suc i) change inside is =
    ap (λ b. (first.account == change.account) || b) (touches-at changes i change (omega arith) is) ∙ or-true (first.account == change.account)
