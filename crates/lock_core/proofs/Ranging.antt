-- Every account of a lawful history has a balance, in its range.
use Rattle.std.proofs.Common.{◌≡◌, ℕ, cond, ℤ, List, [], ◌∷◌, refl, ap, sym, subst, arith, eq-eqb, ne_eqb}
use mathlib.Core.Logic.{dite}
use native.Mathlib.Decide.{ℕ_discrete, dec_lt}
use Rattle.log_record.specs.declared.rec.Rec.{Rec}
use Rattle.log_record.specs.declared.rec.Placed.{Placed}
use Rattle.log_record.specs.declared.rec.Rec.TheVariants.{Genesis, Update, Commit, Short, Over, Note}
use Rattle.std.specs.List.{AllByRecursion}
use Rattle.log_record.specs.Spelling.{IsBalance, IsSpellable}
use Rattle.lock_core.specs.Records.{gain, loss}
use Rattle.lock_core.specs.Transactions.{own_records_of}
use Rattle.lock_core.specs.Sums.{BaseState, Opening, total, IsBalanceOf, balance_of, BeginsInRange, AreInRange}
use Rattle.lock_core.specs.Tests.{OpensLedger}
use Rattle.lock_core.specs.Lawful.{IsLawful, base_with, with_genesis}
use Rattle.lock_core.proofs.Meeting.{MeetsTests, AreMet, lawful-met}
use Rattle.lock_core.proofs.KindLemmas.{all_genesis-accounts_count}
use Rattle.lock_core.proofs.OneMore.{has_commit-unended, total-uncommitted, total-no_change}

pub is_balance-equals_balance_of : (base : BaseState) (h : List Placed) (account balance : ℕ) → IsBalanceOf base h account balance → balance_of base h account ≡ balance
is_balance-equals_balance_of base h account balance is = omega arith

pub in_range-same : (base : BaseState) (h h' : List Placed) → ((side : ℤ → ℕ) (a : ℕ) → total side a h' ≡ total side a h) → AreInRange base h → AreInRange base h'
in_range-same base h h' same range account below =
    let before = range account below in let gains = same gain account in let losses = same loss account in
    let sum = before.2 in (before.0, before.1, omega arith)

in_range-more : (base : BaseState) (h : List Placed) (rec : Rec) (end : ℕ) → MeetsTests base h (record { end = end; rec = rec })
    → AreInRange base h → AreInRange base (record { end = end; rec = rec } ∷ h)
in_range-more base h (Commit txn legs) end meets range = meets.balance refl
in_range-more base h (Genesis account balance) end meets range =
    in_range-same base h (record { end = end; rec = Genesis account balance } ∷ h) (λ side a. total-no_change side a (record { end = end; rec = Genesis account balance }) h refl refl) range
in_range-more base h (Update txn account delta prev) end meets range =
    in_range-same base h (record { end = end; rec = Update txn account delta prev } ∷ h)
    (λ side a. total-uncommitted side a (record { end = end; rec = Update txn account delta prev }) h refl (has_commit-unended (own_records_of txn h) meets.ended)) range
in_range-more base h (Short txn leg) end meets range =
    in_range-same base h (record { end = end; rec = Short txn leg } ∷ h) (λ side a. total-no_change side a (record { end = end; rec = Short txn leg }) h refl refl) range
in_range-more base h (Over txn leg) end meets range =
    in_range-same base h (record { end = end; rec = Over txn leg } ∷ h) (λ side a. total-no_change side a (record { end = end; rec = Over txn leg }) h refl refl) range
in_range-more base h (Note txn text) end meets range =
    in_range-same base h (record { end = end; rec = Note txn text } ∷ h) (λ side a. total-no_change side a (record { end = end; rec = Note txn text }) h refl refl) range

pub met-in_range : (base : BaseState) (h : List Placed) → BeginsInRange base → AreMet base h → AreInRange base h
met-in_range base [] first met = λ account below. (base.balance account, first account below, refl)
met-in_range base (entry ∷ h) first met = in_range-more base h entry.rec entry.end met.0 (met-in_range base h first met.1)

base_with-range : (opening : Opening) → BeginsInRange opening.state → (h : List Placed) → AllByRecursion (λ (entry : Placed). IsSpellable entry.rec) h
    → IsLawful opening h → BeginsInRange (base_with opening h)
base_with-range opening first [] spellable lawful = first
base_with-range opening first (entry ∷ h) spellable lawful = by_kind entry.rec spellable.0 lawful.0.0 (base_with-range opening first h spellable.1 lawful.1)
  where
    by_kind : (rec : Rec) → IsSpellable rec → OpensLedger opening h rec → BeginsInRange (base_with opening h) → BeginsInRange (with_genesis rec (base_with opening h))
    by_kind (Genesis own balance) is opens before account below = dite (ℕ_discrete account own)
        (λ same. subst IsBalance (sym (ap (λ b. cond b balance ((base_with opening h).balance account)) (eq-eqb account own same))) is.1)
        (λ other. subst IsBalance (sym (ap (λ b. cond b balance ((base_with opening h).balance account)) (ne_eqb account own other)))
        (before account (let count = all_genesis-accounts_count opening h opens.1 in let none = opens.0 in let next = opens.2 in
        dite (dec_lt account (base_with opening h).accounts) (λ inside. inside) (λ past. absurd (other (omega arith))))))
    by_kind (Update txn own delta prev) is opens before account below = before account below
    by_kind (Commit txn legs) is opens before account below = before account below
    by_kind (Short txn leg) is opens before account below = before account below
    by_kind (Over txn leg) is opens before account below = before account below
    by_kind (Note txn text) is opens before account below = before account below

pub lawful-in_range : (opening : Opening) (h : List Placed) → BeginsInRange opening.state → AllByRecursion (λ (entry : Placed). IsSpellable entry.rec) h
    → IsLawful opening h → AreInRange (base_with opening h) h
lawful-in_range opening h first spellable lawful =
    met-in_range (base_with opening h) h (base_with-range opening first h spellable lawful) (lawful-met opening h lawful)
