-- In a lawful history each entry meets the tests other than that of a Genesis, all with one base state. The laws are shown of this.
use Rattle.std.proofs.Common.{ℕ, true≢false, List, [], ◌∷◌, sym}
use Rattle.std.specs.List.{AllByRecursion}
use Rattle.log_record.specs.declared.rec.Rec.{Rec}
use Rattle.log_record.specs.declared.rec.Placed.{Placed}
use Rattle.log_record.specs.declared.rec.Rec.TheVariants.{Genesis, Update, Commit, Short, Over, Note}
use Rattle.lock_core.specs.Sums.{BaseState, Opening}
use Rattle.lock_core.specs.Tests.{IsGenesis, OpensLedger, KnowsAccount, IsAbove, IsUnended, CountsLegs, PairsDeltas, NamesLastCommit, IsNotStale, KeepsBalances}
use Rattle.lock_core.specs.Lawful.{tests, Passes, IsLawful, base_with, with_genesis}

pub record MeetsTests (base : BaseState) (h : List Placed) (entry : Placed) : Type 0 where
  pub account : KnowsAccount base entry.rec
  pub ended : IsUnended h entry.rec
  pub legs : CountsLegs h entry.rec
  pub pair : PairsDeltas h entry.rec
  pub prev : NamesLastCommit base h entry.rec
  pub stale : IsNotStale base h entry.rec
  pub balance : KeepsBalances base h entry

abbrev pub AreMet : BaseState → List Placed → Type 0
AreMet base [] = Unit {0}
AreMet base (entry ∷ h) = MeetsTests base h entry × AreMet base h

pub all_passed-meets_tests : (opening : Opening) (h : List Placed) (entry : Placed) → AllByRecursion (Passes opening h entry) tests
    → MeetsTests (base_with opening h) h entry
all_passed-meets_tests opening h entry (genesis, (account, (ended, (legs, (pair, (prev, (stale, (balance, end)))))))) =
    record { account = account; ended = ended.1; legs = legs; pair = pair; prev = prev; stale = stale; balance = balance }

pub meets_tests-all_passed : (opening : Opening) (h : List Placed) (entry : Placed) → OpensLedger opening h entry.rec → IsAbove opening.txn entry.rec
    → MeetsTests (base_with opening h) h entry → AllByRecursion (Passes opening h entry) tests
meets_tests-all_passed opening h entry opens above meets =
    (opens, (meets.account, ((above, meets.ended), (meets.legs, (meets.pair, (meets.prev, (meets.stale, (meets.balance, tt))))))))

-- a Genesis meets all tests but its own
meets-genesis : (base : BaseState) (h : List Placed) (entry : Placed) → IsGenesis entry.rec → MeetsTests base h entry
meets-genesis base h entry is = by_kind entry.rec entry.end is
  where
    by_kind : (rec : Rec) (end : ℕ) → IsGenesis rec → MeetsTests base h (record { end = end; rec = rec })
    by_kind (Genesis account balance) end is =
        record { account = tt; ended = tt; legs = tt; pair = tt; prev = tt; stale = tt; balance = λ on. absurd (true≢false (sym on)) }
    by_kind (Update txn account delta prev) end is = absurd is
    by_kind (Commit txn legs) end is = absurd is
    by_kind (Short txn leg) end is = absurd is
    by_kind (Over txn leg) end is = absurd is
    by_kind (Note txn text) end is = absurd is

pub all_genesis-met : (base : BaseState) (h : List Placed) → AllByRecursion (λ entry. IsGenesis entry.rec) h → AreMet base h
all_genesis-met base [] all = tt
all_genesis-met base (entry ∷ h) all = (meets-genesis base h entry all.0, all_genesis-met base h all.1)

-- the accounts stand once a record isn't a Genesis
pub lawful-met : (opening : Opening) (h : List Placed) → IsLawful opening h → AreMet (base_with opening h) h
lawful-met opening [] lawful = tt
lawful-met opening (entry ∷ h) lawful = by_kind entry.rec entry.end lawful.0 (lawful-met opening h lawful.1)
  where
    by_kind : (rec : Rec) (end : ℕ) → AllByRecursion (Passes opening h (record { end = end; rec = rec })) tests → AreMet (base_with opening h) h
        → AreMet (with_genesis rec (base_with opening h)) (record { end = end; rec = rec } ∷ h)
    by_kind (Genesis account balance) end passes before =
        all_genesis-met (with_genesis (Genesis account balance) (base_with opening h)) (record { end = end; rec = Genesis account balance } ∷ h) (tt, passes.0.1)
    by_kind (Update txn account delta prev) end passes before = (all_passed-meets_tests opening h (record { end = end; rec = Update txn account delta prev }) passes, before)
    by_kind (Commit txn legs) end passes before = (all_passed-meets_tests opening h (record { end = end; rec = Commit txn legs }) passes, before)
    by_kind (Short txn leg) end passes before = (all_passed-meets_tests opening h (record { end = end; rec = Short txn leg }) passes, before)
    by_kind (Over txn leg) end passes before = (all_passed-meets_tests opening h (record { end = end; rec = Over txn leg }) passes, before)
    by_kind (Note txn text) end passes before = (all_passed-meets_tests opening h (record { end = end; rec = Note txn text }) passes, before)
