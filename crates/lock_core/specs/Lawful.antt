-- Lawful histories behind an opening: every record passes all its tests.
use Rattle.std.specs.Prelude.{◌==◌, ◌+◌, max, if◌then◌else◌, List, [], ◌∷◌}
use Rattle.std.specs.List.{AllByRecursion}
use Rattle.log_record.specs.declared.rec.Rec.{Rec}
use Rattle.log_record.specs.declared.rec.Placed.{Placed}
use Rattle.log_record.specs.declared.rec.Rec.TheVariants.{Genesis, Update, Commit, Short, Over, Note}
use Rattle.lock_core.specs.declared.reason.Why.{Why}
use Rattle.lock_core.specs.declared.reason.Why.TheVariants as why
use Rattle.lock_core.specs.Sums.{BaseState, Opening, base_after, greatest_txn}
use Rattle.lock_core.specs.Tests.{OpensLedger, KnowsAccount, IsAbove, IsUnended, CountsLegs, PairsDeltas, NamesLastCommit, IsNotStale, KeepsBalances}

-- all tests, in the order in which they are made
abbrev pub tests : List Why
tests = why.Genesis ∷ why.Account ∷ why.Ended ∷ why.Legs ∷ why.Pair ∷ why.Prev ∷ why.Stale ∷ why.Balance ∷ []

-- a base state, and behind its accounts one more where the record is a Genesis
abbrev pub with_genesis : Rec → BaseState → BaseState
with_genesis (Genesis account balance) base =
    record base { accounts = base.accounts + 1; balance = λ a. if a == account then balance else base.balance a }
with_genesis (Update txn account delta prev) base = base
with_genesis (Commit txn legs) base = base
with_genesis (Short txn leg) base = base
with_genesis (Over txn leg) base = base
with_genesis (Note txn text) base = base

-- the base of a history: the opening's state, and behind its accounts one more for each Genesis
abbrev pub base_with : Opening → List Placed → BaseState
base_with opening [] = opening.state
base_with opening (entry ∷ h) = with_genesis entry.rec (base_with opening h)

-- the entry passes this test, on the history before it and the opening before that
abbrev pub Passes : Opening → List Placed → Placed → Why → Type 0
Passes opening h entry why.Genesis = OpensLedger opening h entry.rec
Passes opening h entry why.Account = KnowsAccount (base_with opening h) entry.rec
Passes opening h entry why.Ended = IsAbove opening.txn entry.rec × IsUnended h entry.rec
Passes opening h entry why.Legs = CountsLegs h entry.rec
Passes opening h entry why.Pair = PairsDeltas h entry.rec
Passes opening h entry why.Prev = NamesLastCommit (base_with opening h) h entry.rec
Passes opening h entry why.Stale = IsNotStale (base_with opening h) h entry.rec
Passes opening h entry why.Balance = KeepsBalances (base_with opening h) h entry

-- a history behind an opening is lawful: each entry passes all tests
abbrev pub IsLawful : Opening → List Placed → Type 0
IsLawful opening [] = Unit {0}
IsLawful opening (entry ∷ h) = AllByRecursion (Passes opening h entry) tests × IsLawful opening h

-- the base state that a history behind an opening leaves
abbrev pub base_state_of : Opening → List Placed → BaseState
base_state_of opening h = base_after (base_with opening h) h

-- the opening that it leaves
abbrev pub opening_after : Opening → List Placed → Opening
opening_after opening h = record { state = base_state_of opening h; txn = max opening.txn (greatest_txn h) }
