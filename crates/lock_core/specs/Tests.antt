-- The tests of a record on the history before it, each for its kinds of record.
use Rattle.std.specs.Prelude.{◌≡◌, ◌≢◌, ℕ, ◌+◌, ◌-◌, ◌*◌, ◌<◌, neg_ℤ, true, false, MatchBool, List, [], ◌∷◌, length}
use Rattle.std.specs.List.{AllByRecursion}
use Rattle.log_record.specs.declared.limits.TheConstants.{MOST_LEGS}
use Rattle.log_record.specs.declared.rec.Rec.{Rec}
use Rattle.log_record.specs.declared.rec.Placed.{Placed}
use Rattle.log_record.specs.declared.rec.Rec.TheVariants.{Genesis, Update, Commit, Short, Over, Note}
use Rattle.lock_core.specs.declared.update.Change.{Change}
use Rattle.lock_core.specs.Records.{txn_of, commits, lowers}
use Rattle.lock_core.specs.Transactions.{own_records_of, updates_of, has_end}
use Rattle.lock_core.specs.Sums.{BaseState, Opening, AreInRange, last_commit_of}

-- the record is a Genesis
abbrev pub IsGenesis : Rec → Type 0
IsGenesis (Genesis account balance) = Unit {0}
IsGenesis (Update txn account delta prev) = ⊥
IsGenesis (Commit txn legs) = ⊥
IsGenesis (Short txn leg) = ⊥
IsGenesis (Over txn leg) = ⊥
IsGenesis (Note txn text) = ⊥

-- no record is a Genesis
abbrev pub HasNoGenesis : List Placed → Type 0
HasNoGenesis h = AllByRecursion (λ entry. IsGenesis entry.rec → ⊥) h

-- A Genesis stands behind an opening with no account, follows Genesis records alone, and has the next account number from 0 on; no other
-- record is the first behind such an opening.
abbrev pub OpensLedger : Opening → List Placed → Rec → Type 0
OpensLedger opening h (Genesis account balance) =
    (opening.state.accounts ≡ 0) × AllByRecursion (λ entry. IsGenesis entry.rec) h × (account ≡ length h)
OpensLedger opening h (Update txn account delta prev) = 0 < opening.state.accounts + length h
OpensLedger opening h (Commit txn legs) = 0 < opening.state.accounts + length h
OpensLedger opening h (Short txn leg) = 0 < opening.state.accounts + length h
OpensLedger opening h (Over txn leg) = 0 < opening.state.accounts + length h
OpensLedger opening h (Note txn text) = 0 < opening.state.accounts + length h

-- the account of an Update is one of the ledger
abbrev pub KnowsAccount : BaseState → Rec → Type 0
KnowsAccount base (Update txn account delta prev) = account < base.accounts
KnowsAccount base (Genesis account balance) = Unit {0}
KnowsAccount base (Commit txn legs) = Unit {0}
KnowsAccount base (Short txn leg) = Unit {0}
KnowsAccount base (Over txn leg) = Unit {0}
KnowsAccount base (Note txn text) = Unit {0}

-- the transaction of the record, if it has one, has a greater number than this
abbrev pub IsAbove : ℕ → Rec → Type 0
IsAbove txn rec = (IsGenesis rec → ⊥) → txn < txn_of rec

-- so has each transaction of the history
abbrev pub AreAbove : ℕ → List Placed → Type 0
AreAbove txn h = AllByRecursion (λ entry. IsAbove txn entry.rec) h

-- the transaction of the record has no end record
abbrev pub IsUnended : List Placed → Rec → Type 0
IsUnended h (Genesis account balance) = Unit {0}
IsUnended h (Update txn account delta prev) = has_end (own_records_of txn h) ≡ false
IsUnended h (Commit txn legs) = has_end (own_records_of txn h) ≡ false
IsUnended h (Short txn leg) = has_end (own_records_of txn h) ≡ false
IsUnended h (Over txn leg) = has_end (own_records_of txn h) ≡ false
IsUnended h (Note txn text) = has_end (own_records_of txn h) ≡ false

-- Of a transaction there are at most two Updates for each leg that it may have; a Commit counts two Updates for each leg; a Short
-- or Over two for each leg before its own.
abbrev pub CountsLegs : List Placed → Rec → Type 0
CountsLegs h (Update txn account delta prev) = length (updates_of txn h) < 2 * MOST_LEGS
CountsLegs h (Commit txn legs) = length (updates_of txn h) ≡ 2 * legs
CountsLegs h (Short txn leg) = length (updates_of txn h) ≡ 2 * (leg - 1)
CountsLegs h (Over txn leg) = length (updates_of txn h) ≡ 2 * (leg - 1)
CountsLegs h (Genesis account balance) = Unit {0}
CountsLegs h (Note txn text) = Unit {0}

-- a change has the opposite delta of the one before it, on another account
abbrev pub IsOpposite : Change → Change → Type 0
IsOpposite before change = (change.delta ≡ neg_ℤ before.delta) × (change.account ≢ before.account)

-- What was taken from one account is added to another by the very next change, and every other change takes.
abbrev pub IsPaired : List Change → Change → Type 0
IsPaired [] change = lowers change.delta ≡ true
IsPaired (newest ∷ older) change = MatchBool (lowers newest.delta) (IsOpposite newest change) (lowers change.delta ≡ true)

-- an Update is paired with those of its transaction before it
abbrev pub PairsDeltas : List Placed → Rec → Type 0
PairsDeltas h (Update txn account delta prev) =
    IsPaired (updates_of txn h) (record { account = account; delta = delta; prev = prev })
PairsDeltas h (Genesis account balance) = Unit {0}
PairsDeltas h (Commit txn legs) = Unit {0}
PairsDeltas h (Short txn leg) = Unit {0}
PairsDeltas h (Over txn leg) = Unit {0}
PairsDeltas h (Note txn text) = Unit {0}

-- a change names the last Commit on its account
abbrev pub IsCurrent : BaseState → List Placed → Change → Type 0
IsCurrent base h change = change.prev ≡ last_commit_of base h change.account

-- an Update names the last Commit on its account
abbrev pub NamesLastCommit : BaseState → List Placed → Rec → Type 0
NamesLastCommit base h (Update txn account delta prev) = prev ≡ last_commit_of base h account
NamesLastCommit base h (Genesis account balance) = Unit {0}
NamesLastCommit base h (Commit txn legs) = Unit {0}
NamesLastCommit base h (Short txn leg) = Unit {0}
NamesLastCommit base h (Over txn leg) = Unit {0}
NamesLastCommit base h (Note txn text) = Unit {0}

-- at its Commit, each Update of the transaction still names the last Commit on its account
abbrev pub IsNotStale : BaseState → List Placed → Rec → Type 0
IsNotStale base h (Commit txn legs) = AllByRecursion (IsCurrent base h) (updates_of txn h)
IsNotStale base h (Genesis account balance) = Unit {0}
IsNotStale base h (Update txn account delta prev) = Unit {0}
IsNotStale base h (Short txn leg) = Unit {0}
IsNotStale base h (Over txn leg) = Unit {0}
IsNotStale base h (Note txn text) = Unit {0}

-- with a Commit, every account has a balance in its range
abbrev pub KeepsBalances : BaseState → List Placed → Placed → Type 0
KeepsBalances base h entry = commits entry.rec ≡ true → AreInRange base (entry ∷ h)
