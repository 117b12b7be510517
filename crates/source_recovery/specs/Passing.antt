-- How far records of units are passed.
use Rattle.std.specs.Prelude.{◌≡◌, ◌<◌, ◌≤◌, ℕ, ◌+◌, List, length}
use Rattle.lsn_space.specs.declared.lsn.TheConstants.{LAST}
use Rattle.lsn_space.specs.Opening.{Opening}
use Rattle.log_record.specs.declared.rec.Placed.{Placed}
use Rattle.lock_core.specs.Sums as sums
use Rattle.log_recovery.specs.JudgedUnits.{HasTakenFront, FailsBefore}
use Rattle.log_recovery.specs.ListedRecords.{EndsWith}
use Rattle.source_recovery.specs.declared.passing.Stop.{Stop}
use Rattle.source_recovery.specs.declared.passing.Stop.TheVariants as stop
use Rattle.source_recovery.specs.declared.records.State.{State}
use Rattle.source_recovery.specs.declared.records.State.TheVariants as state
use Rattle.source_recovery.specs.declared.records.UnitsTaker.{UnitsTaker}
use Rattle.source_recovery.specs.Taker.{HasTakenTo, IsBadFor, StandsAt}

-- where the taker stood before these units it stands before their rest, but that a place at which no record begins may have fewer units
-- behind it; and it is asked for what it was
abbrev pub PassesTo : {T : Type 0} → (ℕ → sums.Opening → T → List Placed → Type 0) → ℕ → List ℕ → List ℕ → UnitsTaker T → UnitsTaker T → Type 0
PassesTo HasTaken least units rest old new = EndsWith units rest
    × ((asked : ℕ) (opening : Opening) (all : List ℕ) → HasTakenTo (HasTaken asked) opening all units old
    → StandsAt (HasTaken asked) least opening all rest new)

-- the records before this rest of all units are taken, and the rest begins at this LSN
pub record CanTake {T : Type 0} (HasTaken : sums.Opening → T → List Placed → Type 0) (opening : Opening) (all rest : List ℕ) (lsn : ℕ)
    (taker : T) : Type 0 where
  pub front : HasTakenFront HasTaken opening all rest taker
  pub place : lsn + length rest ≡ opening.lsn + length all
  pub fits : opening.lsn + length all ≤ LAST

-- why no more is taken; want of memory says nothing of the units
abbrev pub StopsAt : {T : Type 0} → (sums.Opening → T → List Placed → Type 0) → ℕ → Opening → List ℕ → List ℕ → T → Stop → Type 0
StopsAt HasTaken least opening all rest taker stop.Few = HasTakenFront HasTaken opening all rest taker
StopsAt HasTaken least opening all rest taker (stop.Bad lsn) = IsBadFor least opening all lsn
StopsAt HasTaken least opening all rest taker (stop.Failed lsn why) = FailsBefore opening all rest lsn why
StopsAt HasTaken least opening all rest taker stop.NoMemory = Unit {0}

-- fewer units than this are left, where that is why no more is taken
abbrev pub IsShort : ℕ → List ℕ → Stop → Type 0
IsShort least rest stop.Few = length rest < least
IsShort least rest stop' = Unit {0}

-- behind what is taken there are fewer units than this
abbrev pub TakesFew : {T : Type 0} → ℕ → List ℕ → State T → Type 0
TakesFew least rest (state.Taking taker) = length rest < least
TakesFew least rest state' = Unit {0}

-- the same, and behind records that are only read
abbrev pub ReadsFew : {T : Type 0} → ℕ → List ℕ → State T → Type 0
ReadsFew least rest (state.Bad lsn) = Unit {0}
ReadsFew least rest state' = length rest < least
