-- What is taken of units that come piece by piece: of all units that have come, those before a rest of them.
use Rattle.std.specs.Prelude.{◌≡◌, ◌≤◌, ℕ, ◌+◌, List, length}
use Rattle.lsn_space.specs.declared.lsn.TheConstants.{LAST}
use Rattle.lsn_space.specs.Opening.{Opening}
use Rattle.log_record.specs.declared.rec.Placed.{Placed}
use Rattle.log_record.specs.declared.units.TheConstants.{LONGEST_RECORD}
use Rattle.lock_core.specs.declared.reason.Why.{Why}
use Rattle.lock_core.specs.Sums as sums
use Rattle.log_recovery.specs.JudgedUnits.{HasTakenFront, FailsBefore}
use Rattle.log_recovery.specs.ListedRecords.{IsFront, IsBadRecAt}
use Rattle.source_recovery.specs.declared.records.State.{State}
use Rattle.source_recovery.specs.declared.records.State.TheVariants as state
use Rattle.source_recovery.specs.declared.records.UnitsTaker.{UnitsTaker}

-- records lead to this LSN, where none begins, and from it on there are at least so many units
pub record IsBadFor (least : ℕ) (opening : Opening) (all : List ℕ) (lsn : ℕ) : Type 0 where
  pub bad : IsBadRecAt opening.lsn all lsn
  pub behind : lsn + least ≤ opening.lsn + length all

-- a record fails at this LSN, and behind it records lead to this rest
pub record HasFailed (opening : Opening) (all rest : List ℕ) (lsn : ℕ) (why : Why) : Type 0 where
  pub from : List ℕ
  pub fails : FailsBefore opening all from lsn why
  pub front : IsFront from rest

-- what the units before the rest say; where no record begins at a place, at least so many units stand from there on
abbrev pub HasState : {T : Type 0} → (sums.Opening → T → List Placed → Type 0) → ℕ → Opening → List ℕ → List ℕ → State T → Type 0
HasState HasTaken least opening all rest (state.Taking taker) = HasTakenFront HasTaken opening all rest taker
HasState HasTaken least opening all rest (state.Failed lsn why) = HasFailed opening all rest lsn why
HasState HasTaken least opening all rest (state.Bad lsn) = IsBadFor least opening all lsn

-- the taker has passed the units before this rest of all, and what they say is its state
pub record StandsAt {T : Type 0} (HasTaken : sums.Opening → T → List Placed → Type 0) (least : ℕ) (opening : Opening) (all rest : List ℕ)
    (taker : UnitsTaker T) : Type 0 where
  pub state : HasState HasTaken least opening all rest taker.state
  pub place : taker.next + length rest ≡ opening.lsn + length all
  pub fits : opening.lsn + length all ≤ LAST

-- the same where more units may come: where no record begins there are as many as the longest has, so none begins with more behind
abbrev pub HasTakenTo : {T : Type 0} → (sums.Opening → T → List Placed → Type 0) → Opening → List ℕ → List ℕ → UnitsTaker T → Type 0
HasTakenTo HasTaken opening all rest taker = StandsAt HasTaken LONGEST_RECORD opening all rest taker

-- the units are the rest of some, before which the taker stands, whatever it is asked
abbrev pub AreNext : {T : Type 0} → (ℕ → sums.Opening → T → List Placed → Type 0) → List ℕ → UnitsTaker T → Type 0
AreNext HasTaken units taker =
    (asked : ℕ) × (opening : Opening) × (all : List ℕ) × HasTakenTo (HasTaken asked) opening all units taker
