-- A list behind one of its boundaries.
use Rattle.std.specs.Prelude.{◌≡◌, ℕ, ◌+◌, List, ◌++◌, Option, IfSome, IfNone}
use Rattle.log_record.specs.declared.rec.Rec.{Rec}
use Rattle.log_record.specs.LogList.{AreUnitsOf, units_of, end_of}
use Rattle.lsn_space.specs.Opening.{Opening}
use Rattle.log_recovery.specs.Opened.{IsListBoundary}

-- the records of a list that begins at this LSN have a boundary at that one, and these are the units from there on
pub record GoesOnAt (begin : ℕ) (records : List Rec) (lsn : ℕ) (rest : List ℕ) : Type 0 where
  pub front : List Rec
  pub later : List Rec
  pub whole : records ≡ front ++ later
  pub place : lsn ≡ begin + end_of front
  pub units : rest ≡ units_of later

-- what is found of a list with these units at this LSN: those from there on, where it is a boundary
pub record FindsRest {R : Type 0} (opening : Opening) (units : List ℕ) (lsn : ℕ) (result : Option R) (seen : R → List ℕ) : Type 0 where
  pub some : IfSome result (λ rest. (records : List Rec) → AreUnitsOf units records → GoesOnAt opening.lsn records lsn (seen rest))
  pub none : IfNone result ((records : List Rec) → AreUnitsOf units records
      → IsListBoundary (record { opening = opening; records = records }) lsn → ⊥)
