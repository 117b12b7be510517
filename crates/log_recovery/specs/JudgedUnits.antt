-- What is taken of the records that units spell, behind what stands before them.
use Rattle.std.specs.Prelude.{◌≡◌, ℕ, List, [], ◌∷◌, ◌++◌}
use Rattle.std.specs.List.{AllByRecursion}
use Rattle.lsn_space.specs.Opening.{Opening}
use Rattle.log_record.specs.declared.rec.Rec.{Rec}
use Rattle.log_record.specs.declared.rec.Placed.{Placed}
use Rattle.log_record.specs.LogList.{AreUnitsOf, units_of}
use Rattle.log_record.specs.Spelling.{IsSpellable}
use Rattle.lock_core.specs.declared.reason.Why.{Why}
use Rattle.lock_core.specs.History.{end_from, entry_at, history_from}
use Rattle.lock_core.specs.Lawful.{Passes, IsLawful}
use Rattle.lock_core.specs.Faults.{IsFirstFailing, IsUnlawfulAt}
use Rattle.lock_core.specs.AccountRows.{opening_of}
use Rattle.lock_core.specs.Sums as sums
use Rattle.log_recovery.specs.declared.judging.UnitsFault.{UnitsFault}
use Rattle.log_recovery.specs.declared.judging.UnitsFault.TheVariants as fault
use Rattle.log_recovery.specs.ListedRecords.{IsBadRecAt}

-- the records before this rest of the units are taken
pub record HasTakenFront {T : Type 0} (HasTaken : sums.Opening → T → List Placed → Type 0) (opening : Opening)
    (units rest : List ℕ) (taker : T) : Type 0 where
  pub records : List Rec
  pub each : AllByRecursion IsSpellable records
  pub whole : units ≡ units_of records ++ rest
  pub taken : HasTaken (opening_of opening) taker (history_from opening.lsn [] records)

-- the records of the units are taken
pub record HasTakenUnits {T : Type 0} (HasTaken : sums.Opening → T → List Placed → Type 0) (opening : Opening)
    (units : List ℕ) (taker : T) : Type 0 where
  pub records : List Rec
  pub list : AreUnitsOf units records
  pub taken : HasTaken (opening_of opening) taker (history_from opening.lsn [] records)

-- of the records before this rest of the units the last starts at this address, and is the first that fails a test
pub record FailsBefore (opening : Opening) (units rest : List ℕ) (lsn : ℕ) (test : Why) : Type 0 where
  pub front : List Rec
  pub rec : Rec
  pub each : AllByRecursion IsSpellable (front ++ rec ∷ [])
  pub whole : units ≡ units_of (front ++ rec ∷ []) ++ rest
  pub lawful : IsLawful (opening_of opening) (history_from opening.lsn [] front)
  pub place : lsn ≡ end_from opening.lsn (history_from opening.lsn [] front)
  pub first : IsFirstFailing (Passes (opening_of opening) (history_from opening.lsn [] front) (entry_at lsn rec)) test

-- why the units aren't taken; want of memory says nothing of them
abbrev pub IsUnitsFaultOf : Opening → List ℕ → UnitsFault → Type 0
IsUnitsFaultOf opening units (fault.BadRec lsn) = IsBadRecAt opening.lsn units lsn
IsUnitsFaultOf opening units (fault.Unlawful lsn why) =
    (records : List Rec) × AreUnitsOf units records × IsUnlawfulAt (opening_of opening) (history_from opening.lsn [] records) lsn why
IsUnitsFaultOf opening units fault.NoMemory = Unit {0}
