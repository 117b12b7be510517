-- The records that units spell.
use Rattle.std.specs.Prelude.{◌≡◌, ◌<◌, ℕ, ◌+◌, List, ◌++◌, length}
use Rattle.std.specs.List.{AllByRecursion}
use Rattle.log_record.specs.declared.rec.Rec.{Rec}
use Rattle.log_record.specs.LogList.{AreUnitsOf, units_of, end_of}
use Rattle.log_record.specs.Spelling.{IsSpellable, BeginsWith}

-- some units stand before this rest
abbrev pub EndsWith : List ℕ → List ℕ → Type 0
EndsWith units rest = (front : List ℕ) × (units ≡ front ++ rest)

-- some records spell what stands before this rest of the units
pub record IsFront (units rest : List ℕ) : Type 0 where
  pub records : List Rec
  pub each : AllByRecursion IsSpellable records
  pub whole : units ≡ units_of records ++ rest

-- the units are the spellings of some records
abbrev pub IsRecords : List ℕ → Type 0
IsRecords units = (records : List Rec) × AreUnitsOf units records

-- in a list that begins at this address, records lead to this one, and the units from there on begin with no record
pub record IsBadRecAt (begin : ℕ) (units : List ℕ) (lsn : ℕ) : Type 0 where
  pub front : List Rec
  pub each : AllByRecursion IsSpellable front
  pub rest : List ℕ
  pub whole : units ≡ units_of front ++ rest
  pub place : lsn ≡ begin + end_of front
  pub some : 0 < length rest
  pub none : (rec : Rec) → BeginsWith rest rec → ⊥
