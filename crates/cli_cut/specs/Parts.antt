-- What is known of a log before it is upgraded. `left` and `left_new` are what the source holds before and after.
use Rattle.std.specs.Prelude.{◌≡◌, ◌≤◌, ℕ, ◌+◌, List, [], ◌∷◌, ◌++◌, length, drop, Option}
use Rattle.std.specs.List.{AllByRecursion}
use Rattle.lsn_space.specs.Opening.{Opening}
use Rattle.lsn_space.specs.declared.lsn.TheConstants.{LAST}
use Rattle.log_record.specs.declared.rec.Rec.{Rec}
use Rattle.log_record.specs.declared.rec.Rec.TheVariants.{Genesis}
use Rattle.log_record.specs.LogList.{AreUnitsOf, units_of}
use Rattle.log_record.specs.Spelling.{spelling, BeginsWith, IsSpellable}
use Rattle.lock_core.specs.Tests.{IsGenesis}
use Rattle.segment_file.specs.declared.layout.TheConstants.{MOST_UNITS}
use Rattle.log_recovery.specs.Opened.{OpenedList, list_end}
use Rattle.log_recovery.specs.Recovery.{HoldsLawful, Recovers, list_of}
use Rattle.log_recovery.specs.declared.list_result.Listed.{Listed}
use Rattle.log_recovery.specs.declared.recovery.Recovered.{Recovered}
use Rattle.log_disk.specs.Streams.{ReadsAll}
use Rattle.cli_cut.specs.Cutting.{IsCutOf}
use Rattle.cli_cut.specs.Upgrading.{IsUpgradeOf}
use Rattle.cli_cut.specs.declared.reading.Parts.{Parts}

-- the units begin with a Genesis, which has so many
abbrev pub BeginsWithGenesis : List ℕ → ℕ → Type 0
BeginsWithGenesis units size = (account balance : ℕ) × BeginsWith units (Genesis account balance)
    × (size ≡ length (spelling (Genesis account balance)))

-- they begin with no Genesis
abbrev pub BeginsWithNoGenesis : List ℕ → Type 0
BeginsWithNoGenesis units = (rec : Rec) → BeginsWith units rec → IsGenesis rec → ⊥

-- the units are some Genesis records, and behind so many units others, the first of which is no Genesis, or none
pub record SplitsGenesis (units : List ℕ) (front : ℕ) : Type 0 where
  pub genesis : List Rec
  pub later : List Rec
  pub list : AreUnitsOf units (genesis ++ later)
  pub place : front ≡ length (units_of genesis)
  pub all : AllByRecursion IsGenesis genesis
  pub first : (rec : Rec) (rest : List Rec) → later ≡ rec ∷ rest → IsGenesis rec → ⊥

-- the list is lawful, and its first so many units, which end where LSNs do or before, are those of its Genesis records
pub record IsGenesisFront (listed : Listed) (front : ℕ) : Type 0 where
  pub lawful : (bytes : List ℕ) × (records : List Rec) × HoldsLawful bytes (list_of listed records) × (listed.units ≡ units_of records)
  pub split : SplitsGenesis listed.units front
  pub inside : front ≤ length listed.units
  pub fits : listed.opening.lsn + front ≤ LAST

-- where the first so many units of the list are whole records, the opening is what these leave
abbrev pub IsCutBehind : Listed → ℕ → Opening → Type 0
IsCutBehind listed front opening = (genesis later : List Rec) → AreUnitsOf listed.units (genesis ++ later)
    → front ≡ length (units_of genesis) → IsCutOf (list_of listed genesis) opening

-- the list that was read is lawful, and these are its accounts; the head begins with what its Genesis records leave, and the units behind them are those of
-- the records of the new list, for which the batch has room
pub record ArePartsOf (left left_new : Option (List ℕ)) (parts : Parts) : Type 0 where
  pub bytes : List ℕ
  pub read : ReadsAll left left_new bytes
  pub recovers : Recovers parts.recovered bytes
  pub made : OpenedList
  pub upgrade : IsUpgradeOf recovers.list made
  pub spellable : AllByRecursion IsSpellable made.records
  pub head : parts.head ≡ made.opening
  pub units : drop parts.front parts.listed.units ≡ units_of made.records
  pub within : parts.front ≤ length parts.listed.units
  pub fits : list_end made ≤ LAST
  pub none : parts.batch.units ≡ []
  pub room : parts.batch.room ≡ MOST_UNITS

-- what was read is a log, and this is what it says
abbrev pub ReadsLog : Option (List ℕ) → Option (List ℕ) → Recovered → Type 0
ReadsLog left left_new recovered = (bytes : List ℕ) × ReadsAll left left_new bytes × Recovers recovered bytes
