-- A log list: records, one after another. An address in it counts units.
use Rattle.std.specs.Prelude.{◌≡◌, ℕ, ◌+◌, ◌-◌, List, [], ◌∷◌, ◌++◌, length, map, if◌then◌else◌, nat_le, Contains}
use Rattle.std.specs.List.{AllByRecursion, flat_map, zip}
use Rattle.log_record.specs.declared.rec.Rec.{Rec}
use Rattle.log_record.specs.Spelling.{spelling, IsSpellable}

-- the units of a log list: the spellings of its records, joined
abbrev pub units_of : List Rec → List ℕ
units_of records = flat_map spelling records

-- the units are the spellings of these records, joined
pub record AreUnitsOf (units : List ℕ) (records : List Rec) : Type 0 where
  pub spellable : AllByRecursion IsSpellable records
  pub units_are : units ≡ units_of records

-- the end of a log list: how many units it has
abbrev pub end_of : List Rec → ℕ
end_of records = length (units_of records)

-- how many units a record has
abbrev pub size_of : Rec → ℕ
size_of rec = length (spelling rec)

-- where the records start, if the first starts at this address: each at the sum of the units before it
abbrev pub starts_from : ℕ → List Rec → List ℕ
starts_from at [] = []
starts_from at (rec ∷ records) = at ∷ starts_from (at + size_of rec) records

abbrev pub starts_of : List Rec → List ℕ
starts_of records = starts_from 0 records

-- the range of each record: where it starts, and how many units it has
abbrev pub ranges_of : List Rec → List (ℕ × ℕ)
ranges_of records = zip (starts_of records) (map size_of records)

-- a boundary of a log list: the start of a record, or the end
abbrev pub IsBoundary : List Rec → ℕ → Type 0
IsBoundary records lsn = Contains (starts_of records ++ end_of records ∷ []) lsn

-- the list up to an LSN: the records that end at or below it
abbrev pub prefix_to : List Rec → ℕ → List Rec
prefix_to [] lsn = []
prefix_to (rec ∷ records) lsn =
    if nat_le (size_of rec) lsn then rec ∷ prefix_to records (lsn - size_of rec) else []
