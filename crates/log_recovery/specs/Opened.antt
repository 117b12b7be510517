-- A list of records with what stands before it.
use Rattle.std.specs.Prelude.{◌≡◌, ℕ, ◌+◌, List, [], ◌++◌}
use Rattle.log_record.specs.declared.rec.Rec.{Rec}
use Rattle.log_record.specs.declared.rec.Placed.{Placed}
use Rattle.log_record.specs.LogList.{units_of, IsBoundary}
use Rattle.lsn_space.specs.Opening.{Opening, no_opening}
use Rattle.lock_core.specs.History.{history_from}
use Rattle.lock_core.specs.Lawful.{base_with, base_state_of, opening_after}
use Rattle.lock_core.specs.AccountRows.{opening_of}
use Rattle.lock_core.specs.Sums as sums
use Rattle.segment_file.specs.Log.{Log, log_end}

-- the records of a list, and what stands before them
pub record OpenedList : Type 0 where
  pub opening : Opening
  pub records : List Rec

-- a whole log: nothing stands before it
abbrev pub whole_list : List Rec → OpenedList
whole_list records = record { opening = no_opening; records = records }

-- the list in units
abbrev pub log_of : OpenedList → Log
log_of list = record { opening = list.opening; units = units_of list.records }

-- the LSN at which the list ends
abbrev pub list_end : OpenedList → ℕ
list_end list = log_end (log_of list)

-- its records in their places, the newest first
abbrev pub placed : OpenedList → List Placed
placed list = history_from list.opening.lsn [] list.records

-- the list with more records behind its own
abbrev pub with_records : OpenedList → List Rec → OpenedList
with_records list more = record { opening = list.opening; records = list.records ++ more }

-- these records, as a prefix of the list's, behind what stands before it
abbrev pub with_front : OpenedList → List Rec → OpenedList
with_front list front = record { opening = list.opening; records = front }

-- what stands before it, as the tests of its records see it
abbrev pub opening_before : OpenedList → sums.Opening
opening_before list = opening_of list.opening

-- the base of its balances: the state before it, and behind the accounts there one more for each Genesis
abbrev pub base_in : OpenedList → sums.BaseState
base_in list = base_with (opening_before list) (placed list)

-- the state that it leaves
abbrev pub base_left : OpenedList → sums.BaseState
base_left list = base_state_of (opening_before list) (placed list)

-- the opening that it leaves
abbrev pub opening_left : OpenedList → sums.Opening
opening_left list = opening_after (opening_before list) (placed list)

-- a boundary of the list: the start of a record, or the end
abbrev pub IsListBoundary : OpenedList → ℕ → Type 0
IsListBoundary list lsn = (at : ℕ) × (lsn ≡ list.opening.lsn + at) × IsBoundary list.records at
