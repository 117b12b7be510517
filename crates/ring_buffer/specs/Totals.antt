-- How many units were asked for at once where a record had no room.
use Rattle.std.specs.Prelude.{◌≡◌, ◌⊎◌, ℕ, ◌/◌, ◌<◌, ◌≤◌, List, Contains}
use Rattle.log_rule.specs.declared.group_view.HeardRefusal.{HeardRefusal}
use Rattle.log_rule.specs.declared.view.View.{View}

-- The record of this size was one of a group of this total, of which this is known. In a table with slots a group gets a quarter of the ring
-- at most.
pub record IsOfGroup (ring slots : ℕ) (Known : ℕ → ℕ → Type 0) (size total : ℕ) : Type 0 where
  pub grouped : 0 < slots
  pub within : size ≤ total
  pub few : total ≤ ring / 4
  pub known : Known size total

-- the total is the record's own size, where it was alone; or that of a group that it was one of
abbrev pub IsTotalFor : ℕ → ℕ → (ℕ → ℕ → Type 0) → ℕ → ℕ → Type 0
IsTotalFor ring slots Known size total = (total ≡ size) ⊎ IsOfGroup ring slots Known size total

-- the group's refusal is one of these that were heard
abbrev pub IsHeard : List HeardRefusal → ℕ → ℕ → Type 0
IsHeard refusals size total = Contains refusals (record { size = size; total = total })

-- the same, where the group is one of whose refusal the seat with this view heard
abbrev pub IsTotalOfSeat : View → ℕ → ℕ → Type 0
IsTotalOfSeat view size total = IsTotalFor view.constants.ring view.constants.slots (IsHeard view.seen.refusals) size total
