-- The groups at the table's slots: workers that join one reserve by one exchange of the tail.
use Rattle.std.specs.Prelude.{ℕ, ◌==◌, if◌then◌else◌, List, []}
pub use Rattle.slot_parts.specs.declared.phase.Outcome.{Outcome}
pub use Rattle.slot_parts.specs.declared.phase.Outcome.TheVariants.{Granted, Refused}
pub use Rattle.slot_parts.specs.declared.phase.GroupPhase.{GroupPhase}
pub use Rattle.slot_parts.specs.declared.phase.GroupPhase.TheVariants.{Vacant, Gathering, Closed, Placed, Ready, Told, Emptied}
pub use Rattle.log_rule.specs.declared.group_view.Piece.{Piece}

-- a seat that has joined a group and not released, and its piece
pub record Member : Type 0 where
  pub seat : ℕ
  pub piece : Piece

-- the members at a slot that have not released, in order, and how far the group has come
pub record Group : Type 0 where
  pub members : List Member
  pub phase : GroupPhase

-- a group of nobody
abbrev pub empty_group : Group
empty_group = record { members = []; phase = Vacant }

-- the groups, but for the one at a slot
abbrev pub put_group : (ℕ → Group) → ℕ → Group → ℕ → Group
put_group groups at group slot = if slot == at then group else groups slot
