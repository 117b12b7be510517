use Rattle.std.proofs.Common.{◌≡◌, None, sym, ap, ◌∙◌}
use Rattle.std.specs.List.{position}
use Rattle.ring_core.proofs.LookupLemmas.{position-none}
use Rattle.slot_core.specs.Rows.{is_row_of}
use Rattle.slot_core.proofs.RowLemmas.{set_row-with_task, task_of-absent}
use Rattle.slot_core.proofs.hand.turn.Goals as goal

pub returns-in-Some : goal.returns-in-Some
returns-in-Some c =
    set_row-with_task c.args.actor c.args.task c.args.hands.now.items c.in-Some.at _ c.new.ensures
    (ap (position (is_row_of c.args.actor)) (sym c.deref.ensures.value) ∙ sym c.index_of.ensures ∙ c.in-Some.is)

pub returns-in_default : goal.returns-in_default
returns-in_default c =
    let none : position (is_row_of c.args.actor) c.args.hands.now.items ≡ None = ap (position (is_row_of c.args.actor)) (sym c.deref.ensures.value) ∙ sym c.index_of.ensures ∙ c.in_default.is in
    absurd (c.requires (task_of-absent c.args.actor c.args.hands.now.items (position-none _ _ none)))
