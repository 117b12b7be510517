use Rattle.std.proofs.Common.{◌≡◌, Some, None, sym, ap, ◌∙◌}
use Rattle.std.specs.List.{position}
use Rattle.ring_core.proofs.LookupLemmas.{position-none}
use Rattle.slot_core.specs.State.{Task, Hand}
use Rattle.slot_core.specs.Rows.{is_row_of}
use Rattle.slot_core.proofs.RowLemmas.{task_of-at, task_of-absent}
use Rattle.slot_core.proofs.hand.task_of.Goals as goal

pub returns-in-Some : goal.returns-in-Some
returns-in-Some c =
    let at : position (is_row_of c.args.actor) c.args.hands.now ≡ Some c.in-Some.at = sym c.index_of.ensures ∙ c.in-Some.is in
    let task : Hand → Task = λ h. h.task in
    ap task c.hand.view_is ∙ (ap task c.index-hands-at.is ∙ sym (task_of-at c.args.actor c.args.hands.now _ _ at))

pub returns-in-None : goal.returns-in-None
returns-in-None c =
    let none : position (is_row_of c.args.actor) c.args.hands.now ≡ None = sym c.index_of.ensures ∙ c.in-None.is in
    c.nothing.ensures ∙ sym (task_of-absent c.args.actor c.args.hands.now (position-none _ _ none))
