use Rattle.std.proofs.Common.{◌≡◌, Some, None, sym, ap, ◌∙◌}
use Rattle.std.specs.List.{position}
use Rattle.ring_core.specs.State.{Hand}
use Rattle.ring_core.specs.Rows.{is_of}
use Rattle.ring_core.proofs.LookupLemmas.{position-none}
use Rattle.ring_core.proofs.RowLemmas.{stage_of-absent, stage_of-at}
use Rattle.ring_core.proofs.hand.stage_in_hand.Goals as goal

pub returns-in-None : goal.returns-in-None
returns-in-None c =
    let none : position (is_of c.args.actor) c.args.hands.now ≡ None = cc in
    sym (stage_of-absent c.args.actor c.args.hands.now (position-none _ _ none))

pub returns-in-Some : goal.returns-in-Some
returns-in-Some c =
    let at : position (is_of c.args.actor) c.args.hands.now ≡ Some c.in-Some.at = cc in
    let stage : Hand → _ = λ h. h.stage in
    ap stage c.hand.view_is ∙ (ap stage c.index-hands-at.is ∙ sym (stage_of-at c.args.actor c.args.hands.now _ _ at))
