use Rattle.std.proofs.Common.{◌≡◌, slice_set, Some, None, sym, ap, ◌∙◌}
use Rattle.std.specs.List.{position}
use Rattle.ring_core.specs.Rows.{is_of}
use Rattle.ring_core.proofs.LookupLemmas.{position-none}
use Rattle.ring_core.proofs.RowLemmas.{stage_of-absent, with_stage-absent, with_stage-at}
use Rattle.ring_core.proofs.hand.put.Goals as goal

pub returns-in-Some-clause-noted : goal.returns-in-Some-clause-noted
returns-in-Some-clause-noted c =
    let at : position (is_of c.args.actor) c.args.hands.now ≡ Some c.in-Some.at = cc in
    ap (slice_set c.args.hands.now c.in-Some.at) c.new.ensures ∙ sym (with_stage-at c.args.actor _ c.args.hands.now c.in-Some.at at)

pub returns-in-None-clause-absent : goal.returns-in-None-clause-absent
returns-in-None-clause-absent c =
    let none : position (is_of c.args.actor) c.args.hands.now ≡ None = cc in
    with_stage-absent c.args.actor _ c.args.hands.now (position-none _ _ none)

pub returns-in-None-clause-idle : goal.returns-in-None-clause-idle
returns-in-None-clause-idle c =
    let none : position (is_of c.args.actor) c.args.hands.now ≡ None = cc in
    stage_of-absent c.args.actor c.args.hands.now (position-none _ _ none)
