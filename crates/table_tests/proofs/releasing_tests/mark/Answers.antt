use Rattle.std.proofs.Common.{ap, ◌∙◌, sym, subst}
use Rattle.log_rule.specs.GroupViews.{follow_up}
use Rattle.log_rule.specs.declared.view.Call.{Call}
use Rattle.log_rule.specs.declared.view.Call.TheVariants.{Marked}
use Rattle.log_table.specs.Seats.{view_of}
use Rattle.ring_buffer.specs.Calls.{HasFilled}
use Rattle.ring_buffer.specs.declared.call.Range.{Range}
use Rattle.ring_buffer.proofs.Inserted.{HasFilled-reserved}
use Rattle.table_tests.proofs.releasing_tests.mark.Goals as goal

pub finish-requires-clause-filled : goal.finish-requires-clause-filled
finish-requires-clause-filled c =
    subst (λ (range : Range). HasFilled range (view_of c.fill-filled.new.seat)) (sym c.fill-filled.ensures.range)
    (HasFilled-reserved c.args.range c.args.units.now _ c.args.seat.now c.fill-filled.new.seat c.requires.reserved c.fill-filled.ensures.becomes)

pub returns-clause-marked : goal.returns-clause-marked
returns-clause-marked c = ap (λ me. me.0.call) c.finish.ensures.becomes.me
    ∙ ap (λ (call : Call). Marked (follow_up call))
    (HasFilled-reserved c.args.range c.args.units.now _ c.args.seat.now c.fill-filled.new.seat c.requires.reserved c.fill-filled.ensures.becomes).call
