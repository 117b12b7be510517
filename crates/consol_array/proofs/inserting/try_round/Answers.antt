use Rattle.std.proofs.Common.{Option, IfNone, ℕ, ◌<◌, subst}
use Rattle.log_table.specs.Seats.{Becomes, view_of}
use Rattle.log_rule.specs.Views.{lost_alone}
use Rattle.ring_buffer.specs.declared.call.Range.{Range}
use Rattle.consol_array.proofs.Rounds.{JoinsNext-joined}
use Rattle.consol_array.proofs.inserting.try_round.Goals as goal

pub returns-in-Ok-clause-way : goal.returns-in-Ok-clause-way
returns-in-Ok-clause-way g c =
    let seen = c.look-seen.result in
    let mid = c.look-seen.new.seat in
    let lost = c.try_place.new.seat in
    let loses : (found : ℕ) × (seen.tail < found) × Becomes mid lost (lost_alone found (view_of mid)) =
    subst (λ (o : Option Range). IfNone o ((found : ℕ) × (seen.tail < found) × Becomes mid lost (lost_alone found (view_of mid)))) c.in_default.is
    c.in_ok-range.ensures.lost in
    JoinsNext-joined c.args.table.now c.args.seat.now mid lost c.try_join.new.seat c.args.n seen.tail seen.durable loses.0 c.in-Ok.joined
    c.look-seen.ensures.becomes loses.2 c.look-seen.ensures.grows loses.1 c.look-seen.ensures.durable c.requires.next c.in-Ok.ensures.joined
