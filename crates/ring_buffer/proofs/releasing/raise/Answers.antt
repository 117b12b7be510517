use Rattle.std.proofs.Common.{arith, ◌<◌}
use Rattle.log_rule.specs.GroupViews.{follow_up}
use Rattle.log_table.specs.Seats.{view_of}
use Rattle.ring_buffer.proofs.Exposing.{mark_above-MayRaise}
use Rattle.ring_buffer.proofs.releasing.raise.Goals as goal

pub load_mark-end-requires-clause-next : goal.load_mark-end-requires-clause-next
load_mark-end-requires-clause-next c = record { after = follow_up (view_of c.args.seat.now).call; holding = c.requires.hand.call }

pub exchange_exposed-requires-clause-next : goal.exchange_exposed-requires-clause-next
exchange_exposed-requires-clause-next c = let above : c.args.at < c.load_mark-end.result = grind arith steps 150000 in
    mark_above-MayRaise c.args.seat.now c.load_mark-end.new.seat c.args.at c.load_mark-end.result c.requires.hand c.load_mark-end.ensures.view above

pub returns-in-Ok-clause-over : goal.returns-in-Ok-clause-over
returns-in-Ok-clause-over c = tt

pub returns-in-Err-clause-over : goal.returns-in-Err-clause-over
returns-in-Err-clause-over c = tt
