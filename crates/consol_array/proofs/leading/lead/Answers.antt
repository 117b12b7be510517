use Rattle.std.proofs.Common.{rules}
use Rattle.slot_word.specs.SlotWord.{word_of}
use Rattle.log_table.specs.Seats.{Becomes, view_of}
use Rattle.log_rule.specs.SlotViews.{closed_slot}
use Rattle.consol_array.proofs.leading.lead.Goals as goal

-- Each goal behind the close names it, with the seat from which it was made: without it none of them holds, and a search would find that late.

pub close_slot-gathered-requires-clause-next : goal.close_slot-gathered-requires-clause-next
close_slot-gathered-requires-clause-next c = record { piece = c.requires.leads.piece; closes = c.requires.leads.call }

pub place_group-state-requires-clause-closed : goal.place_group-state-requires-clause-closed
place_group-state-requires-clause-closed c =
    let closes : Becomes c.args.seat.now c.close_slot-gathered.new.seat (closed_slot (word_of c.close_slot-gathered.result) (view_of c.args.seat.now)) =
    c.close_slot-gathered.ensures.view in search rules steps 3000000

pub publish-requires-clause-next : goal.publish-requires-clause-next
publish-requires-clause-next c =
    let closes : Becomes c.args.seat.now c.close_slot-gathered.new.seat (closed_slot (word_of c.close_slot-gathered.result) (view_of c.args.seat.now)) =
    c.close_slot-gathered.ensures.view in search rules

pub returns-clause-stays : goal.returns-clause-stays
returns-clause-stays c =
    let closes : Becomes c.args.seat.now c.close_slot-gathered.new.seat (closed_slot (word_of c.close_slot-gathered.result) (view_of c.args.seat.now)) =
    c.close_slot-gathered.ensures.view in search rules

pub returns-clause-told : goal.returns-clause-told
returns-clause-told c =
    let closes : Becomes c.args.seat.now c.close_slot-gathered.new.seat (closed_slot (word_of c.close_slot-gathered.result) (view_of c.args.seat.now)) =
    c.close_slot-gathered.ensures.view in search rules

pub returns-clause-decided : goal.returns-clause-decided
returns-clause-decided c =
    let closes : Becomes c.args.seat.now c.close_slot-gathered.new.seat (closed_slot (word_of c.close_slot-gathered.result) (view_of c.args.seat.now)) =
    c.close_slot-gathered.ensures.view in search rules
