use Rattle.std.proofs.Common.{arith, ◌≡◌, length, ap}
use Rattle.slot_word.specs.SlotWord.{word_of}
use Rattle.slot_rig.proofs.Joins.{took_job-may_join_slot, joined_slot-member}
use Rattle.slot_rig.proofs.joining.join_for_note.Goals as goal

pub join_slot-requires-clause-next : goal.join_slot-requires-clause-next
join_slot-requires-clause-next c =
    let whole : length c.as_slice.result.now ≡ length c.args.share.now.units = ap length c.as_slice.ensures.units in
    took_job-may_join_slot c.args.table.now c.args.share.now c.args.number c.args.job.now c.args.seat.now c.take_job.new.seat c.take_job.result c.requires.joiner
    c.take_job.ensures.view c.requires.units c.fresh-from.result c.joined.result c.requires.own_slot c.fresh-from.ensures.phase c.fresh-from.ensures.total
    c.joined.ensures.phase (omega (arith, c.joined.ensures.total, whole)) c.joined.ensures.remaining (omega (arith, whole))

pub returns-in-Ok : goal.returns-in-Ok
returns-in-Ok c = record {
  member =
      joined_slot-member c.args.table.now c.args.share.now c.args.number c.args.job.now c.args.seat.now c.take_job.new.seat c.take_job.result c.requires.joiner
      c.take_job.ensures.view c.requires.units c.join_slot.new.seat c.fresh-from.result.total (word_of c.fresh-from.result) c.fresh-from.ensures.total c.requires.slot
      c.in-Ok.ensures.ok;
}
