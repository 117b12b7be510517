use Rattle.slot_rig.proofs.Gathers.{released-done, both_released-has_both}
use Rattle.slot_rig.proofs.pair.gather_both.Goals as goal

pub take_in-requires-clause-one : goal.take_in-requires-clause-one
take_in-requires-clause-one c =
    released-done c.args.table.now c.args.ours.now c.args.base c.args.one 0 c.requires.workers.0 c.requires.one

pub take_in-requires-clause-two : goal.take_in-requires-clause-two
take_in-requires-clause-two c =
    released-done c.args.table.now c.args.theirs.now c.args.base c.args.two 1 c.requires.workers.1 c.requires.two

pub returns-clause-gathered : goal.returns-clause-gathered
returns-clause-gathered c =
    both_released-has_both c.args.table.now c.args.ours.now c.args.theirs.now c.args.base c.args.one c.args.two c.requires.one c.requires.two c.args.flusher_seat.now c.take_in.new.flusher_seat
    c.requires.behind c.requires.no_entry c.take_in.ensures.gathered
