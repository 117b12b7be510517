use Rattle.slot_core.specs.Run.{state_of}
use Rattle.slot_core.proofs.Writing.{written_flush-sound}
use Rattle.slot_core.proofs.run.SlotRun.apply_ring.Goals as goal

pub invariant_of-self : goal.invariant_of-self
invariant_of-self c = written_flush-sound c.args.self.now (state_of c.self.inside)
    c.self.view_is c.self.invariant 0 c.in-Flushed.to c.flush.result c.flush.new.self c.flush.ensures.may c.flush.ensures.flushed c.flush.ensures.none
