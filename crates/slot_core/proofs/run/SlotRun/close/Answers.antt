use Rattle.std.proofs.Common.{sym, ◌∙◌}
use Rattle.slot_core.proofs.RunLemmas.{after_close-sound}
use Rattle.slot_core.proofs.run.SlotRun.close.Goals as goal

pub lead-requires-clause-sound : goal.lead-requires-clause-sound
lead-requires-clause-sound c = after_close-sound c.args.self.now c.args.by c.in-Some.member c.membership.ensures.sound
    (sym c.membership.ensures.member ∙ c.in-Some.is) c.in-Closes.is
