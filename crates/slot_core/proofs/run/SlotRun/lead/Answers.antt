use Rattle.std.proofs.Common.{◌<◌, ap, subst, length-set}
use Rattle.slot_core.specs.State.{membership}
use Rattle.slot_core.specs.Machine.{next_stage, at_stage, after_lead}
use Rattle.slot_core.proofs.Hands.{task_of-with_task_self}
use Rattle.slot_core.proofs.RunLemmas.{member_slot-within}
use Rattle.slot_core.proofs.run.SlotRun.lead.Goals as goal
use Rattle.std.proofs.Common.{Some}

pub advance-requires-clause-there : goal.advance-requires-clause-there
advance-requires-clause-there c = let now = c.args.self.now in let m = c.args.member in
    subst (λ n. m.slot < n) (length-set now.groups m.slot _)
    (member_slot-within (after_lead now c.args.by (Some m)) c.args.by (record m { stage = next_stage m.stage }) c.requires.sound (ap membership
    (task_of-with_task_self c.args.by (at_stage (next_stage m.stage) m) now.hands)))
