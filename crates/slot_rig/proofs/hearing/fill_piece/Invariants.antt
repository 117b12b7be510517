use Rattle.std.proofs.Common.{take}
use Rattle.log_rule.specs.declared.group_view.MemberStep.TheVariants.{Fills}
use Rattle.slot_rig.specs.Shares.{IsMember}
use Rattle.slot_rig.proofs.hearing.fill_piece.Given as goal

abbrev pub invariant-loop-i : goal.invariant-loop-i
invariant-loop-i l = IsMember l.table l.share (Fills l.fn.base (take l.i l.list)) l.seat
