use Rattle.std.proofs.Common.{take}
use Rattle.cli_ending.specs.Conclusion.{AreWhole}
use Rattle.cli_ending.proofs.conclusion.first_log_end.Given as goal

abbrev pub invariant-ends : goal.invariant-ends
invariant-ends l = AreWhole (take l.worked-index l.ends)
