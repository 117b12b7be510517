use Rattle.std.proofs.Common.{All}
use Rattle.lock_core.specs.Transfers.{IsAllowedJob}
use Rattle.daemon_tests.proofs.group_script.noted_thirties.Given as goal

abbrev pub invariant-loop : goal.invariant-loop
invariant-loop g l = All (IsAllowedJob 2) l.script
