use Rattle.std.proofs.Common.{length}
use Rattle.lock_core.specs.AccountRows.{opening_of}
use Rattle.recovery_tests.proofs.ViewedLemmas.{IsGiven}
use Rattle.recovery_tests.proofs.view_plainly.viewed.Given as goal

abbrev pub invariant-records : goal.invariant-records
invariant-records l = IsGiven (opening_of l.opening) l.units l.rest l.view l.entries.items l.lsn

abbrev pub decreases-records : goal.decreases-records
decreases-records l = length l.rest
