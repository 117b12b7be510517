use Rattle.std.proofs.Common.{◌≤◌, length}
use Rattle.std.specs.List.{AllByRecursion}
use Rattle.log_record.specs.declared.rec.Placed.{Placed}
use Rattle.log_record.specs.Spelling.{IsSpellable}
use Rattle.recovery_tests.proofs.plainly.entries_of.Given as goal

abbrev pub invariant-records : goal.invariant-records
invariant-records l = record {
  within : length l.rest ≤ length l.units;
  each : AllByRecursion (λ (entry : Placed). IsSpellable entry.rec) l.entries.items;
}

abbrev pub decreases-records : goal.decreases-records
decreases-records l = length l.rest
