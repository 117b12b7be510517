use Rattle.std.proofs.Common.{length, ◌-◌}
use Rattle.stream_reader.proofs.RecordLemmas.{IsPassed}
use Rattle.stream_reader.proofs.records.is_whole.Given as goal

abbrev pub invariant-records : goal.invariant-records
invariant-records l = IsPassed l.batch.units l.at

abbrev pub decreases-records : goal.decreases-records
decreases-records l = length l.batch.units - l.at
