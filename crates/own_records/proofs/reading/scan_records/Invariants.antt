use Rattle.std.proofs.Common.{◌≡◌, ◌++◌, length}
use Rattle.std.specs.List.{AllByRecursion}
use Rattle.own_records.specs.Records.{IsText, recorded}
use Rattle.own_records.proofs.reading.scan_records.Given as goal

abbrev pub invariant-records : goal.invariant-records
invariant-records l = record {
  each : AllByRecursion IsText l.records.items;
  whole : l.bytes ≡ recorded l.records.items ++ l.rest;
}

abbrev pub decreases-records : goal.decreases-records
decreases-records l = length l.rest
