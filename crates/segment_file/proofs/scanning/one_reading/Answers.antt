use Rattle.segment_file.proofs.OneReading.{one_reading-log, HoldsLog-begins_as_log, HoldsLog-no_bad_snapshot, HoldsLog-no_bad_batch, bad_snapshot-no_bad_batch, bad_batch-unique}
use Rattle.segment_file.proofs.scanning.one_reading.Goals as goal

pub returns : goal.returns
returns c = record {
  log = one_reading-log;
  begins = HoldsLog-begins_as_log;
  snapshot = HoldsLog-no_bad_snapshot;
  bad = HoldsLog-no_bad_batch;
  one = bad_snapshot-no_bad_batch;
  place = bad_batch-unique;
}
