use Rattle.std.proofs.Common.{◌≡◌, length}
use Rattle.log_recovery.proofs.DumpLemmas.{DumpsFront}
use Rattle.log_recovery.proofs.dump.put_dump.Given as goal

abbrev pub invariant-records : goal.invariant-records
invariant-records g l = record {
  dumped : DumpsFront l.listed.opening l.listed.units l.rest l.block (g.K.Sink.held_bytes l.fn.sink) (g.K.Sink.held_bytes l.sink);
  same : g.K.Sink.faults l.sink ≡ g.K.Sink.faults l.fn.sink;
}

abbrev pub decreases-records : goal.decreases-records
decreases-records g l = length l.rest
