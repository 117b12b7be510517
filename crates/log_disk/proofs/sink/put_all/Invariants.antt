use Rattle.std.proofs.Common.{◌≡◌, ℕ, List, ◌++◌, length}
use Rattle.std.specs.Io.KnownBytes.{Appends}
use Rattle.log_disk.proofs.sink.put_all.Given as goal

abbrev pub invariant-writes : goal.invariant-writes
invariant-writes g l = record {
  written : (prefix : List ℕ) × (l.bytes ≡ prefix ++ l.rest) × Appends (g.K.Sink.held_bytes l.fn.sink) (g.K.Sink.held_bytes l.sink) prefix;
  same : g.K.Sink.faults l.sink ≡ g.K.Sink.faults l.fn.sink;
}

abbrev pub decreases-writes : goal.decreases-writes
decreases-writes g l = length l.rest
