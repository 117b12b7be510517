use Rattle.std.proofs.Common.{◌≡◌, ◌≤◌, ◌+◌, ◌-◌, List, ℕ, length}
use Rattle.log_disk.specs.Streams.{AppendsBut}
use Rattle.daemon_turn.proofs.BatchLemmas.{IsToldUpTo}
use Rattle.daemon_turn.proofs.telling.tell_batch.Given as goal

abbrev pub invariant-records : goal.invariant-records
invariant-records g l = record {
  same : l.batch ≡ l.initial.batch;
  no_fault : g.K.Sink.faults l.sink ≡ g.K.Sink.faults l.fn.sink;
  within : l.at ≤ length l.batch.units;
  lines_few : l.lines ≤ l.at;
  few : l.tally.done + l.tally.refused ≤ (l.fn.tally.done + l.fn.tally.refused) + l.at;
  told : (text : List ℕ) × AppendsBut (g.K.Sink.held_bytes l.fn.sink) (g.K.Sink.held_bytes l.sink) text l.block
      × IsToldUpTo l.fn.voice l.from l.at l.batch.units text l.lines l.fn.tally l.tally;
}

abbrev pub decreases-records : goal.decreases-records
decreases-records g l = length l.batch.units - l.at
