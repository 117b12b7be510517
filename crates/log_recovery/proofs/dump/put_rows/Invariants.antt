use Rattle.std.proofs.Common.{◌≡◌}
use Rattle.log_recovery.proofs.SnapshotLemmas.{RowsFront}
use Rattle.log_recovery.proofs.dump.put_rows.Given as goal

abbrev pub invariant-accounts : goal.invariant-accounts
invariant-accounts g l = record {
  front : RowsFront l.accounts.rows l.account l.fn.block l.block (g.K.Sink.held_bytes l.fn.sink) (g.K.Sink.held_bytes l.sink);
  same : g.K.Sink.faults l.sink ≡ g.K.Sink.faults l.fn.sink;
}
