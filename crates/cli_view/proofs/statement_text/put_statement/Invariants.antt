use Rattle.std.proofs.Common.{◌≡◌}
use Rattle.log_disk.specs.Streams.{AppendsBut}
use Rattle.cli_view.proofs.StatementLemmas.{lines_before}
use Rattle.cli_view.proofs.statement_text.put_statement.Given as goal

abbrev pub invariant-entries : goal.invariant-entries
invariant-entries g l = record {
  written : AppendsBut (g.K.Sink.held_bytes l.fn.sink) (g.K.Sink.held_bytes l.sink) (lines_before l.balance l.entries l.i) l.block;
  same : g.K.Sink.faults l.sink ≡ g.K.Sink.faults l.fn.sink;
}
