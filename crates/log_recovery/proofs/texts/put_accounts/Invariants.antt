use Rattle.std.proofs.Common.{◌≡◌, ◌++◌}
use Rattle.log_disk.specs.Streams.{AppendsBut}
use Rattle.log_recovery.specs.Text.{lsn_line, account_lines}
use Rattle.log_recovery.proofs.TextLemmas.{balance_in}
use Rattle.log_recovery.proofs.texts.put_accounts.Given as goal

abbrev pub invariant-loop-account : goal.invariant-loop-account
invariant-loop-account g l = record {
  written : AppendsBut (g.K.Sink.held_bytes l.fn.sink) (g.K.Sink.held_bytes l.sink)
      (lsn_line l.fn.lsn ++ account_lines (balance_in l.accounts.rows) l.account) l.block;
  same : g.K.Sink.faults l.sink ≡ g.K.Sink.faults l.fn.sink;
}
