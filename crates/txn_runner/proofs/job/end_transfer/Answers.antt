use Rattle.std.proofs.Common.{ap}
use Rattle.txn_runner.proofs.job.end_transfer.Goals as goal

pub returns-clause-row : goal.returns-clause-row
returns-clause-row g c = record {
  row_is = ap (λ seen. record { txn = c.args.number; answer = c.args.ended.answer; end = c.args.ended.end; seen = seen })
      c.in_ok-seen.ensures.seen.durable;
  waited = c.in_ok-seen.ensures.seen.waited;
}
