use Rattle.std.proofs.Common.{sym, arith, true≢false}
use Rattle.stream_reader.proofs.RecordLemmas.{passed-more, passed_bad-no_records}
use Rattle.stream_reader.proofs.records.is_whole.Goals as goal

pub returns-in_default : goal.returns-in_default
returns-in_default c = (
  λ never. absurd (true≢false (sym never)),
  λ all.
      absurd (passed_bad-no_records c.args.batch.now.units c.records.at c.records.invariant (omega (arith, c.records-test.true, c.count.ensures))
      c.in_default.ensures.bad all.0 all.1),
)

pub records-preserved : goal.records-preserved
records-preserved c =
    passed-more c.args.batch.now.units c.records.at c.in-Ok.size _ c.records.invariant c.in-Ok.ensures.found.0 c.in-Ok.ensures.found.1
