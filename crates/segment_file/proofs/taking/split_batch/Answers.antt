use Rattle.std.proofs.Common.{◌≡◌, ◌∙◌, length, arith}
use Rattle.segment_file.proofs.BatchLemmas.{count_at-batch, length-batch}
use Rattle.segment_file.proofs.taking.split_batch.Goals as goal
use Rattle.segment_file.proofs.taking.split_batch.Goals.{then-count-eq0-via-then-count-eq0}
use Rattle.segment_file.proofs.taking.split_batch.Goals.{then-count-eq0-via-else-count-eq0+then-count-gt-MOST_UNITS}
use Rattle.segment_file.proofs.taking.split_batch.Goals.{then-count-eq0-via-else-count-eq0+else-count-gt-MOST_UNITS+then-rest-count}

pub returns-then-count-eq0-clause-none : goal.returns-then-count-eq0-clause-none
returns-then-count-eq0-clause-none c = λ units rest b e.
    let same : c.from_be_bytes-count.result ≡ length units = c.from_be_bytes-count.ensures ∙ count_at-batch _ units rest b.most e in
    let long = length-batch c.args.bytes.now units rest e in
    elim c.then-count-eq0.branch [
      | then-count-eq0-via-then-count-eq0 w ↦ omega (arith, b.some)
      | then-count-eq0-via-else-count-eq0+then-count-gt-MOST_UNITS w ↦ omega (arith, b.most)
      | then-count-eq0-via-else-count-eq0+else-count-gt-MOST_UNITS+then-rest-count w ↦ omega (arith, b.most)
    ]

pub returns-in_default-clause-none : goal.returns-in_default-clause-none
returns-in_default-clause-none c = λ units rest b e. omega (arith, length-batch c.args.bytes.now units rest e)

pub returns-clause-only : goal.returns-clause-only
returns-clause-only c = λ units rest b e. c.from_be_bytes-count.ensures ∙ count_at-batch _ units rest b.most e
