use Rattle.std.proofs.Common.{◌≡◌, ◌∙◌, length, arith}
use Rattle.own_records.proofs.Readings.{count_at-spelled, length-spelled}
use Rattle.own_records.proofs.record.split_counted.Goals as goal
use Rattle.own_records.proofs.record.split_counted.Goals.{then-count-eq0-via-then-count-eq0}
use Rattle.own_records.proofs.record.split_counted.Goals.{then-count-eq0-via-else-count-eq0+then-count-gt-MOST_BYTES}
use Rattle.own_records.proofs.record.split_counted.Goals.{then-count-eq0-via-else-count-eq0+else-count-gt-MOST_BYTES+then-rest-count}

pub returns-then-count-eq0-clause-none : goal.returns-then-count-eq0-clause-none
returns-then-count-eq0-clause-none c = λ text rest is e.
    let same : c.from_be_bytes-count.result ≡ length text = c.from_be_bytes-count.ensures ∙ count_at-spelled _ text rest is.most e in
    let long = length-spelled c.args.bytes.now text rest e in
    elim c.then-count-eq0.branch [
      | then-count-eq0-via-then-count-eq0 w ↦ omega (arith, is.some)
      | then-count-eq0-via-else-count-eq0+then-count-gt-MOST_BYTES w ↦ omega (arith, is.most)
      | then-count-eq0-via-else-count-eq0+else-count-gt-MOST_BYTES+then-rest-count w ↦ omega (arith, is.most)
    ]

pub returns-in_default-clause-none : goal.returns-in_default-clause-none
returns-in_default-clause-none c = λ text rest is e. omega (arith, length-spelled c.args.bytes.now text rest e)
