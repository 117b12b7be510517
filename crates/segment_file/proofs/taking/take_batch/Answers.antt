use Rattle.std.proofs.Common.{◌≡◌, length, arith, ap, length-append}
use Rattle.lsn_space.proofs.UnitLemmas.{length-unit_bytes}
use Rattle.segment_file.proofs.BatchLemmas.{batch-of_parts}
use Rattle.segment_file.proofs.taking.take_batch.Goals as goal

pub returns-in-Ok-clause-taken : goal.returns-in-Ok-clause-taken
returns-in-Ok-clause-taken c =
    let pushed = c.in-Ok.ensures in
    let counted = c.in-Some.ensures.counted in
    let count : c.in-Some.count ≡ length pushed.0 = omega (arith, counted.2, ap length pushed.2, length-unit_bytes pushed.0) in
    record {
      units = pushed.0;
      counted = record { some = omega (arith, counted.0); most = omega (arith, counted.1); each = pushed.1 };
      front = batch-of_parts _ _ _ pushed.0 _ c.in-Some.ensures.whole count pushed.2;
      added = pushed.3;
      total = omega (arith, ap length pushed.3, length-append c.args.units.now.items pushed.0);
    }
