use Rattle.std.proofs.Common.{refl, vec_capacity, arith}
use Rattle.segment_file.proofs.PackingLemmas.{packed-none, packed-units_in, units_in-packed}
use Rattle.segment_file.proofs.batch.Batch.make.Goals as goal

pub invariant_of-result : goal.invariant_of-result
invariant_of-result c =
    packed-units_in _ _ _ _ (packed-none c.args.units (vec_capacity c.in_ok-bytes.bytes) c.in_ok-bytes.bytes.items c.in_ok-bytes.ensures.bytes
    (omega arith) (omega (arith, c.in_ok-bytes.ensures.capacity)))

pub returns : goal.returns
returns c = (
  units_in-packed _ _ _ _ (packed-none c.args.units (vec_capacity c.in_ok-bytes.bytes) c.in_ok-bytes.bytes.items c.in_ok-bytes.ensures.bytes
      (omega arith) (omega (arith, c.in_ok-bytes.ensures.capacity))),
  refl,
)
