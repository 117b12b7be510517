use Rattle.std.proofs.Common.{rules, arith, length, ap}
use Rattle.segment_file.proofs.PackingLemmas.{packed-state, length-packed_state, packed_unit-at}
use Rattle.segment_file.proofs.batch.Batch.at.Goals as goal

pub split_at-requires : goal.split_at-requires
split_at-requires c =
    omega (arith, length-packed_state _ _ _ _ _ c.self.invariant c.self.view_is, ap length c.as_slice.ensures.value, c.requires)

pub unreachable-requires : goal.unreachable-requires
unreachable-requires c =
    let long = length-packed_state _ _ _ _ _ c.self.invariant c.self.view_is in
    absurd (omega (arith, long, ap length c.as_slice.ensures.value, c.requires, c.in-None.ensures.none, c.split_at.ensures.back_len))

pub returns : goal.returns
returns c =
    let packed = packed-state _ _ _ _ _ c.self.invariant c.self.view_is in
    packed_unit-at _ _ _ _ packed c.args.index c.in-Some.unit c.in-Some.field-0-1.now c.requires (search rules) (search rules)
