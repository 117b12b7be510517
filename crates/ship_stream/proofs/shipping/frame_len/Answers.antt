use Rattle.std.proofs.Common.{arith}
use Rattle.ship_stream.proofs.ShippingLemmas.{gathering-none, gathering-more, gathering_full-begins_frame, gathering_last-begins_frame, size-within_26_and_rest}
use Rattle.ship_stream.proofs.shipping.frame_len.Goals as goal

pub records-init : goal.records-init
records-init c = gathering-none c.args.units.now c.requires.records.0 c.requires.records.1

pub overflow_add-len : goal.overflow_add-len
overflow_add-len c =
    let bounds = size-within_26_and_rest _ _ _ c.records.invariant _ _ c.in-Some.ensures.cases.0 _ c.record_len-size.ensures in
    omega (arith, bounds.1, c.records.invariant.most)

pub split_at-requires : goal.split_at-requires
split_at-requires c = (size-within_26_and_rest _ _ _ c.records.invariant _ _ c.in-Some.ensures.cases.0 _ c.record_len-size.ensures).2

pub records-smaller : goal.records-smaller
records-smaller c =
    let bounds = size-within_26_and_rest _ _ _ c.records.invariant _ _ c.in-Some.ensures.cases.0 _ c.record_len-size.ensures in
    omega (arith, bounds.0, c.split_at.ensures.back_len)

pub records-preserved : goal.records-preserved
records-preserved c =
    gathering-more _ _ _ c.records.invariant _ _ c.in-Some.ensures.cases.0 _ c.record_len-size.ensures _ c.split_at.ensures.back
    (omega (arith, c.if-len-size-gt-SHIPPED_UNITS.false))

pub returns-then-len-size-gt-SHIPPED_UNITS : goal.returns-then-len-size-gt-SHIPPED_UNITS
returns-then-len-size-gt-SHIPPED_UNITS c =
    gathering_full-begins_frame _ _ _ c.records.invariant _ _ c.in-Some.ensures.cases.0 _ c.record_len-size.ensures
    (omega (arith, c.if-len-size-gt-SHIPPED_UNITS.true))

pub returns-in_default : goal.returns-in_default
returns-in_default c = gathering_last-begins_frame _ _ _ c.records.invariant c.requires.some (c.in_default.ensures.cases)
