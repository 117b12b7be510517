use Rattle.std.proofs.Common.{◌≡◌, ◌∙◌, ◌+◌, ◌*◌, ap, length, arith}
use Rattle.segment_file.proofs.PackingLemmas.{state-changed_units, packed-state, packed-restored, packed-units_in, units_in-restored, numbered-within_capacity, length-numbered}
use Rattle.segment_file.proofs.PackingLemmas.{length-opened, opened_body-open_sealed, length-sealed}
use Rattle.segment_file.proofs.opened_write.write_opened.Goals as goal

pub put_before-requires : goal.put_before-requires
put_before-requires g c = omega (arith, length-numbered _ _ _ _ c.batch.invariant _ _ c.put_count.ensures.bytes)

pub push_reserved-requires : goal.push_reserved-requires
push_reserved-requires g c =
    let longer = length-opened _ _ _ _ c.batch.invariant _ _ c.put_count.ensures.bytes _ _ c.put_before.ensures.bytes in
    let numbered = length-numbered _ _ _ _ c.batch.invariant _ _ c.put_count.ensures.bytes in
    let room = numbered-within_capacity _ _ _ _ c.batch.invariant _ _ c.put_count.ensures.bytes in
    omega (arith, longer, numbered, room, c.put_count.ensures.capacity, c.put_before.ensures.capacity)

pub split_at-requires : goal.split_at-requires
split_at-requires g c =
    let full = ap length (c.as_slice.ensures.value ∙ c.push_reserved.ensures.items) in
    omega (arith, full, length-opened _ _ _ _ c.batch.invariant _ _ c.put_count.ensures.bytes _ _ c.put_before.ensures.bytes)

pub put_before-requires-2 : goal.put_before-requires-2
put_before-requires-2 g c =
    let longer = length-opened _ _ _ _ c.batch.invariant _ _ c.put_count.ensures.bytes _ _ c.put_before.ensures.bytes in
    omega (arith, longer, c.len-len.ensures, ap length c.push_reserved.ensures.items, c.truncate.ensures.len)

pub invariant_of-batch : goal.invariant_of-batch
invariant_of-batch g c =
    packed-units_in _ _ _ _ (packed-restored _ _ _ _ c.batch.invariant _ _ c.put_count.ensures.bytes _ _ c.put_before.ensures.bytes _ _ _ _
    (omega (arith, c.len-len.ensures)) c.push_reserved.ensures.items c.truncate.ensures.items c.put_before-2.ensures.bytes _
    (omega (
      arith,
      c.put_count.ensures.capacity,
      c.put_before.ensures.capacity,
      c.push_reserved.ensures.capacity,
      c.truncate.ensures.capacity,
      c.put_before-2.ensures.capacity,
    )))

pub returns : goal.returns
returns g c =
    let packed = packed-state _ _ _ _ _ c.batch.invariant c.batch.view_is in
    let body = opened_body-open_sealed _ _ _ _ packed _ _ c.put_count.ensures.bytes c.count-count.ensures _ _ _ c.put_before.ensures.bytes
    (c.as_slice.ensures.value ∙ c.push_reserved.ensures.items) c.split_at.ensures.back in
    let len : length c.split_at.result.1.now ≡ 6 + 8 * length c.args.batch.now.units =
    omega (arith, ap length body, length-sealed c.args.batch.now.units) in
    let same = units_in-restored _ _ _ _ c.batch.invariant _ _ c.put_count.ensures.bytes _ _ c.put_before.ensures.bytes _ _ _ _
    (omega (arith, c.len-len.ensures)) c.push_reserved.ensures.items c.truncate.ensures.items c.put_before-2.ensures.bytes in
    let wrote = c.write_unsynced-written.ensures in
    record {
      written = λ honest. rw body at (wrote.written honest);
      images = rw len at wrote.images;
      moments = rw len at wrote.moments;
      units = packed.each;
      batch = state-changed_units (λ units. units) _ _ _ _ c.batch.view_is same;
      count = wrote.count;
      later = wrote.later;
      honest = wrote.honest;
      attached = wrote.attached;
      cause = wrote.cause;
      length = λ honest. omega (arith, (wrote.torn honest).no_longer, len);
    }
