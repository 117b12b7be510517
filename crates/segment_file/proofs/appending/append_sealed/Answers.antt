use Rattle.std.proofs.Common.{◌∙◌, ap, length, arith}
use Rattle.std.proofs.lemmas.Grind.{common_steps}
use Rattle.log_disk.proofs.Moments.{Leaves-weaken}
use Rattle.segment_file.specs.File.{batch}
use Rattle.segment_file.proofs.Appends.{midway-log_or_more, put_open-with_units_stand}
use Rattle.segment_file.proofs.GateBytes.{shut-within, put_open-next_gate_shut}
use Rattle.segment_file.proofs.PackingLemmas.{packed-state, counted_body-sealed, numbered-within_capacity, length-sealed, packed-counted_batch}
use Rattle.segment_file.proofs.Results.{IfOk-each, OnOk-map_both}
use Rattle.segment_file.proofs.appending.append_sealed.Goals as goal

pub push_reserved-requires : goal.push_reserved-requires
push_reserved-requires g c =
    omega (arith, numbered-within_capacity _ _ _ _ c.batch.invariant _ _ c.put_count.ensures.bytes, c.put_count.ensures.capacity)

pub write_gated-appended-requires-clause-within : goal.write_gated-appended-requires-clause-within
write_gated-appended-requires-clause-within g c = λ honest. shut-within _ _ (c.requires.shut honest) _ (g.met.D.LogDisk.read_is_image _ honest)

pub returns : goal.returns
returns g c =
    let batch_is = packed-state _ _ _ _ _ c.batch.invariant c.batch.view_is in
    let body = counted_body-sealed _ _ _ _ batch_is _ _ c.put_count.ensures.bytes c.count-count.ensures _ _
    (c.as_slice.ensures.value ∙ c.push_reserved.ensures.items) c.split_at.ensures.back in
    let counted = packed-counted_batch _ _ _ _ batch_is c.requires.some c.requires.most in
    let gated = c.write_gated-appended.ensures in
    let image = g.met.D.LogDisk.read_is_image c.args.disk.now in
    record {
      moments = λ honest log stand.
          let moments = rw body at (gated.moments honest) in
          Leaves-weaken g.D.LogDisk.moment g.D.LogDisk.images_since _ _ _ _
          (midway-log_or_more c.args.tail log _ _ _ (image honest) (c.requires.shut honest) counted c.requires.fits stand) moments;
      appended = λ honest.
          let written = rw body at (gated.written honest) in
          OnOk-map_both c.write_gated-appended.result (λ written settled log stand.
          put_open-with_units_stand c.args.tail log _ _ _ (image honest) (c.requires.shut honest) counted c.requires.fits stand
          _ (omega arith) (omega arith) _ _ written settled) written (gated.settled honest);
      shut = λ honest.
          OnOk-map_both c.write_gated-appended.result (λ written settled.
          put_open-next_gate_shut _ _ (c.requires.shut honest) _ _ (image honest) (batch c.args.batch.now.units) _ _ _ body written settled
          (omega (arith, ap length body, length-sealed c.args.batch.now.units))) (gated.written honest) (gated.settled honest);
      settled = gated.settled;
      place = IfOk-each _ c.write_gated-appended.result (λ done. omega arith);
      next = IfOk-each _ c.write_gated-appended.result (λ done. omega arith);
      batch = grind (arith, common_steps) steps 2000000;
      count = gated.count;
      later = gated.later;
      honest = gated.honest;
      attached = gated.attached;
      cause = gated.cause;
      length = λ honest. omega (arith, gated.length honest, ap length body, length-sealed c.args.batch.now.units);
    }

pub invariant_of-batch : goal.invariant_of-batch
invariant_of-batch g c = grind (arith, common_steps) steps 2000000
