use Rattle.std.proofs.Common.{◌∙◌, ap, ◌++◌, length, arith}
use Rattle.std.proofs.lemmas.Grind.{common_steps}
use Rattle.log_disk.proofs.Moments.{Leaves-weaken}
use Rattle.segment_file.specs.File.{magic, batch}
use Rattle.segment_file.proofs.Creates.{midway-holds_none_or, put_open-first_batch_stands}
use Rattle.segment_file.proofs.GateBytes.{shut-within, put_open-next_gate_shut}
use Rattle.segment_file.proofs.PackingLemmas.{packed-state, counted_closed-magic_sealed, numbered-within_capacity, length-sealed, packed-counted_batch}
use Rattle.segment_file.proofs.Results.{IfOk-each, OnOk-map_both}
use Rattle.segment_file.proofs.creating.create_sealed.Goals as goal

pub push_reserved-requires : goal.push_reserved-requires
push_reserved-requires g c =
    omega (arith, numbered-within_capacity _ _ _ _ c.batch.invariant _ _ c.put_count.ensures.bytes, c.put_count.ensures.capacity)

pub write_gated-created-requires-clause-within : goal.write_gated-created-requires-clause-within
write_gated-created-requires-clause-within g c = λ honest. shut-within 0 _ (c.requires.shut honest) _ (g.met.D.LogDisk.read_is_image _ honest)

pub returns : goal.returns
returns g c =
    let batch_is = packed-state _ _ _ _ _ c.batch.invariant c.batch.view_is in
    let body = c.as_slice.ensures.value ∙ c.push_reserved.ensures.items
    ∙ counted_closed-magic_sealed _ _ _ _ batch_is _ _ c.put_count.ensures.bytes c.count-count.ensures in
    let counted = packed-counted_batch _ _ _ _ batch_is c.requires.some c.requires.most in
    let gated = c.write_gated-created.ensures in
    let image = g.met.D.LogDisk.read_is_image c.args.disk.now in
    record {
      moments = λ honest.
          let moments = rw body at (gated.moments honest) in
          Leaves-weaken g.D.LogDisk.moment g.D.LogDisk.images_since _ _ _ _
          (midway-holds_none_or _ _ _ (image honest) (c.requires.shut honest) counted) moments;
      created = λ honest.
          let written = rw body at (gated.written honest) in
          OnOk-map_both c.write_gated-created.result (λ written settled.
          put_open-first_batch_stands _ _ _ (image honest) (c.requires.shut honest) counted _ (omega arith) (omega arith) _ _ written settled)
          written (gated.settled honest);
      shut = λ honest.
          OnOk-map_both c.write_gated-created.result (λ written settled.
          put_open-next_gate_shut 0 _ (c.requires.shut honest) _ _ (image honest) (magic ++ batch c.args.batch.now.units) _ _ _ body written settled
          (omega (arith, ap length body, length-sealed c.args.batch.now.units))) (gated.written honest) (gated.settled honest);
      settled = gated.settled;
      place = IfOk-each _ c.write_gated-created.result (λ done. omega arith);
      next = IfOk-each _ c.write_gated-created.result (λ done. omega arith);
      batch = grind (arith, common_steps) steps 2000000;
      count = gated.count;
      later = gated.later;
      honest = gated.honest;
      attached = gated.attached;
      cause = gated.cause;
      length = λ honest. omega (arith, gated.length honest, ap length body, length-sealed c.args.batch.now.units);
    }
