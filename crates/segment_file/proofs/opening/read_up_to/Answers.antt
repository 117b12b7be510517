use Rattle.std.proofs.Common.{◌∙◌, ◌+◌, ap, arith, subst, sym, length, length-append, refl, rules, take}
use Rattle.std.proofs.lemmas.List.{length-take-le}
use Rattle.log_disk.specs.Faults.{raised}
use Rattle.segment_file.proofs.OpeningLemmas.{HasSpent, HasSpent-more, file_front-append}
use Rattle.segment_file.proofs.opening.read_up_to.Goals as goal

pub returns-in-Err-clause-faults : goal.returns-in-Err-clause-faults
returns-in-Err-clause-faults g c = record {
  counted = λ is. c.in-Err.ensures.cause.failed ∙ ap raised c.reading.invariant.faults;
  fine = λ other. absurd (other refl);
}

pub reading-preserved : goal.reading-preserved
reading-preserved g c =
    let was = c.reading.invariant in
    let counted = length-take-le c.in-Ok.count c.read_at.new.buf c.in-Ok.ensures.fits in
    record {
      honest = search rules;
      attached = c.read_at.ensures.attached ∙ was.attached;
      keeps = search rules;
      moments = search rules;
      faults = search rules;
      spent = λ honest len_is.
          let here = was.honest.0 honest in
          let added = ap length c.in_ok-add_front.ensures.items ∙ length-append c.reading.bytes.items (take c.in-Ok.count c.read_at.new.buf)
          ∙ ap (λ n. length c.reading.bytes.items + n) counted in
          let file = ap length (was.keeps.file honest) in
          let read = c.in-Ok.ensures.count here in
          subst (λ n. HasSpent c.args.len n (g.D.LogDisk.calls c.args.disk.now) (g.D.LogDisk.calls c.read_at.new.self)) (sym added)
          (HasSpent-more c.args.len (length c.reading.bytes.items) c.in-Ok.count _ _ _ (omega (arith, c.reading-test.true, c.len.ensures)) (search rules) (c.read_at.ensures.calls here)
          (was.spent honest len_is));
      bytes = λ honest.
          let told = c.in-Ok.ensures.bytes (was.honest.0 honest) in
          let file = was.keeps.file honest in
          file_front-append (g.D.LogDisk.reads c.args.disk.now) c.reading.bytes.items c.add_front.new.bytes.items
          (take c.in-Ok.count c.read_at.new.buf) c.in-Ok.count c.in_ok-add_front.ensures.items counted (was.bytes honest)
          (search rules);
    }
