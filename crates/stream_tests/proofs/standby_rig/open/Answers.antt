use Rattle.std.proofs.Common.{◌∙◌, sym, ap, subst, length, arith}
use Rattle.log_disk.specs.Disk.{IsOnlyImage}
use Rattle.log_recovery.specs.Opened.{log_of}
use Rattle.segment_file.proofs.Scanned.{only_image-LogStands, stands-stable, stands-within}
use Rattle.standby.specs.TakenList.{KeepsList}
use Rattle.stream_tests.proofs.standby_rig.open.Goals as goal

pub settle-requires-clause-stable : goal.settle-requires-clause-stable
settle-requires-clause-stable g c = λ honest.
    let was = c.open_image.ensures.honest.1 honest in
    let found = c.in-Ok-judged.ensures.found in
    let held = c.as_slice.ensures.value ∙ c.in-Ok.ensures.bytes was ∙ sym (c.open_image.ensures.reads was) in
    stands-stable c.in-Ok-judged.tail (log_of found.list) _ found.stands _
    (subst (λ file. IsOnlyImage file (g.D.LogDisk.images c.open_image.new.disk)) (sym held) (c.in-Ok.ensures.settled was))

pub returns-in-Ok-settle : goal.returns-in-Ok-settle
returns-in-Ok-settle g c =
    let found = c.in-Ok-judged.ensures.found in
    let settled = c.in-Ok-settle.ensures in
    let within = stands-within c.in-Ok-judged.tail (log_of found.list) _ found.stands in (
      found.list,
      subst (λ t. KeepsList g.D.LogDisk found.list c.in-Ok-judged.judge t c.settle.new.disk) (sym settled.tail) (record {
        each = found.held.list.each;
        taken = found.taken;
        next = found.stands.next;
        place = omega (arith, within, ap length c.as_slice.ensures.value);
        stands = λ is.
            let honest = settled.honest.1 is in
            let was = c.open_image.ensures.honest.1 honest in
            let held = c.as_slice.ensures.value ∙ c.in-Ok.ensures.bytes was ∙ sym (c.open_image.ensures.reads was) in
            settled.stand honest (log_of found.list)
            (only_image-LogStands c.in-Ok-judged.tail (log_of found.list) _ found.stands _
            (subst (λ file. IsOnlyImage file (g.D.LogDisk.images c.open_image.new.disk)) (sym held) (c.in-Ok.ensures.settled was)));
        shut = λ is. settled.shut (settled.honest.1 is);
      }),
    )
