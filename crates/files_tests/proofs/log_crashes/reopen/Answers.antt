use Rattle.std.proofs.Common.{◌∙◌, sym, subst}
use Rattle.log_disk.specs.Disk.{IsOnlyImage}
use Rattle.segment_file.proofs.Scanned.{scanned-stable}
use Rattle.files_tests.proofs.log_crashes.reopen.Goals as goal

pub settle-requires-clause-stable : goal.settle-requires-clause-stable
settle-requires-clause-stable g c = λ honest.
    let was = c.open_image.ensures.honest.1 honest in
    let held = c.as_slice.ensures.value ∙ c.in-Ok.ensures.bytes was ∙ sym (c.open_image.ensures.reads was) in
    scanned-stable c.in-Ok-scan.found _ _ c.in-Ok-scan.ensures.found (subst (λ file. IsOnlyImage file (g.D.LogDisk.images c.open_image.new.disk)) (sym held) (c.in-Ok.ensures.settled was))
