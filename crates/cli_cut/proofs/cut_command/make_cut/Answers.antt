use Rattle.log_disk.specs.Costs.{Costs}
use Rattle.log_disk.proofs.Counting.{Costs-trans}
use Rattle.cli_cut.specs.Cutting.{AllHoldCut, GrowsByCut, MayBeCut, ReadsCut}
use Rattle.cli_cut.proofs.CuttingLemmas.{LogStands-all_hold_cut, grows-cut, leaves-cut}
use Rattle.cli_cut.proofs.TryingLemmas.{tries-failed, tries-fine}
use Rattle.cli_cut.proofs.cut_command.make_cut.Goals as goal

pub make-requires : goal.make-requires
make-requires g c = c.in_ok-opening.ensures.held

pub create_cut-requires : goal.create_cut-requires
create_cut-requires g c = record { stable = λ honest. c.in_ok-finds_none.ensures.gate (c.in_ok-finds_none.ensures.honest.1 honest) }

-- the log is made
pub returns-in-Ok-create_cut : goal.returns-in-Ok-create_cut
returns-in-Ok-create_cut g c =
    let found = c.in_ok-finds_none.ensures in
    let reads = c.in_ok-opening.ensures.told in
    let created = c.in-Ok-create_cut.ensures in
    let mid = c.finds_none.new.disk in
    tries-fine g.D.LogDisk g.S.Source ReadsCut MayBeCut AllHoldCut (Costs g.D.LogDisk 7 11) (GrowsByCut g.D.LogDisk (g.S.Source.left c.args.source.now))
    _ _ mid _ _ _ found.closed found.honest found.attached (found.disk.fine (λ is. cc))
    (λ honest. leaves-cut _ _ _ reads g.D.LogDisk.moment g.D.LogDisk.images_since _ _ mid _ found.moments
    (rw c.in-Ok.ensures at (created.moments (found.honest.0 honest))))
    (λ honest. Costs-trans g.D.LogDisk 1 6 4 7 _ mid _ (found.count honest) (created.count (found.honest.0 honest)))
    (λ honest. grows-cut _ _ _ reads g.D.LogDisk _ mid _ (found.reads honest) (rw c.in-Ok.ensures at (created.length (found.honest.0 honest))))
    created.honest created.attached (c.in_ok-opening.ensures.read.fine (λ is. cc)) _ reads
    (λ honest. LogStands-all_hold_cut _ _ _ reads _ _ (rw c.in-Ok.ensures at (created.created (found.honest.0 honest)))) created.cause.fine

-- the disk failed while it was made
pub returns-in-Err : goal.returns-in-Err
returns-in-Err g c =
    let found = c.in_ok-finds_none.ensures in
    let reads = c.in_ok-opening.ensures.told in
    let created = c.in-Err.ensures in
    let mid = c.finds_none.new.disk in
    tries-failed g.D.LogDisk g.S.Source ReadsCut MayBeCut AllHoldCut (Costs g.D.LogDisk 7 11) (GrowsByCut g.D.LogDisk (g.S.Source.left c.args.source.now))
    _ _ mid _ _ _ found.closed found.honest found.attached (found.disk.fine (λ is. cc))
    (λ honest. leaves-cut _ _ _ reads g.D.LogDisk.moment g.D.LogDisk.images_since _ _ mid _ found.moments
    (rw c.in-Ok.ensures at (created.moments (found.honest.0 honest))))
    (λ honest. Costs-trans g.D.LogDisk 1 6 4 7 _ mid _ (found.count honest) (created.count (found.honest.0 honest)))
    (λ honest. grows-cut _ _ _ reads g.D.LogDisk _ mid _ (found.reads honest) (rw c.in-Ok.ensures at (created.length (found.honest.0 honest))))
    created.honest created.attached (c.in_ok-opening.ensures.read.fine (λ is. cc)) created.cause.failed
