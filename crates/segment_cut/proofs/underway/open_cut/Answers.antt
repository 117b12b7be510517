use Rattle.std.proofs.Common.{[], ◌∷◌, ap, length, ◌∙◌, arith}
use Rattle.std.proofs.lemmas.Result.{err_from_is_err_and}
use Rattle.log_disk.specs.Disk.{put, IsOnlyImage}
use Rattle.log_disk.proofs.Counting.{Costs-weaken, Costs-trans}
use Rattle.log_disk.proofs.Moments.{Leaves-trans, Leaves-weaken}
use Rattle.log_disk.proofs.Uses.{HasCause-same_before}
use Rattle.segment_file.specs.declared.layout.TheConstants.{OPEN}
use Rattle.segment_file.proofs.Results.{OnOk-map_both}
use Rattle.segment_cut.proofs.Behind.{put_open-batches_stand, put_open-tail_gate_shut, opens-none_or, shut-none_or}
use Rattle.segment_cut.proofs.underway.open_cut.Goals as goal

pub write_synced-requires : goal.write_synced-requires
write_synced-requires g c = λ honest. omega arith

pub returns-in_err-sync_all : goal.returns-in_err-sync_all
returns-in_err-sync_all g c =
    let failed = err_from_is_err_and c.from_residual.result c.from_residual.ensures.1 in
    let synced = c.sync_all.ensures in
    rw failed.1 (record {
      moments = λ honest tail log batches underway.
          Leaves-weaken g.D.LogDisk.moment g.D.LogDisk.images_since _ _ _ _ (shut-none_or log batches _ underway.shut) synced.settles.moments;
      opened = λ honest. tt;
      shut = λ honest. tt;
      settled = λ honest. tt;
      count = λ honest. Costs-weaken g.D.LogDisk 1 3 1 3 _ _ (omega arith) (omega arith) (synced.uses.count honest);
      later = synced.uses.later;
      honest = synced.uses.honest;
      attached = synced.uses.attached;
      cause = record { later = synced.uses.cause.later; fine = tt; failed = c.in_err-sync_all.ensures.uses.cause.failed };
      length = λ honest. omega (arith, ap length (synced.settles.reads honest));
    })

-- after the sync the file that is read is the only image
pub returns : goal.returns
returns g c =
    let synced = c.in_ok-sync_all.ensures in
    let opened = c.write_synced.ensures in
    let image = g.met.D.LogDisk.read_is_image c.args.disk.now in
    let mid = synced.uses.honest.0 in
    let file = λ (honest : g.D.LogDisk.honest c.args.disk.now). ap (put 0 (OPEN ∷ [])) (synced.settles.reads honest) in
    let only : g.D.LogDisk.honest c.args.disk.now
    → IsOnlyImage (g.D.LogDisk.reads c.args.disk.now) (g.D.LogDisk.images c.sync_all.new.disk) =
    λ honest crash left. synced.settles.settled honest crash left ∙ synced.settles.reads honest in
    record {
      moments = λ honest tail log batches underway.
          Leaves-trans g.D.LogDisk.moment g.D.LogDisk.images_since _ _ _ _
          (Leaves-weaken g.D.LogDisk.moment g.D.LogDisk.images_since _ _ _ _ (shut-none_or log batches _ underway.shut) synced.settles.moments)
          (Leaves-weaken g.D.LogDisk.moment g.D.LogDisk.images_since _ _ _ _
          (opens-none_or tail log batches _ _ (image honest) underway _ (only honest)) opened.moments);
      opened = λ honest. OnOk-map_both c.write_synced.result (λ written settled tail log batches underway.
          put_open-batches_stand tail log batches _ _ (image honest) underway _ _ (written ∙ file honest) settled)
          (opened.written (mid honest)) (opened.settled (mid honest));
      shut = λ honest. OnOk-map_both c.write_synced.result (λ written settled tail log batches underway.
          put_open-tail_gate_shut tail log batches _ _ (image honest) underway _ _ (written ∙ file honest) settled)
          (opened.written (mid honest)) (opened.settled (mid honest));
      settled = λ honest. opened.settled (mid honest);
      count = λ honest. Costs-trans g.D.LogDisk 1 2 1 2 _ _ _ (synced.uses.count honest) (opened.count (mid honest));
      later = omega (arith, synced.uses.later, opened.moments.later);
      honest = (λ honest. opened.honest.0 (mid honest), λ honest. synced.uses.honest.1 (opened.honest.1 honest));
      attached = opened.attached ∙ synced.uses.attached;
      cause = HasCause-same_before _ _ _ c.write_synced.result synced.uses.cause.fine opened.cause;
      length = λ honest. omega (arith, (opened.torn (mid honest)).no_longer, ap length (synced.settles.reads honest));
    }
