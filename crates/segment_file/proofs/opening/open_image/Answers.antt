use Rattle.std.proofs.Common.{◌≡◌, ◌≤◌, ◌∙◌, ◌+◌, sym, subst, ap, length, Err, IfOk, arith}
use Rattle.std.proofs.lemmas.Result.{err_from_is_err_and}
use Rattle.log_disk.proofs.Counting.{Costs-weaken, CountsWhere-same_before}
use Rattle.log_disk.proofs.Moments.{Leaves-trans, Leaves-weaken}
use Rattle.segment_file.specs.MostReads.{most_reads}
use Rattle.segment_file.proofs.Results.{IfOk-each}
use Rattle.segment_file.proofs.opening.open_image.Goals as goal

pub returns-in_err-len : goal.returns-in_err-len
returns-in_err-len g c =
    let failed = err_from_is_err_and c.from_residual.result c.from_residual.ensures.1 in
    let synced = c.synced_len.ensures in
    rw failed.1 (record {
      bytes = λ honest. tt;
      settled = λ honest. tt;
      reads = synced.settles.reads;
      images = synced.settles.images;
      moments = synced.settles.moments;
      count = λ honest. Costs-weaken g.D.LogDisk 1 1 2 _ _ _ (omega arith) (omega arith) (synced.uses.count honest);
      honest = synced.uses.honest;
      attached = synced.uses.attached;
      faults = record { counted = λ is. c.in_err-len.ensures.uses.cause.failed; fine = λ other. absurd (other (ap (λ fault. Err fault) failed.2)) };
    })

pub returns : goal.returns
returns g c =
    let synced = c.in_ok-len.ensures in
    let read = c.read_up_to.ensures in
    record {
      bytes = λ honest.
          let same = synced.settles.reads honest in
          subst (λ file. IfOk c.read_up_to.result (λ bytes. bytes.items ≡ file)) same
          (read.bytes (synced.uses.honest.0 honest) (synced.len honest ∙ sym (ap length same)));
      settled = λ honest. IfOk-each _ c.read_up_to.result (λ done crash left.
          synced.settles.settled honest crash ((read.keeps.image crash).0 left) ∙ sym (read.keeps.file (synced.uses.honest.0 honest)));
      reads = λ honest. read.keeps.file (synced.uses.honest.0 honest) ∙ synced.settles.reads honest;
      images = λ crash left. synced.settles.images crash ((read.keeps.image crash).0 left);
      moments = Leaves-trans g.D.LogDisk.moment g.D.LogDisk.images_since _ _ _ _ synced.settles.moments
          (Leaves-weaken g.D.LogDisk.moment g.D.LogDisk.images_since _ _ _ _ synced.settles.images read.moments);
      count = λ honest.
          let same = synced.settles.reads honest in
          let before = synced.uses.count honest in
          let mid = synced.uses.honest.0 honest in
          let calls : g.D.LogDisk.calls c.read_up_to.new.disk ≤ g.D.LogDisk.calls c.synced_len.new.disk
          + most_reads (length (g.D.LogDisk.reads c.args.disk.now)) =
          subst (λ file. g.D.LogDisk.calls c.read_up_to.new.disk ≤ g.D.LogDisk.calls c.synced_len.new.disk + most_reads (length file)) same
          (read.calls mid (synced.len honest ∙ sym (ap length same))) in
          record { successes = omega (arith, before.successes, read.keeps.count mid); calls = omega (arith, before.calls, calls) };
      honest = (λ honest. read.honest.0 (synced.uses.honest.0 honest), λ honest. synced.uses.honest.1 (read.honest.1 honest));
      attached = read.attached ∙ synced.uses.attached;
      faults = CountsWhere-same_before _ _ _ _ synced.uses.cause.fine read.faults;
    }
