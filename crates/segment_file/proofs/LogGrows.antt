-- A batch that was written behind the gate at the tail, and the answer where the log then goes on.
use Rattle.std.proofs.Common.{◌≡◌, refl, Result, Ok, IsErrAnd, arith}
use Rattle.std.proofs.lemmas.Result.{err_from_is_err_and}
use Rattle.log_disk.specs.Disk.{IsOnlyImage}
use Rattle.log_disk.specs.Faults.{Rose}
use Rattle.log_disk.specs.declared.disk.LogDisk.{Ghosts}
use Rattle.segment_file.specs.Changes.{Appends}
use Rattle.segment_file.specs.Log.{Log, with_units}
use Rattle.segment_file.specs.PackedBatch.{BatchState}
use Rattle.segment_file.specs.StandingLog.{tail_after, IsShut, LogStands}
use Rattle.segment_file.specs.declared.scan_result.Tail.{Tail}

module _ {D T E : Type 0} (g : Ghosts D) (tail : Tail) (given left : BatchState) (old new : D) (first : Result T E)
    (appends : Appends g (λ _. tail_after tail given.units) tail given left old new first) where
  -- it failed
  pub appends-failed : Rose (g.faults old) (g.faults new) → {F : Type 0} (Q : F → Type 0) (answer : Result Tail F) → IsErrAnd answer Q
      → Appends g (λ t. t) tail given left old new answer
  appends-failed rose Q answer is = rw (err_from_is_err_and answer is).1 (record {
    moments = appends.moments;
    appended = λ honest. tt;
    shut = λ honest. tt;
    settled = λ honest. tt;
    place = tt;
    next = tt;
    batch = appends.batch;
    count = appends.count;
    later = appends.later;
    honest = appends.honest;
    attached = appends.attached;
    cause = record { later = appends.cause.later; fine = tt; failed = rose };
    length = appends.length;
  })

  -- it succeeded
  pub appends-succeeded : (g.honest old → (log : Log) → LogStands tail log (g.images old)
      → LogStands (tail_after tail given.units) (with_units log given.units) (g.images new))
      → (g.honest old → IsShut (tail_after tail given.units).at (g.images new)) → (g.honest old → IsOnlyImage (g.reads new) (g.images new))
      → g.faults new ≡ g.faults old → {F : Type 0} (answer : Result Tail F) → answer ≡ Ok (tail_after tail given.units)
      → Appends g (λ t. t) tail given left old new answer
  appends-succeeded appended shut settled same answer is = rw is (record {
    moments = appends.moments;
    appended = appended;
    shut = shut;
    settled = settled;
    place = omega arith;
    next = refl;
    batch = appends.batch;
    count = appends.count;
    later = appends.later;
    honest = appends.honest;
    attached = appends.attached;
    cause = record { later = appends.cause.later; fine = same; failed = tt };
    length = appends.length;
  })
