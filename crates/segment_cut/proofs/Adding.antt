-- A batch that was written behind the tail of a log under way.
use Rattle.std.proofs.Common.{◌≡◌, ◌≤◌, ℕ, ◌+◌, ◌*◌, List, [], ◌∷◌, ◌++◌, length, Result, Ok, Err, IfOk, arith}
use Rattle.log_disk.specs.Disk.{put, Leaves}
use Rattle.log_disk.specs.Faults.{HasCause, Rose}
use Rattle.log_disk.specs.declared.disk.LogDisk.{Ghosts}
use Rattle.log_disk.proofs.Moments.{Leaves-weaken}
use Rattle.lsn_space.specs.declared.lsn.TheConstants.{LAST}
use Rattle.segment_file.specs.Calls.{WritesOpened}
use Rattle.segment_file.specs.File.{BeginsAsLog, IsCountedBatch}
use Rattle.segment_file.specs.Gates.{sealed}
use Rattle.segment_file.specs.Log.{Log, with_units}
use Rattle.segment_file.specs.PackedBatch.{BatchState}
use Rattle.segment_file.specs.declared.layout.TheConstants.{OPEN}
use Rattle.segment_file.specs.declared.scan_result.Tail.{Tail}
use Rattle.segment_cut.specs.Calls.{AddsCut, IsOnDisk}
use Rattle.segment_cut.proofs.Behind.{added, underway-tail_positive, torn-no_log}

module _ {D T E : Type 0} (g : Ghosts D) (tail : Tail) (given left : BatchState) (old new : D)
    (image : g.honest old → g.images old (g.reads old))
    (underway : g.honest old → (log : Log) × (batches : List (List ℕ)) × IsOnDisk g old tail log batches)
    (first : Result T E) (wrote : WritesOpened g tail.at given left old new first) where
  no-log-since : g.honest old → Leaves g.moment g.images_since (λ c. BeginsAsLog c → ⊥) old new
  no-log-since honest =
      let was = underway honest in
      let behind = underway-tail_positive tail was.0 was.1 _ _ (image honest) was.2 in
      Leaves-weaken g.moment g.images_since _ _ old new (torn-no_log tail.at _ _ was.2.shut behind) wrote.moments

  adds-by : {F : Type 0} (answer : Result Tail F) → HasCause (g.faults old) (g.faults new) answer
      → (g.honest old → IfOk answer (λ t. (log : Log) (batches : List (List ℕ)) → IsOnDisk g old tail log batches
      → IsOnDisk g new t (with_units log given.units) (batches ++ given.units ∷ [])))
      → IfOk answer (λ t. t.at ≡ tail.at + 5 + 8 * length given.units) → IfOk answer (λ t. t.next ≡ tail.next + length given.units)
      → AddsCut g tail given left old new answer
  adds-by answer cause added place next = record {
    moments = no-log-since;
    added = added;
    place = place;
    next = next;
    batch = wrote.batch;
    count = wrote.count;
    later = wrote.later;
    honest = wrote.honest;
    attached = wrote.attached;
    cause = cause;
    length = wrote.length;
  }

  -- it failed
  pub adds-failed : Rose (g.faults old) (g.faults new) → {F : Type 0} (answer : Result Tail F) (fault : F) → answer ≡ Err fault
      → AddsCut g tail given left old new answer
  adds-failed rose answer fault is =
      adds-by answer (rw is (record { later = wrote.cause.later; fine = tt; failed = rose }))
      (λ honest. rw is tt) (rw is tt) (rw is tt)

  -- it succeeded
  pub adds-succeeded : IsCountedBatch given.units → tail.next + length given.units ≤ LAST
      → (g.honest old → g.reads new ≡ put tail.at (OPEN ∷ sealed given.units) (g.reads old)) → g.faults new ≡ g.faults old
      → {F : Type 0} (answer : Result Tail F) (end : Tail) → answer ≡ Ok end → end.at ≡ tail.at + (5 + 8 * length given.units)
      → end.next ≡ tail.next + length given.units → AddsCut g tail given left old new answer
  adds-succeeded counted fits written same answer end is at next =
      let place : end.at ≡ tail.at + 5 + 8 * length given.units = omega (arith, at) in
      adds-by answer (rw is (record { later = wrote.cause.later; fine = same; failed = tt }))
      (λ honest. rw is (λ log batches was.
      added tail log batches _ _ (image honest) was given.units counted fits end at next _ _ (written honest) wrote.images))
      (rw is place) (rw is next)
