-- A gate that is closed for good, and what a call does that closes one first.
use Rattle.std.proofs.Common.{◌≡◌, ◌∙◌, ◌↔◌, ap, refl, ◌+◌, ◌*◌, Result, Ok, IsErrAnd, length, arith}
use Rattle.std.proofs.lemmas.Result.{err_from_is_err_and}
use Rattle.log_disk.specs.Disk.{IsOnlyImage, Leaves}
use Rattle.log_disk.specs.Faults.{raised, Rose}
use Rattle.log_disk.specs.declared.disk.LogDisk.{Ghosts}
use Rattle.log_disk.proofs.Counting.{Costs-weaken, Costs-trans}
use Rattle.log_disk.specs.Lengths.{GrowsAtMostTo}
use Rattle.log_disk.proofs.Moments.{Leaves-trans, Leaves-weaken}
use Rattle.segment_file.specs.Changes.{ClosesGate, Creates}
use Rattle.segment_file.specs.PackedBatch.{BatchState}
use Rattle.segment_file.specs.StandingLog.{AllStand, HoldsNoneOr, IsShut}
use Rattle.segment_file.specs.Lengths.{new_tail}
use Rattle.segment_file.specs.declared.layout.TheConstants.{HEAD}
use Rattle.segment_file.specs.declared.scan_result.Tail.{Tail}
use Rattle.segment_file.proofs.StableGates.{stays-none_or}

module _ {D T E : Type 0} (g : Ghosts D) (given : BatchState) (old mid : D) (first : Result T E) (closes : ClosesGate g 0 old mid first) where
  -- while the first gate is closed no log is there
  closed-none : g.honest old → Leaves g.moment g.images_since (HoldsNoneOr given.units) old mid
  closed-none honest = Leaves-weaken g.moment g.images_since _ _ old mid (stays-none_or given.units _) (closes.moments honest)

  -- no log was made, as the gate wasn't closed
  pub creates-close_failed : Rose (g.faults old) (g.faults mid) → {E : Type 0} (Q : E → Type 0) (answer : Result Tail E) → IsErrAnd answer Q
      → Creates g (λ t. t) 6 7 given given old mid answer
  creates-close_failed rose Q answer is = rw (err_from_is_err_and answer is).1 (record {
    moments = closed-none;
    created = λ honest. tt;
    shut = λ honest. tt;
    settled = λ honest. tt;
    place = tt;
    next = tt;
    batch = refl;
    count = λ honest. Costs-weaken g 2 6 3 7 old mid (omega arith) (omega arith) (closes.count honest);
    later = closes.later;
    honest = closes.honest;
    attached = closes.attached;
    cause = record { later = closes.cause.later; fine = tt; failed = rose };
    length = λ honest. omega (arith, closes.length honest);
  })

  -- the gate was closed, and the batch was written behind it
  module _ {S F : Type 0} (fine : g.faults mid ≡ g.faults old) (left : BatchState) (new : D) (second : Result S F)
      (creates : Creates g (λ _. new_tail given.units) 4 4 given left mid new second) where
    both-moments : g.honest old → Leaves g.moment g.images_since (HoldsNoneOr given.units) old new
    both-moments honest = Leaves-trans g.moment g.images_since _ old mid new (closed-none honest) (creates.moments (closes.honest.0 honest))

    both-honest : g.honest old ↔ g.honest new
    both-honest = (λ honest. creates.honest.0 (closes.honest.0 honest), λ honest. closes.honest.1 (creates.honest.1 honest))

    both-length : g.honest old → GrowsAtMostTo g (HEAD + 2 + 8 * length given.units) old new
    both-length honest = omega (arith, closes.length honest, creates.length (closes.honest.0 honest))

    -- and failed
    pub creates-write_failed : Rose (g.faults mid) (g.faults new) → {E : Type 0} (Q : E → Type 0) (answer : Result Tail E) → IsErrAnd answer Q
        → Creates g (λ t. t) 6 7 given left old new answer
    creates-write_failed rose Q answer is = rw (err_from_is_err_and answer is).1 (record {
      moments = both-moments;
      created = λ honest. tt;
      shut = λ honest. tt;
      settled = λ honest. tt;
      place = tt;
      next = tt;
      batch = creates.batch;
      count = λ honest. Costs-trans g 2 4 3 4 old mid new (closes.count honest) (creates.count (closes.honest.0 honest));
      later = omega (arith, closes.later, creates.later);
      honest = both-honest;
      attached = creates.attached ∙ closes.attached;
      cause = record { later = omega (arith, closes.cause.later, creates.cause.later); fine = tt; failed = rose ∙ ap raised fine };
      length = both-length;
    })

    -- and is there
    pub creates-succeeded : (g.honest mid → AllStand (new_tail given.units) given.units (g.images new))
        → (g.honest mid → IsShut (new_tail given.units).at (g.images new)) → (g.honest mid → IsOnlyImage (g.reads new) (g.images new))
        → g.faults new ≡ g.faults mid → {E : Type 0} (answer : Result Tail E) → answer ≡ Ok (new_tail given.units)
        → Creates g (λ t. t) 6 7 given left old new answer
    creates-succeeded created shut settled same answer is = rw is (record {
      moments = both-moments;
      created = λ honest. created (closes.honest.0 honest);
      shut = λ honest. shut (closes.honest.0 honest);
      settled = λ honest. settled (closes.honest.0 honest);
      place = refl;
      next = refl;
      batch = creates.batch;
      count = λ honest. Costs-trans g 2 4 3 4 old mid new (closes.count honest) (creates.count (closes.honest.0 honest));
      later = omega (arith, closes.later, creates.later);
      honest = both-honest;
      attached = creates.attached ∙ closes.attached;
      cause = record { later = omega (arith, closes.cause.later, creates.cause.later); fine = same ∙ fine; failed = tt };
      length = both-length;
    })
