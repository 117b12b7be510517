-- Transfers at places of the script, as a seat takes them, and room for their rows.
use Rattle.std.proofs.Common.{◌≡◌, ℕ, ◌+◌, ◌-◌, ◌<◌, ◌≤◌, List, [], ◌∷◌, ◌++◌, length, All, None, refl, ap, arith, length-append}
use Rattle.std.proofs.lemmas.List.Elements.{All-get_or}
use Rattle.std.specs.List.{AllByRecursion}
use Rattle.lock_core.specs.declared.job.Job.{Job}
use Rattle.lock_core.specs.Transfers.{IsAllowedJob}
use Rattle.log_rule.specs.declared.view.TakenJob.{TakenJob}
use Rattle.log_rule.specs.Accounts.{MayBeTaken}
use Rattle.txn_jobs.proofs.Rising.{Rises-length_le}
use Rattle.job_queue.specs.declared.queue.Queue.{Queue}
use Rattle.job_queue.specs.declared.rows.Rows.{Rows}
use Rattle.job_queue.specs.Passes.{KeepsRows, TakesPlace}
use Rattle.lsn_space.proofs.TilingLemmas.{all-append}
use Rattle.txn_runner.specs.Places.{NumberedJobs, number_at, taken_at, jobs_taken, Rises}
use Rattle.txn_runner.specs.Working.{jobs_of, rows_in, room_of, places_in, HasRoomForRows}

module _ (jobs : NumberedJobs) where
  -- the newest comes first
  pub jobs_taken-push : (places : List ℕ) (place : ℕ) → jobs_taken jobs (places ++ place ∷ []) ≡ taken_at jobs place ∷ jobs_taken jobs places
  jobs_taken-push [] place = refl
  jobs_taken-push (first ∷ places) place = ap (λ l. l ++ taken_at jobs first ∷ []) (jobs_taken-push places place)

  -- at places below another they have numbers below its
  pub jobs_taken-below : (places : List ℕ) (place : ℕ) → AllByRecursion (λ before. before < place) places
      → AllByRecursion (λ (taken : TakenJob). taken.number < number_at jobs place) (jobs_taken jobs places)
  jobs_taken-below [] place below = tt
  jobs_taken-below (first ∷ places) place below = all-append (λ (taken : TakenJob). taken.number < number_at jobs place)
      (jobs_taken jobs places)
      (taken_at jobs first ∷ []) (jobs_taken-below places place below.1) (omega (arith, below.0), tt)

-- the table allows a transfer of the queue
pub taken_at-allowed : (queue : Queue) (accounts place : ℕ) → All (IsAllowedJob accounts) queue.script → place < length queue.script
    → MayBeTaken accounts (taken_at (jobs_of queue) place)
taken_at-allowed queue accounts place all within = record {
  number = (omega (arith, queue.some), omega (arith, queue.numbered));
  job = All-get_or (IsAllowedJob accounts) queue.script place (record { legs = []; note = None }) within all;
}

module _ (jobs : NumberedJobs) where
  -- one more was taken, and its row put
  pub HasRoomForRows-push : (old new : Rows) (place : ℕ) → HasRoomForRows jobs old → places_in new ≡ places_in old ++ place ∷ []
      → length (rows_in new) ≤ length (rows_in old) + 1 → room_of new ≡ room_of old → HasRoomForRows jobs new
  HasRoomForRows-push old new place room places more same =
      omega (arith, room, ap length places, length-append (places_in old) (place ∷ []), more, same)

-- The rows' pass took a place, above the others, which rise.
module _ (queue : Queue) (number : ℕ) (job : Job) (old new : Rows) (takes : TakesPlace queue number job old new) (rises : Rises (places_in old)) where
  places-few : length (places_in old) ≤ takes.place
  places-few = Rises-length_le (places_in old) takes.place rises takes.above

  -- there is room for the row of its transfer
  pub HasRoomForRows-room_left : HasRoomForRows (jobs_of queue) old → KeepsRows old new → length (rows_in new) < room_of new
  HasRoomForRows-room_left room kept = omega (arith, room, places-few, takes.within, ap length kept.rows, kept.room)

  -- fewer are left
  pub places_in-fewer_left : (later : Rows) → places_in later ≡ places_in old ++ takes.place ∷ []
      → length queue.script - length (places_in later) < length queue.script - length (places_in old)
  places_in-fewer_left later places =
      omega (arith, places-few, takes.within, ap length places, length-append (places_in old) (takes.place ∷ []))
