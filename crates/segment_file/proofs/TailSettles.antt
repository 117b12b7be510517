-- A gate at a log's tail that was closed for good: the log stands as before.
use Rattle.std.proofs.Common.{◌≡◌, ◌⊎◌, ◌≤◌, refl, ℕ, List, [], ◌∷◌, Result, Ok, IsErrAnd}
use Rattle.std.proofs.lemmas.Result.{err_from_is_err_and}
use Rattle.log_disk.specs.Disk.{put, IsOnlyImage, Leaves}
use Rattle.log_disk.specs.Faults.{Rose}
use Rattle.log_disk.specs.declared.disk.LogDisk.{Ghosts}
use Rattle.log_disk.proofs.Moments.{Leaves-images_now, Leaves-weaken}
use Rattle.segment_file.specs.Calls.{HasStableGate}
use Rattle.segment_file.specs.Changes.{ClosesGate, SettlesTail}
use Rattle.segment_file.specs.Log.{Log, HoldsLog}
use Rattle.segment_file.specs.StandingLog.{tail_at, IsShut, LacksGate, LogStands}
use Rattle.segment_file.specs.declared.layout.TheConstants.{CLOSED}
use Rattle.segment_file.specs.declared.scan_result.Tail.{Tail}
use Rattle.segment_file.proofs.StableGates.{image-stays_closed, stays-stands}

module _ {D T E : Type 0} (g : Ghosts D) (at next : ℕ) (old new : D) (image : g.honest old → g.images old (g.reads old))
    (counts_now : (disk : D) (t : ℕ) (c : List ℕ) → t ≤ g.moment disk → g.images disk c → g.images_since disk t c)
    (only_now : (disk : D) (c : List ℕ) → g.images_since disk (g.moment disk) c → g.images disk c)
    (stable : HasStableGate g at old) (first : Result T E) (closes : ClosesGate g at old new first) where
  held-since : g.honest old → (log : Log) → LogStands (tail_at at next) log (g.images old)
      → Leaves g.moment g.images_since (λ c. HoldsLog c log) old new
  held-since honest log stand =
      Leaves-weaken g.moment g.images_since _ _ old new (λ c stays. (stays-stands (tail_at at next) log _ stand c stays).held)
      (closes.moments honest)

  stands-now : g.honest old → (log : Log) → LogStands (tail_at at next) log (g.images old) → LogStands (tail_at at next) log (g.images new)
  stands-now honest log stand c left =
      stays-stands (tail_at at next) log _ stand c
      (Leaves-images_now g.moment g.images_since g.images counts_now _ old new only_now (image-stays_closed at _ _ (image honest) (stable honest))
      (closes.moments honest) c left)

  -- the gate wasn't closed
  pub settles-failed : Rose (g.faults old) (g.faults new) → {F : Type 0} (Q : F → Type 0) (answer : Result Tail F) → IsErrAnd answer Q
      → SettlesTail g at next old new answer
  settles-failed rose Q answer is = rw (err_from_is_err_and answer is).1 (record {
    moments = held-since;
    stand = stands-now;
    shut = λ honest. tt;
    tail = tt;
    closed = λ honest lacks. tt;
    keeps = closes.keeps;
    settled = λ honest either. tt;
    count = closes.count;
    later = closes.later;
    honest = closes.honest;
    attached = closes.attached;
    cause = record { later = closes.cause.later; fine = tt; failed = rose };
    length = closes.length;
  })

  -- the gate was closed, or was for good
  pub settles-succeeded : (g.honest old → IsShut at (g.images new))
      → (g.honest old → LacksGate at (g.reads old) → g.reads new ≡ put at (CLOSED ∷ []) (g.reads old))
      → (g.honest old → IsOnlyImage (g.reads old) (g.images old) ⊎ LacksGate at (g.reads old) → IsOnlyImage (g.reads new) (g.images new))
      → g.faults new ≡ g.faults old → {F : Type 0} (answer : Result Tail F) → answer ≡ Ok (tail_at at next)
      → SettlesTail g at next old new answer
  settles-succeeded shut closed settled same answer is = rw is (record {
    moments = held-since;
    stand = stands-now;
    shut = shut;
    tail = refl;
    closed = closed;
    keeps = closes.keeps;
    settled = settled;
    count = closes.count;
    later = closes.later;
    honest = closes.honest;
    attached = closes.attached;
    cause = record { later = closes.cause.later; fine = same; failed = tt };
    length = closes.length;
  })
