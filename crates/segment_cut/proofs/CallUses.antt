-- What a call uses of a disk, where an inner call failed or was the last one.
use Rattle.std.proofs.Common.{◌≡◌, ◌≤◌, ℕ, Result, Ok, Err}
use Rattle.log_disk.specs.Calls.{Uses}
use Rattle.log_disk.specs.Faults.{Rose}
use Rattle.log_disk.specs.declared.disk.LogDisk.{Ghosts}
use Rattle.log_disk.proofs.Counting.{Costs-weaken}
use Rattle.segment_file.specs.Changes.{ClosesGate}

-- an inner call failed, and nothing was done after it
pub uses-failed : {D T E U F : Type 0} (g : Ghosts D) (most more most_calls more_calls : ℕ) (old new : D) (first : Result T E)
    → most ≤ more → most_calls ≤ more_calls → Uses g most most_calls old new first → Rose (g.faults old) (g.faults new)
    → (answer : Result U F) (fault : F) → answer ≡ Err fault → Uses g more more_calls old new answer
uses-failed g most more most_calls more_calls old new first few few_calls uses rose answer fault is = rw is (record {
  count = λ honest. Costs-weaken g most more most_calls more_calls old new few few_calls (uses.count honest);
  later = uses.later;
  honest = uses.honest;
  attached = uses.attached;
  cause = record { later = uses.cause.later; fine = tt; failed = rose };
})

pub closes-uses : {D T E : Type 0} (g : Ghosts D) (at : ℕ) (old new : D) (result : Result T E) → ClosesGate g at old new result
    → Uses g 2 3 old new result
closes-uses g at old new result closes = record {
  count = closes.count;
  later = closes.later;
  honest = closes.honest;
  attached = closes.attached;
  cause = closes.cause;
}

-- the last inner call succeeded
pub uses-done : {D T E U F : Type 0} (g : Ghosts D) (most most_calls : ℕ) (old new : D) (last : Result T E)
    → Uses g most most_calls old new last → g.faults new ≡ g.faults old → (answer : Result U F) (value : U) → answer ≡ Ok value → Uses g most most_calls old new answer
uses-done g most most_calls old new last uses fine answer value is = rw is (record {
  count = uses.count;
  later = uses.later;
  honest = uses.honest;
  attached = uses.attached;
  cause = record { later = uses.cause.later; fine = fine; failed = tt };
})
