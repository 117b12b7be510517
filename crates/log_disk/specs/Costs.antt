-- What calls cost. `g` is what a disk shows; `old` and `new` are the disk before and after.
use Rattle.std.specs.Prelude.{ℕ, ◌+◌, ◌≤◌}
use Rattle.log_disk.specs.declared.disk.LogDisk.{Ghosts}

-- at most so many writes and syncs succeeded, and at most so many calls were made, those that failed too
pub record Costs {D : Type 0} (g : Ghosts D) (most most_calls : ℕ) (old new : D) : Type 0 where
  pub successes : g.written_count new ≤ g.written_count old + most
  pub calls : g.calls new ≤ g.calls old + most_calls
