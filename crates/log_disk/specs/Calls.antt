-- What calls do to a disk besides what each is for. `g` is what a disk shows; `old` and `new` are the disk before and after.
use Rattle.std.specs.Prelude.{◌≡◌, ◌≤◌, ◌↔◌, ℕ, List, Result, OnOk}
use Rattle.log_disk.specs.Costs.{Costs}
use Rattle.log_disk.specs.Disk.{IsOnlyImage, Leaves}
use Rattle.log_disk.specs.Faults.{HasCause}
use Rattle.log_disk.specs.declared.disk.LogDisk.{Ghosts}

-- at most so many writes and syncs that succeeded, and so many calls: the disk stays as honest as it was, and what was attached still is
pub record Uses {D T E : Type 0} (g : Ghosts D) (most most_calls : ℕ) (old new : D) (result : Result T E) : Type 0 where
  pub count : g.honest old → Costs g most most_calls old new
  pub later : g.moment old ≤ g.moment new
  pub honest : g.honest old ↔ g.honest new
  pub attached : g.attached new ≡ g.attached old
  pub cause : HasCause (g.faults old) (g.faults new) result

-- the file is read as before, and is what a crash leaves where the call succeeded; at a fault it may leave what it could before
pub record Settles {D T E : Type 0} (g : Ghosts D) (old new : D) (result : Result T E) : Type 0 where
  pub settled : g.honest old → OnOk result (IsOnlyImage (g.reads new) (g.images new))
  pub reads : g.honest old → g.reads new ≡ g.reads old
  pub images : (c : List ℕ) → g.images new c → g.images old c
  pub moments : Leaves g.moment g.images_since (g.images old) old new
