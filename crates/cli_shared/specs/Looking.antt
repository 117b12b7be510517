-- What a call does to a disk that only opens a file and looks at it. `g` is what a disk shows; `old` and `new` are the disk before and
-- after.
use Rattle.std.specs.Prelude.{◌≡◌, ◌↔◌, ℕ, List}
use Rattle.log_disk.specs.Costs.{Costs}
use Rattle.log_disk.specs.Disk.{Leaves}
use Rattle.log_disk.specs.declared.disk.LogDisk.{Ghosts}

-- It was attached, synced and read, by at most so many calls: the file reads as before, and no image is new, then and at each moment.
pub record Looks {D : Type 0} (g : Ghosts D) (most : ℕ) (old new : D) : Type 0 where
  pub reads : g.honest old → g.reads new ≡ g.reads old
  pub images : (c : List ℕ) → g.images new c → g.images old c
  pub moments : Leaves g.moment g.images_since (g.images old) old new
  pub count : g.honest old → Costs g 1 most old new
  pub honest : g.honest old ↔ g.honest new
