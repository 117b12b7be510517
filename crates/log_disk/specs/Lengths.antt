-- How long a disk's file gets. `g` is what a disk shows; `old` and `new` are the disk before and after.
use Rattle.std.specs.Prelude.{ℕ, ◌≤◌, max, length}
use Rattle.log_disk.specs.declared.disk.LogDisk.{Ghosts}

-- the file that is read is no longer than before, or ends at this place or before it
abbrev pub GrowsAtMostTo : {D : Type 0} → Ghosts D → ℕ → D → D → Type 0
GrowsAtMostTo g place old new = length (g.reads new) ≤ max (length (g.reads old)) place
