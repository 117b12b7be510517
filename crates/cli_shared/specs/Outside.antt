-- What a command works on that goes on behind the end of a log, and what it leaves where it comes no further than to open the log, or to
-- settle where it goes on. `g` is what a disk shows; `old` and `new` are before and after.
use Rattle.std.specs.Prelude.{◌≡◌, ◌⊎◌, ◌+◌, ℕ, List, Option}
use Rattle.std.specs.Io.KnownBytes.{Keeps}
use Rattle.log_disk.specs.Costs.{Costs}
use Rattle.log_disk.specs.Disk.{Leaves}
use Rattle.log_disk.specs.Lengths.{GrowsAtMostTo}
use Rattle.log_disk.specs.declared.disk.LogDisk.{Ghosts}
use Rattle.segment_file.specs.Log.{Log}
use Rattle.segment_file.specs.StandingLog.{LogStandsAt}
use Rattle.segment_file.specs.declared.scan_result.Tail.{Tail}
use Rattle.log_recovery.specs.Opened.{OpenedList}
use Rattle.log_recovery.specs.Recovery.{HoldsLawful}
use Rattle.cli_shared.specs.Opening.{OnlyLooks, most_calls}

-- what is outside: the disk, what the input has left, and what is known of the output
pub record Outside (D : Type 0) : Type 0 where
  pub disk : D
  pub left : Option (List ℕ)
  pub text : Option (List ℕ)

abbrev pub outside : {D : Type 0} → D → Option (List ℕ) → Option (List ℕ) → Outside D
outside disk left text = record { disk = disk; left = left; text = text }

-- the disk was only looked at, and nothing was written
pub record OnlyReads {D : Type 0} (g : Ghosts D) (old new : Outside D) : Type 0 where
  pub silent : Keeps old.text new.text
  pub disk : OnlyLooks g old.disk new.disk

-- the bytes hold the list that a read gave
abbrev pub HoldsAsRead : {D : Type 0} → Ghosts D → D → List ℕ → Type 0
HoldsAsRead g disk bytes = (opened : OpenedList) × HoldsLawful (g.reads disk) opened × HoldsLawful bytes opened

-- the file reads as before, or is no longer than before or than up to the gate at the tail of the log that a read gave
abbrev pub GrowsByGate : {D : Type 0} → Ghosts D → D → D → Type 0
GrowsByGate g old new = (g.reads new ≡ g.reads old)
    ⊎ ((tail : Tail) × (log : Log) × LogStandsAt tail log (g.reads old) × GrowsAtMostTo g (tail.at + 1) old new)

-- nothing came behind the list: nothing was printed, and each image of a moment is one of before or holds the list that a read gave
pub record OnlySettles {D : Type 0} (g : Ghosts D) (old new : Outside D) : Type 0 where
  pub silent : Keeps old.text new.text
  pub images : Leaves g.moment g.images_since (λ bytes. g.images old.disk bytes ⊎ HoldsAsRead g old.disk bytes) old.disk new.disk
  pub count : Costs g 3 (most_calls g old.disk + 3) old.disk new.disk
  pub grows : GrowsByGate g old.disk new.disk
