-- What `upgrade` leaves: a log of the second format with the list of another. Its Genesis records are gone into what stands before the list, and all
-- later records follow. `left` is what the source holds at first, where it tells that.
use Rattle.std.specs.Prelude.{◌≡◌, ◌⊎◌, ℕ, ◌+◌, ◌*◌, List, ◌++◌, length, Option}
use Rattle.std.specs.List.{AllByRecursion}
use Rattle.log_disk.specs.Costs.{Costs}
use Rattle.log_disk.specs.Lengths.{GrowsAtMostTo}
use Rattle.log_disk.specs.declared.disk.LogDisk.{Ghosts}
use Rattle.log_record.specs.declared.rec.Rec.{Rec}
use Rattle.log_record.specs.LogList.{end_of}
use Rattle.lock_core.specs.Tests.{IsGenesis}
use Rattle.log_recovery.specs.Opened.{OpenedList, log_of, with_front}
use Rattle.segment_file.specs.File.{BeginsAsLog}
use Rattle.segment_cut.specs.Underway.{HoldsBatches}
use Rattle.cli_cut.specs.Batches.{batches_of}
use Rattle.cli_cut.specs.Cutting.{IsCutOf, IsSource}

-- Behind the Genesis records of the list stand the records of the new one, and none of these is a Genesis. What stands before the new list is what the
-- list leaves up to the end of its Genesis records; where something stands before the list it has no Genesis, and that is what stands there.
pub record IsUpgradeOf (list made : OpenedList) : Type 0 where
  pub genesis : List Rec
  pub whole : list.records ≡ genesis ++ made.records
  pub all : AllByRecursion IsGenesis genesis
  pub none : AllByRecursion (λ rec. IsGenesis rec → ⊥) made.records
  pub opening : IsCutOf (with_front list genesis) made.opening

-- the list of a new log, by what the source is
pub record IsUpgradeOfSource (left : Option (List ℕ)) (made : OpenedList) : Type 0 where
  pub list : OpenedList
  pub source : IsSource left list
  pub upgrade : IsUpgradeOf list made

-- the bytes are the new log, in batches of as many whole records as fit
abbrev pub HoldsUpgrade : Option (List ℕ) → List ℕ → Type 0
HoldsUpgrade left bytes = (made : OpenedList) × IsUpgradeOfSource left made × HoldsBatches (log_of made) (batches_of made.records) bytes

-- each image is the new log
abbrev pub AllHoldUpgrade : Option (List ℕ) → (List ℕ → Type 0) → Type 0
AllHoldUpgrade left images = (made : OpenedList) × IsUpgradeOfSource left made × ((c : List ℕ) → images c → HoldsBatches (log_of made) (batches_of made.records) c)

-- what `upgrade` may leave at any moment: an image of before, no log, or the new log with all of its records
abbrev pub MayBeUpgraded : Option (List ℕ) → (List ℕ → Type 0) → List ℕ → Type 0
MayBeUpgraded left images c = images c ⊎ (BeginsAsLog c → ⊥) ⊎ HoldsUpgrade left c

-- at most 7 writes and syncs succeed and one for each batch, of at most 11 calls and one for each; before the log is begun one, of 4
abbrev pub CostsUpgrade : {D : Type 0} → Ghosts D → Option (List ℕ) → D → D → Type 0
CostsUpgrade g left old new = Costs g 1 4 old new
    ⊎ ((made : OpenedList) × IsUpgradeOfSource left made × Costs g (7 + length (batches_of made.records)) (11 + length (batches_of made.records)) old new)

-- The file reads as before, or is no longer than before or than the new log and the gate at its tail: its head has 12 bytes for each account, each unit
-- takes 8 bytes, and each batch 5 more.
abbrev pub GrowsByUpgrade : {D : Type 0} → Ghosts D → Option (List ℕ) → D → D → Type 0
GrowsByUpgrade g left old new = (g.reads new ≡ g.reads old)
    ⊎ ((made : OpenedList) × IsUpgradeOfSource left made
    × GrowsAtMostTo g (21 + 12 * length made.opening.accounts + 5 * length (batches_of made.records) + 8 * end_of made.records) old new)
