-- What the calls of this crate do. `g` is what a disk shows; `old` and `new` are the disk before and after.
use Rattle.std.specs.Prelude.{◌≡◌, ◌≤◌, ◌↔◌, ℕ, ◌+◌, ◌*◌, List, [], ◌∷◌, ◌++◌, length, Result, IfOk, OnOk}
use Rattle.log_disk.specs.Costs.{Costs}
use Rattle.log_disk.specs.Disk.{IsOnlyImage, Leaves}
use Rattle.log_disk.specs.Faults.{HasCause}
use Rattle.log_disk.specs.Lengths.{GrowsAtMostTo}
use Rattle.log_disk.specs.declared.disk.LogDisk.{Ghosts}
use Rattle.lsn_space.specs.Opening.{IsSnapshot, Opening}
use Rattle.segment_file.specs.File.{BeginsAsLog}
use Rattle.segment_file.specs.Log.{Log, cut_log, with_units}
use Rattle.segment_file.specs.PackedBatch.{BatchState}
use Rattle.segment_file.specs.StandingLog.{HoldsNoneOrLog, IsShut, LogStands}
use Rattle.segment_file.specs.declared.scan_result.Tail.{Tail}
use Rattle.segment_cut.specs.Underway.{BatchesStandAt, HoldsNoneOrBatches, IsUnderway}

-- the log in these batches is being written on the disk, up to this tail
abbrev pub IsOnDisk : {D : Type 0} → Ghosts D → D → Tail → Log → List (List ℕ) → Type 0
IsOnDisk g disk tail log batches = IsUnderway tail log batches (g.reads disk) (g.images disk)

-- a log of this head alone is made: at each moment a crash leaves no log or that one, and after Ok the latter;
-- `left` is the head afterwards
pub record CreatesCut {D E : Type 0} (g : Ghosts D) (most most_calls : ℕ) (given left : Opening) (old new : D)
    (result : Result Tail E) : Type 0 where
  pub moments : g.honest old → Leaves g.moment g.images_since (HoldsNoneOrLog (cut_log given)) old new
  pub created : g.honest old → IfOk result (λ t. LogStands t (cut_log given) (g.images new))
  pub shut : g.honest old → IfOk result (λ t. IsShut t.at (g.images new))
  pub settled : g.honest old → OnOk result (IsOnlyImage (g.reads new) (g.images new))
  pub place : IfOk result (λ t. t.at ≡ 20 + 12 * length given.accounts)
  pub next : IfOk result (λ t. t.next ≡ given.lsn)
  pub head : left ≡ given
  pub count : g.honest old → Costs g most most_calls old new
  pub later : g.moment old ≤ g.moment new
  pub honest : g.honest old ↔ g.honest new
  pub attached : g.attached new ≡ g.attached old
  pub cause : HasCause (g.faults old) (g.faults new) result
  pub length : g.honest old → GrowsAtMostTo g (21 + 12 * length given.accounts) old new

-- a log of this head is begun: a crash leaves no log until its first gate is opened
pub record BeginsCut {D E : Type 0} (g : Ghosts D) (head : Opening) (old new : D) (result : Result Tail E) : Type 0 where
  pub moments : g.honest old → Leaves g.moment g.images_since (λ c. BeginsAsLog c → ⊥) old new
  pub begun : g.honest old → IfOk result (λ t. IsUnderway t (cut_log head) [] (g.reads new) (g.images new))
  pub place : IfOk result (λ t. t.at ≡ 20 + 12 * length head.accounts)
  pub next : IfOk result (λ t. t.next ≡ head.lsn)
  pub held : IfOk result (λ _. IsSnapshot head)
  pub count : g.honest old → Costs g 3 4 old new
  pub later : g.moment old ≤ g.moment new
  pub honest : g.honest old ↔ g.honest new
  pub attached : g.attached new ≡ g.attached old
  pub cause : HasCause (g.faults old) (g.faults new) result
  pub length : g.honest old → GrowsAtMostTo g (21 + 12 * length head.accounts) old new

-- the batch is added to a log that is being written
pub record AddsCut {D E : Type 0} (g : Ghosts D) (tail : Tail) (given left : BatchState) (old new : D)
    (result : Result Tail E) : Type 0 where
  pub moments : g.honest old → Leaves g.moment g.images_since (λ c. BeginsAsLog c → ⊥) old new
  pub added : g.honest old → IfOk result (λ t. (log : Log) (batches : List (List ℕ))
      → IsUnderway tail log batches (g.reads old) (g.images old)
      → IsUnderway t (with_units log given.units) (batches ++ given.units ∷ []) (g.reads new) (g.images new))
  pub place : IfOk result (λ t. t.at ≡ tail.at + 5 + 8 * length given.units)
  pub next : IfOk result (λ t. t.next ≡ tail.next + length given.units)
  pub batch : left ≡ given
  pub count : g.honest old → Costs g 1 1 old new
  pub later : g.moment old ≤ g.moment new
  pub honest : g.honest old ↔ g.honest new
  pub attached : g.attached new ≡ g.attached old
  pub cause : HasCause (g.faults old) (g.faults new) result
  pub length : g.honest old → GrowsAtMostTo g (tail.at + 6 + 8 * length given.units) old new

-- what was written is made stable, and then the first gate is opened: at each moment a crash leaves no log or all of it,
-- and after Ok the latter
pub record OpensCut {D T E : Type 0} (g : Ghosts D) (old new : D) (result : Result T E) : Type 0 where
  pub moments : g.honest old → (tail : Tail) (log : Log) (batches : List (List ℕ))
      → IsUnderway tail log batches (g.reads old) (g.images old)
      → Leaves g.moment g.images_since (HoldsNoneOrBatches log batches) old new
  pub opened : g.honest old → OnOk result ((tail : Tail) (log : Log) (batches : List (List ℕ))
      → IsUnderway tail log batches (g.reads old) (g.images old) → (c : List ℕ) → g.images new c → BatchesStandAt tail log batches c)
  pub shut : g.honest old → OnOk result ((tail : Tail) (log : Log) (batches : List (List ℕ))
      → IsUnderway tail log batches (g.reads old) (g.images old) → IsShut tail.at (g.images new))
  pub settled : g.honest old → OnOk result (IsOnlyImage (g.reads new) (g.images new))
  pub count : g.honest old → Costs g 3 3 old new
  pub later : g.moment old ≤ g.moment new
  pub honest : g.honest old ↔ g.honest new
  pub attached : g.attached new ≡ g.attached old
  pub cause : HasCause (g.faults old) (g.faults new) result
  pub length : g.honest old → GrowsAtMostTo g 1 old new
