-- What the calls that open, make, settle and lengthen a log do. `g` is what a disk shows; `old` and `new` are the disk
-- before and after; `given` is the batch, and `left` is the batch afterwards.
use Rattle.std.specs.Prelude.{◌≡◌, ◌≤◌, ◌⊎◌, ◌↔◌, ℕ, ◌+◌, ◌*◌, List, [], ◌∷◌, length, Result, IfOk, OnOk, IsErrOf}
use Rattle.log_disk.specs.Costs.{Costs}
use Rattle.log_disk.specs.Disk.{put, IsOnlyImage, Keeps, Leaves}
use Rattle.log_disk.specs.Faults.{CountsWhere, HasCause}
use Rattle.log_disk.specs.Lengths.{GrowsAtMostTo}
use Rattle.log_disk.specs.declared.disk.LogDisk.{Ghosts}
use Rattle.segment_file.specs.Gates.{StaysClosed}
use Rattle.segment_file.specs.Log.{Log, HoldsLog, with_units}
use Rattle.segment_file.specs.MostReads.{most_reads}
use Rattle.segment_file.specs.PackedBatch.{BatchState}
use Rattle.segment_file.specs.StandingLog.{tail_at, AllStand, HoldsLogOrMore, HoldsNoneOr, IsShut, LacksGate, LogStands}
use Rattle.segment_file.specs.declared.layout.TheConstants.{CLOSED, HEAD}
use Rattle.segment_file.specs.declared.opening.OpenFault.{OpenFault}
use Rattle.segment_file.specs.declared.opening.OpenFault.TheVariants.{DiskFault}
use Rattle.segment_file.specs.declared.scan_result.Tail.{Tail}

-- all bytes of the disk are had, after a sync that makes them stable; `items` are the bytes that are answered
pub record OpensImage {D T : Type 0} (g : Ghosts D) (old new : D) (result : Result T OpenFault) (items : T → List ℕ) : Type 0 where
  pub bytes : g.honest old → IfOk result (λ bytes. items bytes ≡ g.reads old)
  pub settled : g.honest old → OnOk result (IsOnlyImage (g.reads new) (g.images new))
  pub reads : g.honest old → g.reads new ≡ g.reads old
  pub images : (c : List ℕ) → g.images new c → g.images old c
  pub moments : Leaves g.moment g.images_since (g.images old) old new
  pub count : g.honest old → Costs g 1 (most_reads (length (g.reads old)) + 2) old new
  pub honest : g.honest old ↔ g.honest new
  pub attached : g.attached new ≡ g.attached old
  pub faults : CountsWhere (IsErrOf result DiskFault) (g.faults old) (g.faults new)

-- after Ok the gate at this place is shut: a closed one is written where it is missing or a last byte 0x4F, and else nothing changes
pub record ClosesGate {D T E : Type 0} (g : Ghosts D) (at : ℕ) (old new : D) (result : Result T E) : Type 0 where
  pub moments : g.honest old → Leaves g.moment g.images_since (StaysClosed at (g.images old)) old new
  pub shut : g.honest old → OnOk result (IsShut at (g.images new))
  pub closed : g.honest old → LacksGate at (g.reads old) → OnOk result (g.reads new ≡ put at (CLOSED ∷ []) (g.reads old))
  pub keeps : g.honest old → (LacksGate at (g.reads old) → ⊥) → Keeps g.honest g.reads g.images g.written_count old new
  pub settled : g.honest old → IsOnlyImage (g.reads old) (g.images old) ⊎ LacksGate at (g.reads old)
      → OnOk result (IsOnlyImage (g.reads new) (g.images new))
  pub count : g.honest old → Costs g 2 3 old new
  pub later : g.moment old ≤ g.moment new
  pub honest : g.honest old ↔ g.honest new
  pub attached : g.attached new ≡ g.attached old
  pub cause : HasCause (g.faults old) (g.faults new) result
  pub length : g.honest old → GrowsAtMostTo g (at + 1) old new

-- so is the gate at a log's tail; at each moment a crash leaves the log, and at the return it stands as before
pub record SettlesTail {D E : Type 0} (g : Ghosts D) (at next : ℕ) (old new : D) (result : Result Tail E) : Type 0 where
  pub moments : g.honest old → (log : Log) → LogStands (tail_at at next) log (g.images old)
      → Leaves g.moment g.images_since (λ c. HoldsLog c log) old new
  pub stand : g.honest old → (log : Log) → LogStands (tail_at at next) log (g.images old) → LogStands (tail_at at next) log (g.images new)
  pub shut : g.honest old → OnOk result (IsShut at (g.images new))
  pub tail : IfOk result (λ t. t ≡ tail_at at next)
  pub closed : g.honest old → LacksGate at (g.reads old) → OnOk result (g.reads new ≡ put at (CLOSED ∷ []) (g.reads old))
  pub keeps : g.honest old → (LacksGate at (g.reads old) → ⊥) → Keeps g.honest g.reads g.images g.written_count old new
  pub settled : g.honest old → IsOnlyImage (g.reads old) (g.images old) ⊎ LacksGate at (g.reads old)
      → OnOk result (IsOnlyImage (g.reads new) (g.images new))
  pub count : g.honest old → Costs g 2 3 old new
  pub later : g.moment old ≤ g.moment new
  pub honest : g.honest old ↔ g.honest new
  pub attached : g.attached new ≡ g.attached old
  pub cause : HasCause (g.faults old) (g.faults new) result
  pub length : g.honest old → GrowsAtMostTo g (at + 1) old new

-- At each moment a crash leaves no log, or the log with the whole batch, and after Ok the latter.
-- `tail_of` is where it goes on, by the answer.
pub record Creates {D T E : Type 0} (g : Ghosts D) (tail_of : T → Tail) (most most_calls : ℕ) (given left : BatchState) (old new : D)
    (result : Result T E) : Type 0 where
  pub moments : g.honest old → Leaves g.moment g.images_since (HoldsNoneOr given.units) old new
  pub created : g.honest old → IfOk result (λ t. AllStand (tail_of t) given.units (g.images new))
  pub shut : g.honest old → IfOk result (λ t. IsShut (tail_of t).at (g.images new))
  pub settled : g.honest old → OnOk result (IsOnlyImage (g.reads new) (g.images new))
  pub place : IfOk result (λ t. (tail_of t).at ≡ HEAD + 1 + 8 * length given.units)
  pub next : IfOk result (λ t. (tail_of t).next ≡ length given.units)
  pub batch : left ≡ given
  pub count : g.honest old → Costs g most most_calls old new
  pub later : g.moment old ≤ g.moment new
  pub honest : g.honest old ↔ g.honest new
  pub attached : g.attached new ≡ g.attached old
  pub cause : HasCause (g.faults old) (g.faults new) result
  pub length : g.honest old → GrowsAtMostTo g (HEAD + 2 + 8 * length given.units) old new

-- At each moment a crash leaves the log before, or the log with the whole batch, and after Ok the latter.
-- `tail_of` is where it then goes on, by the answer.
pub record Appends {D T E : Type 0} (g : Ghosts D) (tail_of : T → Tail) (tail : Tail) (given left : BatchState) (old new : D)
    (result : Result T E) : Type 0 where
  pub moments : g.honest old → (log : Log) → LogStands tail log (g.images old)
      → Leaves g.moment g.images_since (HoldsLogOrMore log given.units) old new
  pub appended : g.honest old → IfOk result (λ t. (log : Log) → LogStands tail log (g.images old)
      → LogStands (tail_of t) (with_units log given.units) (g.images new))
  pub shut : g.honest old → IfOk result (λ t. IsShut (tail_of t).at (g.images new))
  pub settled : g.honest old → OnOk result (IsOnlyImage (g.reads new) (g.images new))
  pub place : IfOk result (λ t. (tail_of t).at ≡ tail.at + 5 + 8 * length given.units)
  pub next : IfOk result (λ t. (tail_of t).next ≡ tail.next + length given.units)
  pub batch : left ≡ given
  pub count : g.honest old → Costs g 4 4 old new
  pub later : g.moment old ≤ g.moment new
  pub honest : g.honest old ↔ g.honest new
  pub attached : g.attached new ≡ g.attached old
  pub cause : HasCause (g.faults old) (g.faults new) result
  pub length : g.honest old → GrowsAtMostTo g (tail.at + 6 + 8 * length given.units) old new
