-- What the calls of this crate do that only look at a disk, or write bytes at a place. `g` is what a disk shows;
-- `old` and `new` are the disk before and after.
use Rattle.std.specs.Prelude.{◌≡◌, ◌≤◌, ◌↔◌, ℕ, ◌+◌, ◌*◌, List, [], ◌∷◌, length, Bool, IsTrue, Result, IfOk, OnOk}
use Rattle.log_disk.specs.Costs.{Costs}
use Rattle.log_disk.specs.Disk.{put, Elapses, IsOnlyImage, IsTorn, Keeps, Leaves, MayBeTorn}
use Rattle.log_disk.specs.Faults.{HasCause}
use Rattle.log_disk.specs.Lengths.{GrowsAtMostTo}
use Rattle.log_disk.specs.declared.disk.LogDisk.{Ghosts}
use Rattle.segment_file.specs.File.{AreUnits}
use Rattle.segment_file.specs.Gates.{Midway, sealed}
use Rattle.segment_file.specs.PackedBatch.{BatchState}
use Rattle.segment_file.specs.StandingLog.{IsShut, IsStableGate}
use Rattle.segment_file.specs.declared.layout.TheConstants.{OPEN}

-- the place isn't past the end of the file
abbrev pub LiesWithin : {D : Type 0} → Ghosts D → ℕ → D → Type 0
LiesWithin g at disk = g.honest disk → at ≤ length (g.reads disk)

-- the gate at this place isn't open, and its byte is the same in each image, or missing in each
abbrev pub HasStableGate : {D : Type 0} → Ghosts D → ℕ → D → Type 0
HasStableGate g at disk = g.honest disk → IsStableGate at (g.images disk)

-- a stable byte at this place opens no gate
abbrev pub HasShutGate : {D : Type 0} → Ghosts D → ℕ → D → Type 0
HasShutGate g at disk = g.honest disk → IsShut at (g.images disk)

-- it tells whether P holds, and changes nothing
pub record LooksFor {D E : Type 0} (g : Ghosts D) (P : Type 0) (most_calls : ℕ) (old new : D) (result : Result Bool E) : Type 0 where
  pub found : g.honest old → IfOk result (λ yes. IsTrue yes ↔ P)
  pub keeps : Keeps g.honest g.reads g.images g.written_count old new
  pub time : Elapses g.moment g.images g.images_since old new
  pub calls : g.honest old → g.calls new ≤ g.calls old + most_calls
  pub honest : g.honest old ↔ g.honest new
  pub attached : g.attached new ≡ g.attached old
  pub cause : HasCause (g.faults old) (g.faults new) result

-- the bytes are written at this place, and are stable after Ok
pub record WritesSynced {D T E : Type 0} (g : Ghosts D) (at : ℕ) (bytes : List ℕ) (old new : D) (result : Result T E) : Type 0 where
  pub written : g.honest old → OnOk result (g.reads new ≡ put at bytes (g.reads old))
  pub settled : g.honest old → OnOk result (IsOnlyImage (g.reads new) (g.images new))
  pub torn : g.honest old → IsTorn at (length bytes) (g.reads old) (g.reads new)
  pub moments : Leaves g.moment g.images_since (MayBeTorn at (length bytes) (g.images old)) old new
  pub honest : g.honest old ↔ g.honest new
  pub attached : g.attached new ≡ g.attached old
  pub count : g.honest old → Costs g 2 2 old new
  pub cause : HasCause (g.faults old) (g.faults new) result

-- the bytes are written at this place, and nothing is synced
pub record WritesUnsynced {D T E : Type 0} (g : Ghosts D) (at : ℕ) (bytes : List ℕ) (old new : D) (result : Result T E) : Type 0 where
  pub written : g.honest old → OnOk result (g.reads new ≡ put at bytes (g.reads old))
  pub torn : g.honest old → IsTorn at (length bytes) (g.reads old) (g.reads new)
  pub images : (c : List ℕ) → g.images new c → MayBeTorn at (length bytes) (g.images old) c
  pub moments : Leaves g.moment g.images_since (MayBeTorn at (length bytes) (g.images old)) old new
  pub honest : g.honest old ↔ g.honest new
  pub attached : g.attached new ≡ g.attached old
  pub count : g.honest old → Costs g 1 1 old new
  pub later : g.moment old ≤ g.moment new
  pub cause : HasCause (g.faults old) (g.faults new) result

-- the body is written behind the gate at this place, and is stable before the gate is opened
pub record WritesGated {D T E : Type 0} (g : Ghosts D) (at : ℕ) (body : List ℕ) (old new : D) (result : Result T E) : Type 0 where
  pub written : g.honest old → OnOk result (g.reads new ≡ put at (OPEN ∷ []) (put (at + 1) body (g.reads old)))
  pub settled : g.honest old → OnOk result (IsOnlyImage (g.reads new) (g.images new))
  pub moments : g.honest old → Leaves g.moment g.images_since (Midway at body (g.reads old) (g.images old)) old new
  pub later : g.moment old ≤ g.moment new
  pub honest : g.honest old ↔ g.honest new
  pub attached : g.attached new ≡ g.attached old
  pub count : g.honest old → Costs g 4 4 old new
  pub cause : HasCause (g.faults old) (g.faults new) result
  pub length : g.honest old → GrowsAtMostTo g (at + 1 + length body) old new

-- the batch and the next gate, closed, are written behind an open gate at this place, and nothing is synced;
-- `left` is the batch afterwards
pub record WritesOpened {D T E : Type 0} (g : Ghosts D) (at : ℕ) (given left : BatchState) (old new : D)
    (result : Result T E) : Type 0 where
  pub written : g.honest old → OnOk result (g.reads new ≡ put at (OPEN ∷ sealed given.units) (g.reads old))
  pub images : (c : List ℕ) → g.images new c → MayBeTorn at (6 + 8 * length given.units) (g.images old) c
  pub moments : Leaves g.moment g.images_since (MayBeTorn at (6 + 8 * length given.units) (g.images old)) old new
  pub units : AreUnits given.units
  pub batch : left ≡ given
  pub count : g.honest old → Costs g 1 1 old new
  pub later : g.moment old ≤ g.moment new
  pub honest : g.honest old ↔ g.honest new
  pub attached : g.attached new ≡ g.attached old
  pub cause : HasCause (g.faults old) (g.faults new) result
  pub length : g.honest old → GrowsAtMostTo g (at + 6 + 8 * length given.units) old new
