-- What a crash may leave of a file of records before, during and after a call. `g` is what a disk shows; `old` and `new` are the disk before and after.
use Rattle.std.specs.Prelude.{◌≡◌, ◌⊎◌, ◌↔◌, ℕ, ◌+◌, List, [], ◌∷◌, ◌++◌, length, Result, IfOk, OnOk}
use Rattle.log_disk.specs.Disk.{IsOnlyImage, Leaves}
use Rattle.log_disk.specs.declared.disk.LogDisk.{Ghosts}
use Rattle.segment_file.specs.StandingLog.{IsShut}
use Rattle.own_records.specs.Records.{Holds, IsFresh, StandsAt}
use Rattle.own_records.specs.declared.appending.End.{End}

-- each image holds these records
abbrev pub AllHold : List (List ℕ) → (List ℕ → Type 0) → Type 0
AllHold texts images = (c : List ℕ) → images c → Holds texts c

-- each image holds these records, and the next one goes to this place
abbrev pub AllStand : ℕ → List (List ℕ) → (List ℕ → Type 0) → Type 0
AllStand at texts images = (c : List ℕ) → images c → StandsAt at texts c

-- the records before, or those and this one, whole
abbrev pub HoldsWithOrWithout : List (List ℕ) → List ℕ → List ℕ → Type 0
HoldsWithOrWithout texts text c = Holds texts c ⊎ Holds (texts ++ text ∷ []) c

-- the records that one of these images holds, whichever they are
abbrev pub HoldsAsOne : (List ℕ → Type 0) → List ℕ → Type 0
HoldsAsOne images c = (image : List ℕ) × images image × ((texts : List (List ℕ)) → Holds texts image → Holds texts c)

-- each image now holds the records that one of those before held, and the next one goes to this place
abbrev pub OneStands : ℕ → (List ℕ → Type 0) → (List ℕ → Type 0) → Type 0
OneStands at before now = (texts : List (List ℕ)) × (image : List ℕ) × before image × Holds texts image × AllStand at texts now

-- At each moment of the call each image holds the records that one held before; after Ok all hold the same, and the next one goes to the place that
-- is answered. So where all held the same before they still do (`stands`); after a write that failed they may have held two lists (`one`).
pub record Opens {D E : Type 0} (g : Ghosts D) (old new : D) (result : Result End E) : Type 0 where
  pub moments : g.honest old → Leaves g.moment g.images_since (HoldsAsOne (g.images old)) old new
  pub stands : g.honest old → (texts : List (List ℕ)) → AllHold texts (g.images old) → IfOk result (λ end. AllStand end.at texts (g.images new))
  pub one : g.honest old → IfOk result (λ end. OneStands end.at (g.images old) (g.images new))
  pub shut : g.honest old → IfOk result (λ end. IsShut end.at (g.images new))
  pub honest : g.honest old ↔ g.honest new
  pub attached : g.attached new ≡ g.attached old

-- At each moment of the call each image holds the records before, or those and this one, whole; so it is behind the call (`left`), and after Ok each
-- holds it.
pub record Appends {D E : Type 0} (g : Ghosts D) (at : ℕ) (text : List ℕ) (old new : D) (result : Result End E) : Type 0 where
  pub moments : g.honest old → (texts : List (List ℕ)) → AllStand at texts (g.images old)
      → Leaves g.moment g.images_since (HoldsWithOrWithout texts text) old new
  pub left : g.honest old → (texts : List (List ℕ)) → AllStand at texts (g.images old) → (c : List ℕ) → g.images new c → HoldsWithOrWithout texts text c
  pub stands : g.honest old → (texts : List (List ℕ)) → AllStand at texts (g.images old)
      → IfOk result (λ end. AllStand end.at (texts ++ text ∷ []) (g.images new))
  pub shut : g.honest old → IfOk result (λ end. IsShut end.at (g.images new))
  pub place : IfOk result (λ end. end.at ≡ at + (5 + length text))
  pub honest : g.honest old ↔ g.honest new
  pub attached : g.attached new ≡ g.attached old

-- nothing was written: the file is read as before, and a crash leaves nothing else
pub record IsUnwritten {D : Type 0} (g : Ghosts D) (old new : D) : Type 0 where
  pub reads : g.reads new ≡ g.reads old
  pub images : (c : List ℕ) → g.images new c → g.images old c

-- each image is a file without records
abbrev pub AllFresh : {D : Type 0} → Ghosts D → D → Type 0
AllFresh g disk = g.honest disk → (c : List ℕ) → g.images disk c → IsFresh c

-- the only image is a file without records, of this length
pub record IsOnlyFresh (len : ℕ) (file : List ℕ) (images : List ℕ → Type 0) : Type 0 where
  pub only : IsOnlyImage file images
  pub fresh : IsFresh file
  pub long : len ≡ length file

abbrev pub IsSettledFresh : {D : Type 0} → Ghosts D → ℕ → D → Type 0
IsSettledFresh g len disk = g.honest disk → IsOnlyFresh len (g.reads disk) (g.images disk)

-- each image stays a file without records, and after Ok its first gate is shut
pub record StaysFresh {D T E : Type 0} (g : Ghosts D) (old new : D) (result : Result T E) : Type 0 where
  pub moments : g.honest old → Leaves g.moment g.images_since IsFresh old new
  pub images : g.honest old → (c : List ℕ) → g.images new c → IsFresh c
  pub shut : g.honest old → OnOk result (IsShut 0 (g.images new))
  pub honest : g.honest old ↔ g.honest new
  pub attached : g.attached new ≡ g.attached old

-- each image holds the same records, which end at this place
abbrev pub HasEnd : {D : Type 0} → Ghosts D → ℕ → D → Type 0
HasEnd g at disk = g.honest disk → (texts : List (List ℕ)) × AllStand at texts (g.images disk)
