-- What one call of a disk does. `old` and `new` are the disk before and after; the words before them are what the disk shows.
use Rattle.std.specs.Prelude.{◌≡◌, ◌↔◌, ℕ, List, length, Result, IfOk, OnOk}
use Rattle.log_disk.specs.Disk.{put, CountsOne, Elapses, IsOnlyImage, IsTorn, Keeps, MayBeTorn}
use Rattle.log_disk.specs.Faults.{HasCause, raised}

-- One call is counted, and a fault where it failed; time goes on, and the disk stays as honest as it was. `Attaches` is what the call
-- does to what is attached, and `Does` what it is for.
pub record MakesCall {D T E : Type 0} (Does Attaches : Type 0) (IsHonest : D → Type 0) (moment : D → ℕ) (Images : D → List ℕ → Type 0)
    (ImagesSince : D → ℕ → List ℕ → Type 0) (calls_of faults_of : D → ℕ) (old new : D) (result : Result T E) : Type 0 where
  pub does : Does
  pub attached : Attaches
  pub time : Elapses moment Images ImagesSince old new
  pub cause : HasCause (faults_of old) (faults_of new) result
  pub calls : IsHonest old → calls_of new ≡ raised (calls_of old)
  pub honest : IsHonest old ↔ IsHonest new

-- the length of the file, which stays as it is
pub record TellsLength {D E : Type 0} (IsHonest : D → Type 0) (reads_of : D → List ℕ) (Images : D → List ℕ → Type 0) (count_of : D → ℕ)
    (old new : D) (result : Result ℕ E) : Type 0 where
  pub len : IsHonest old → IfOk result (λ n. n ≡ length (reads_of old))
  pub keeps : Keeps IsHonest reads_of Images count_of old new

-- these bytes are written at that offset; a write that fails may have left any bytes in its range
pub record WritesAt {D T E : Type 0} (IsHonest : D → Type 0) (reads_of : D → List ℕ) (Images : D → List ℕ → Type 0) (count_of : D → ℕ)
    (old new : D) (result : Result T E) (at : ℕ) (bytes : List ℕ) : Type 0 where
  pub written : IsHonest old → OnOk result (reads_of new ≡ put at bytes (reads_of old))
  pub torn : IsHonest old → IsTorn at (length bytes) (reads_of old) (reads_of new)
  pub images : (c : List ℕ) → Images new c → MayBeTorn at (length bytes) (Images old) c
  pub count : IsHonest old → CountsOne (count_of old) (count_of new) result

-- after it a crash leaves what is read; a sync that fails adds no image
pub record Syncs {D T E : Type 0} (IsHonest : D → Type 0) (reads_of : D → List ℕ) (Images : D → List ℕ → Type 0) (count_of : D → ℕ)
    (old new : D) (result : Result T E) : Type 0 where
  pub settled : IsHonest old → OnOk result (IsOnlyImage (reads_of old) (Images new))
  pub reads : IsHonest old → reads_of new ≡ reads_of old
  pub images : (c : List ℕ) → Images new c → Images old c
  pub count : IsHonest old → CountsOne (count_of old) (count_of new) result
