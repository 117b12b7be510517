-- What is said of a write to a disk that tells nothing of its bytes.
use Rattle.std.specs.Prelude.{⊤}
use Rattle.std.proofs.Common.{ℕ, List, [], Result, length}
use Rattle.log_disk.specs.OneCall.{WritesAt}
use Rattle.log_disk.proofs.Torn.{IsTorn-refl}

pub writes-untold : {D T E : Type 0} (old new : D) (result : Result T E) (at : ℕ) (bytes : List ℕ)
    → WritesAt (λ (disk : D). ⊥) (λ (disk : D). []) (λ (disk : D) (image : List ℕ). ⊤) (λ (disk : D). 0) old new result at bytes
writes-untold old new result at bytes = record {
  written = λ honest. absurd honest;
  torn = λ honest. absurd honest;
  images = λ image any. (image, any, IsTorn-refl at (length bytes) image);
  count = λ honest. absurd honest;
}
