-- What is known of a disk on which no log was found.
use Rattle.std.proofs.Common.{ℕ, List, slice_get, ap, subst}
use Rattle.log_disk.specs.Disk.{IsOnlyImage}
use Rattle.segment_file.specs.File.{BeginsOpen}
use Rattle.segment_file.specs.StandingLog.{IsStableGate}

-- on a settled disk the first gate is stable
pub IsOnlyImage-stable_gate : (file : List ℕ) (images : List ℕ → Type 0) → IsOnlyImage file images → (BeginsOpen file → ⊥) → IsStableGate 0 images
IsOnlyImage-stable_gate file images settled closed = record {
  gate = slice_get file 0;
  stable = λ c image. ap (λ bytes. slice_get bytes 0) (settled c image);
  closed = λ c image opened. closed (subst BeginsOpen (settled c image) opened);
}
