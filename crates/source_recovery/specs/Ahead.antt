-- What the bytes of a window tell of what stands there, whatever follows them.
use Rattle.std.specs.Prelude.{◌≡◌, ◌≤◌, ℕ, List, ◌∷◌, ◌++◌, length, drop}
use Rattle.segment_file.specs.declared.layout.TheConstants.{OPEN}
use Rattle.segment_file.specs.File.{gated, BeginsOpen, IsCountedBatch}
use Rattle.segment_file.specs.Taking.{TakesBatch}

-- with this rest behind them these bytes begin with an open gate only where they do without it, and have the batch behind it whole
pub record TellsNext (ahead rest : List ℕ) : Type 0 where
  pub gate : BeginsOpen (ahead ++ rest) → BeginsOpen ahead
  pub whole : (units back : List ℕ) → IsCountedBatch units → ahead ++ rest ≡ gated units ++ back → length (gated units) ≤ length ahead

-- an open gate and a batch are so many bytes at the front, and the batch goes to the end of the units of a log that begins at this LSN
pub record TakesGated (begin : ℕ) (old bytes new : List ℕ) (count : ℕ) : Type 0 where
  pub body : List ℕ
  pub gate : bytes ≡ OPEN ∷ body
  pub within : count ≤ length bytes
  pub taken : TakesBatch begin old body new (drop count bytes)
