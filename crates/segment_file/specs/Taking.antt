-- How a scan takes what a file begins with, and goes on by one batch.
use Rattle.std.specs.Prelude.{◌≡◌, ◌≤◌, ℕ, ◌+◌, List, ◌++◌, length}
use Rattle.lsn_space.specs.declared.lsn.TheConstants.{LAST}
use Rattle.lsn_space.specs.Opening.{Opening}
use Rattle.segment_file.specs.File.{IsCountedBatch, batch}
use Rattle.segment_file.specs.Log.{IsFront}

-- the bytes begin with a front, and this is what stands before the list, the front's units, and the rest of the bytes
pub record TakesFront (bytes : List ℕ) (opening : Opening) (units rest : List ℕ) : Type 0 where
  pub front : List ℕ
  pub begins : IsFront front opening units
  pub whole : bytes ≡ front ++ rest
  pub total : opening.lsn + length units ≤ LAST

-- a batch goes from the start of the bytes to the end of the units of a log that begins at this LSN, and the rest of the bytes is left
pub record TakesBatch (begin : ℕ) (old bytes new rest : List ℕ) : Type 0 where
  pub units : List ℕ
  pub counted : IsCountedBatch units
  pub front : bytes ≡ batch units ++ rest
  pub added : new ≡ old ++ units
  pub total : begin + length new ≤ LAST
