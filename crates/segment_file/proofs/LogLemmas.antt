-- A log with units behind its own.
use Rattle.std.proofs.Common.{◌≡◌, List, ℕ, [], ◌++◌, append_assoc, append-nil}
use Rattle.segment_file.specs.Log.{Log, with_units}

pub with_units-nil : (log : Log) → with_units log [] ≡ log
with_units-nil log = λ i. record { opening = log.opening; units = append-nil log.units i }

pub with_units-append : (log : Log) (units more : List ℕ) → with_units (with_units log units) more ≡ with_units log (units ++ more)
with_units-append log units more = λ i. record { opening = log.opening; units = append_assoc log.units units more i }
