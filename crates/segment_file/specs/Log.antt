-- The log files of both formats: what a file begins with, and batches behind open gates.
use Rattle.std.specs.Prelude.{◌≡◌, ◌<◌, ◌≤◌, ℕ, ◌+◌, List, [], ◌∷◌, ◌++◌, length}
use Rattle.std.specs.List.{flat_map, AllByRecursion}
use Rattle.lsn_space.specs.declared.lsn.TheConstants.{LAST}
use Rattle.lsn_space.specs.Opening.{Opening, no_opening, IsSnapshot}
use Rattle.segment_head.specs.Head.{head}
use Rattle.segment_file.specs.declared.layout.TheConstants.{OPEN}
use Rattle.segment_file.specs.File.{magic, batch, gated, joined, IsCountedBatch, BeginsOpen, BeginsAsSecond, HasNoBatch}

-- what a log holds: what stands before its list, and the units of the list
pub record Log : Type 0 where
  pub opening : Opening
  pub units : List ℕ

-- the log with nothing before these units
abbrev pub whole_log : List ℕ → Log
whole_log units = record { opening = no_opening; units = units }

-- the log with an opening alone
abbrev pub cut_log : Opening → Log
cut_log opening = record { opening = opening; units = [] }

-- the log with more units behind its own
abbrev pub with_units : Log → List ℕ → Log
with_units log more = record { opening = log.opening; units = log.units ++ more }

-- the LSN at which the log ends
abbrev pub log_end : Log → ℕ
log_end log = log.opening.lsn + length log.units

-- What a file begins with, up to its second gate: in the first format nothing stands before the list, and its first batch follows the magic
-- bytes; in the second a head says what does, and has no units.
pub data IsFront (front : List ℕ) (opening : Opening) (units : List ℕ) : Type 0 where
  first_format : opening ≡ no_opening → IsCountedBatch units → front ≡ OPEN ∷ magic ++ batch units → IsFront front opening units
  second_format : IsSnapshot opening → units ≡ [] → front ≡ OPEN ∷ head opening → IsFront front opening units

-- the bytes begin with a front and batches, which hold this log, and the rest of them follows
pub record ReadsTo (bytes : List ℕ) (log : Log) (rest : List ℕ) : Type 0 where
  pub front : List ℕ
  pub first : List ℕ
  pub begins : IsFront front log.opening first
  pub batches : List (List ℕ)
  pub each : AllByRecursion IsCountedBatch batches
  pub units : log.units ≡ first ++ joined batches
  pub total : log_end log ≤ LAST
  pub whole : bytes ≡ front ++ flat_map gated batches ++ rest

-- the bytes hold this log: behind it stands a gate that isn't open, and whatever follows that gate is not read
pub record HoldsLog (bytes : List ℕ) (log : Log) : Type 0 where
  pub rest : List ℕ
  pub reads : ReadsTo bytes log rest
  pub closed : BeginsOpen rest → ⊥

-- a file of the second format without a head: it is cut, or a number in it is out of its range
pub record IsBadSnapshot (bytes : List ℕ) : Type 0 where
  pub second : BeginsAsSecond bytes
  pub none : (opening : Opening) (rest : List ℕ) → IsSnapshot opening → bytes ≡ OPEN ∷ head opening ++ rest → ⊥

-- the bytes are this log up to an open gate at this place, and no batch follows that the log has room for
pub record IsBadBatchBehind (bytes : List ℕ) (log : Log) (offset : ℕ) : Type 0 where
  pub body : List ℕ
  pub some : 0 < length body
  pub reads : ReadsTo bytes log (OPEN ∷ body)
  pub place : offset + length (OPEN ∷ body) ≡ length bytes
  pub none : HasNoBatch (log_end log) body

-- the first open gate behind which no batch follows, as it is cut, out of range or too large for the log: the gate before the magic bytes of the
-- first format, or a later one
pub data IsBadBatch (bytes : List ℕ) (offset : ℕ) : Type 0 where
  first_batch : (body : List ℕ) → bytes ≡ OPEN ∷ magic ++ body → HasNoBatch 0 body → offset ≡ 0 → IsBadBatch bytes offset
  later_batch : (log : Log) → IsBadBatchBehind bytes log offset → IsBadBatch bytes offset
