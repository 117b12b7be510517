-- What a crash may leave of a log before, during and after a write.
use Rattle.std.specs.Prelude.{◌≡◌, ◌≢◌, ◌⊎◌, ℕ, ◌+◌, ◌*◌, List, [], ◌∷◌, ◌++◌, length, drop, slice_get, Option, Some}
use Rattle.segment_file.specs.File.{written, joined, IsFile, HoldsUnits, BeginsAsLog, BeginsOpen}
use Rattle.segment_file.specs.Log.{Log, with_units, log_end, HoldsLog}
use Rattle.segment_file.specs.declared.layout.TheConstants.{OPEN}
use Rattle.segment_file.specs.declared.scan_result.Tail.{Tail}

-- the bytes hold these units, and their first gate that isn't open is at this tail
pub record StandsAt (tail : Tail) (units bytes : List ℕ) : Type 0 where
  pub batches : List (List ℕ)
  pub rest : List ℕ
  pub file : IsFile bytes batches rest
  pub units_are : units ≡ joined batches
  pub place : tail.at ≡ length (written batches)
  pub next : tail.next ≡ length units

-- the bytes hold this log, and their first gate that isn't open is at this tail
pub record LogStandsAt (tail : Tail) (log : Log) (bytes : List ℕ) : Type 0 where
  pub held : HoldsLog bytes log
  pub place : tail.at + length held.rest ≡ length bytes
  pub next : tail.next ≡ log_end log

-- the tail at this place, with this LSN next
abbrev pub tail_at : ℕ → ℕ → Tail
tail_at at next = record { at = at; next = next }

-- where a log goes on behind an appended batch, with a byte for the gate, four for the count and eight for each unit
abbrev pub tail_after : Tail → List ℕ → Tail
tail_after tail units = record { at = tail.at + (5 + 8 * length units); next = tail.next + length units }

-- each image holds these units and goes on at this tail
abbrev pub AllStand : Tail → List ℕ → (List ℕ → Type 0) → Type 0
AllStand tail units images = (c : List ℕ) → images c → StandsAt tail units c

-- each image holds this log and goes on at this tail
abbrev pub LogStands : Tail → Log → (List ℕ → Type 0) → Type 0
LogStands tail log images = (c : List ℕ) → images c → LogStandsAt tail log c

-- the same byte stands at this place in each image, and it opens no gate, whatever follows it
pub record IsShut (at : ℕ) (images : List ℕ → Type 0) : Type 0 where
  pub gate : ℕ
  pub shut : gate ≢ OPEN
  pub stable : (c : List ℕ) → images c → slice_get c at ≡ Some gate

-- the gate at this place isn't open, and its byte is the same in each image, or missing in each
pub record IsStableGate (at : ℕ) (images : List ℕ → Type 0) : Type 0 where
  pub gate : Option ℕ
  pub stable : (c : List ℕ) → images c → slice_get c at ≡ gate
  pub closed : (c : List ℕ) → images c → BeginsOpen (drop at c) → ⊥

-- the gate at this place is missing, or is a last byte 0x4F, which any byte behind it would open
abbrev pub LacksGate : ℕ → List ℕ → Type 0
LacksGate at file = (drop at file ≡ []) ⊎ (drop at file ≡ OPEN ∷ [])

-- the list before, or the list with the whole batch
abbrev pub HoldsEither : List ℕ → List ℕ → List ℕ → Type 0
HoldsEither units more bytes = HoldsUnits bytes units ⊎ HoldsUnits bytes (units ++ more)

-- no log, or the log with these units
abbrev pub HoldsNoneOr : List ℕ → List ℕ → Type 0
HoldsNoneOr units bytes = (BeginsAsLog bytes → ⊥) ⊎ HoldsUnits bytes units

-- the log before, or the log with the whole batch
abbrev pub HoldsLogOrMore : Log → List ℕ → List ℕ → Type 0
HoldsLogOrMore log more bytes = HoldsLog bytes log ⊎ HoldsLog bytes (with_units log more)

-- no log, or this one
abbrev pub HoldsNoneOrLog : Log → List ℕ → Type 0
HoldsNoneOrLog log bytes = (BeginsAsLog bytes → ⊥) ⊎ HoldsLog bytes log
