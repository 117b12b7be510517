-- What the telling of a batch leaves. `h` is what a sink shows; `sink` and `tally` are the sink and the counts before, `sink'` and `tally'`
-- after.
use Rattle.std.specs.Prelude.{ℕ, ◌+◌, ◌≤◌, List, length, Result, IfOk, OnErr}
use Rattle.std.specs.Io.KnownBytes.{Appends}
use Rattle.log_disk.specs.Faults.{HasCause}
use Rattle.log_disk.specs.declared.sink.Sink.{Ghosts as SinkGhosts}
use Rattle.log_disk.specs.declared.sink.WriteFault.{WriteFault}
use Rattle.log_record.specs.declared.rec.Rec.{Rec}
use Rattle.log_record.specs.LogList.{AreUnitsOf}
use Rattle.end_lines.specs.declared.tally.Tally.{Tally}
use Rattle.end_lines.specs.declared.voice.Voice.{Voice}
use Rattle.end_lines.specs.Telling.{TellsAll, TellsFront}

-- The end records in these units, the first of which is at this LSN, were counted, and their lines written; after an Err those of a
-- prefix, and not all of their lines.
pub record TellsBatch {K : Type 0} (h : SinkGhosts K) (voice : Voice) (from : ℕ) (units : List ℕ) (sink sink' : K) (tally tally' : Tally)
    (result : Result ℕ WriteFault) : Type 0 where
  pub told : IfOk result (λ lines. (text : List ℕ) × Appends (h.held_bytes sink) (h.held_bytes sink') text
      × ((records : List Rec) → AreUnitsOf units records → TellsAll voice from records text lines tally tally'))
  pub front : OnErr result ((text : List ℕ) × Appends (h.held_bytes sink) (h.held_bytes sink') text
      × ((records : List Rec) → AreUnitsOf units records → TellsFront voice from records text tally tally'))
  pub few : tally'.done + tally'.refused ≤ tally.done + tally.refused + length units
  pub cause : HasCause (h.faults sink) (h.faults sink') result
