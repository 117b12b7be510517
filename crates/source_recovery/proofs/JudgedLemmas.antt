-- From a log that was read to its end, and units of which all records are taken, to what all bytes say; and what faults are counted.
use Rattle.std.proofs.Common.{◌≡◌, ◌∙◌, ◌++◌, ℕ, List, Option, Some, None, Result, Err, IsErrAnd, IsErrOf, ap, append-nil, subst, sym}
use Rattle.std.proofs.lemmas.Result.{err_from_is_err_and}
use Rattle.lsn_space.specs.Opening.{Opening}
use Rattle.log_disk.specs.Faults.{CountsWhere}
use Rattle.log_disk.specs.Streams.{ReadsAll}
use Rattle.log_record.specs.declared.rec.Placed.{Placed}
use Rattle.lock_core.specs.Sums as sums
use Rattle.lock_core.specs.Lawful.{IsLawful}
use Rattle.segment_file.specs.Log.{Log, HoldsLog}
use Rattle.segment_file.specs.StandingLog.{LogStandsAt}
use Rattle.segment_file.specs.declared.scan_result.Tail.{Tail}
use Rattle.log_recovery.specs.JudgedUnits.{HasTakenUnits}
use Rattle.log_recovery.specs.Opened.{OpenedList, log_of}
use Rattle.log_recovery.specs.Recovery.{IsFaultOf, IsListedFaultOf}
use Rattle.log_recovery.specs.declared.recovery.RecoverFault.{RecoverFault}
use Rattle.log_recovery.specs.declared.recovery.RecoverFault.TheVariants as fault
use Rattle.source_recovery.specs.Recovery.{IsListedSourceFaultOf, IsSourceFaultOf, TakesSource, TellsReading}
use Rattle.source_recovery.specs.Window.{GaveAll}
use Rattle.source_recovery.specs.declared.batches.ReadingFault.{ReadingFault}
use Rattle.source_recovery.specs.declared.batches.ReadingFault.TheVariants as reading
use Rattle.source_recovery.specs.declared.recovery.SourceFault.{SourceFault}
use Rattle.source_recovery.specs.declared.recovery.SourceFault.TheVariants as source

-- a source that gave all its bytes was read to its end
pub GaveAll-ReadsAll : (first now : Option (List ℕ)) (bytes : List ℕ) → GaveAll first now bytes → ReadsAll first now bytes
GaveAll-ReadsAll None now bytes gave = tt
GaveAll-ReadsAll (Some all) None bytes gave = absurd gave.given
GaveAll-ReadsAll (Some all) (Some rest) bytes gave =
    (sym (gave.given ∙ ap (λ back. bytes ++ back) gave.end ∙ append-nil bytes), ap Some gave.end)

-- a fault of all bytes is one of the source
pub ReadsAll-IsSourceFaultOf : (first now : Option (List ℕ)) (bytes : List ℕ) (f : RecoverFault) → ReadsAll first now bytes → IsFaultOf bytes f
    → IsSourceFaultOf first now (source.Log f)
ReadsAll-IsSourceFaultOf first now bytes fault.NoMemory read is = tt
ReadsAll-IsSourceFaultOf first now bytes f read is = (bytes, read, is)

pub ReadsAll-IsListedSourceFaultOf : (first now : Option (List ℕ)) (bytes : List ℕ) (f : RecoverFault) → ReadsAll first now bytes
    → IsListedFaultOf bytes f → IsListedSourceFaultOf first now (source.Log f)
ReadsAll-IsListedSourceFaultOf first now bytes fault.NoMemory read is = tt
ReadsAll-IsListedSourceFaultOf first now bytes f read is = (bytes, read, is)

pub gave_all-IsSourceFaultOf : (first now : Option (List ℕ)) (bytes : List ℕ) (f : RecoverFault) → GaveAll first now bytes → IsFaultOf bytes f
    → IsSourceFaultOf first now (source.Log f)
gave_all-IsSourceFaultOf first now bytes f gave is = ReadsAll-IsSourceFaultOf first now bytes f (GaveAll-ReadsAll first now bytes gave) is

pub gave_all-IsListedSourceFaultOf : (first now : Option (List ℕ)) (bytes : List ℕ) (f : RecoverFault) → GaveAll first now bytes
    → IsListedFaultOf bytes f → IsListedSourceFaultOf first now (source.Log f)
gave_all-IsListedSourceFaultOf first now bytes f gave is = ReadsAll-IsListedSourceFaultOf first now bytes f (GaveAll-ReadsAll first now bytes gave) is

-- the log stands in the bytes, and all its records are taken
pub taken_units-TakesSource : {T : Type 0} (HasTaken : sums.Opening → T → List Placed → Type 0) (first now : Option (List ℕ)) (tail : Tail)
    (opening : Opening) (units bytes : List ℕ) (taker : T)
    → ((opening : sums.Opening) (taker : T) (h : List Placed) → HasTaken opening taker h → IsLawful opening h) → GaveAll first now bytes
    → LogStandsAt tail (record { opening = opening; units = units }) bytes → HasTakenUnits HasTaken opening units taker
    → TakesSource HasTaken first now taker tail
taken_units-TakesSource HasTaken first now tail opening units bytes taker lawful gave stands taken =
    let list : OpenedList = record { opening = opening; records = taken.records } in
    let same : record { opening = opening; units = units } ≡ log_of list =
    ap (λ (list : List ℕ). record { opening = opening; units = list }) taken.list.units_are in record {
      bytes = bytes;
      read = GaveAll-ReadsAll first now bytes gave;
      list = list;
      held = record {
        list = record { each = taken.list.spellable; holds = subst (HoldsLog bytes) same stands.held };
        lawful = lawful _ taker _ taken.taken;
      };
      stands = subst (λ (log : Log). LogStandsAt tail log bytes) same stands;
      taken = taken.taken;
    }

-- a fault of reading is told, and counted where it is a failed read
pub told-CountsWhere : {T U : Type 0} (from : ReadingFault) (result : Result T SourceFault) (before now : ℕ) → IsErrAnd result (TellsReading from)
    → CountsWhere (IsErrOf {T = U} (Err from) reading.Failed) before now → CountsWhere (IsErrOf result source.Failed) before now
told-CountsWhere from result before now told read =
    let failed = err_from_is_err_and result told in record {
      counted = λ is. let same : failed.0 ≡ source.Failed = cc in read.counted (ap Err (failed.2.only same));
      fine = λ other. read.fine (λ is. let same : from ≡ reading.Failed = cc in other (failed.1 ∙ ap Err (failed.2.failed same)));
    }

-- want of memory is told, and no fault is counted
pub no_memory-CountsWhere : {T : Type 0} (result : Result T SourceFault) (before now : ℕ)
    → IsErrAnd result (λ told. told ≡ source.Log fault.NoMemory) → now ≡ before → CountsWhere (IsErrOf result source.Failed) before now
no_memory-CountsWhere result before now told same =
    let failed = err_from_is_err_and result told in record {
      counted = λ is. let other : source.Log fault.NoMemory ≡ source.Failed = cc in absurd (cc);
      fine = λ _. same;
    }
