-- What the recovery of a log from a source answers. `first` is what the source told before it, `now` what it tells behind it.
use Rattle.std.specs.Prelude.{◌≡◌, ◌⊎◌, ◌≤◌, ℕ, ◌^◌, List, Option, Result, IfOk, IfErr, IsErrOf}
use Rattle.log_disk.specs.Faults.{CountsWhere}
use Rattle.log_disk.specs.Streams.{ReadsAll}
use Rattle.log_disk.specs.declared.source.Source.{Ghosts}
use Rattle.log_recovery.specs.Recovery.{HasSourceFault, HoldsLawful, IsListedFaultOf, Recovers}
use Rattle.log_recovery.specs.declared.recovery.Recovered.{Recovered}
use Rattle.log_recovery.specs.declared.recovery.RecoverFault.TheVariants as fault
use Rattle.log_recovery.specs.Opened.{OpenedList, log_of, opening_before, placed}
use Rattle.log_record.specs.declared.rec.Placed.{Placed}
use Rattle.lock_core.specs.Sums as sums
use Rattle.segment_file.specs.StandingLog.{LogStandsAt}
use Rattle.segment_file.specs.declared.scan_result.ScanFault.TheVariants as scan
use Rattle.segment_file.specs.declared.scan_result.Tail.{Tail}
use Rattle.source_recovery.specs.ReadingFaults.{IsReadingFaultOf}
use Rattle.source_recovery.specs.declared.batches.ReadingFault.{ReadingFault}
use Rattle.source_recovery.specs.declared.batches.ReadingFault.TheVariants as reading
use Rattle.source_recovery.specs.declared.recovery.SourceFault.{SourceFault}
use Rattle.source_recovery.specs.declared.recovery.SourceFault.TheVariants.{Failed, Log}

-- why nothing is recovered; a failed read, and want of memory, say nothing of the bytes
abbrev pub IsSourceFaultOf : Option (List ℕ) → Option (List ℕ) → SourceFault → Type 0
IsSourceFaultOf first now Failed = Unit {0}
IsSourceFaultOf first now (Log fault.NoMemory) = Unit {0}
IsSourceFaultOf first now (Log fault') = HasSourceFault first now fault'

-- why no list is read: a fault of recovery, but for the test of records
abbrev pub IsListedSourceFaultOf : Option (List ℕ) → Option (List ℕ) → SourceFault → Type 0
IsListedSourceFaultOf first now Failed = Unit {0}
IsListedSourceFaultOf first now (Log fault.NoMemory) = Unit {0}
IsListedSourceFaultOf first now (Log fault') = (bytes : List ℕ) × ReadsAll first now bytes × IsListedFaultOf bytes fault'

-- a reader's fault is told: it says as much of the bytes, and is a failed read where the reader's is one, and only there;
-- want of memory comes of that alone
pub record TellsReading (from : ReadingFault) (told : SourceFault) : Type 0 where
  pub is : (first now : Option (List ℕ)) → IsReadingFaultOf first now from → IsSourceFaultOf first now told
  pub listed : (first now : Option (List ℕ)) → IsReadingFaultOf first now from → IsListedSourceFaultOf first now told
  pub failed : from ≡ reading.Failed → told ≡ Failed
  pub only : told ≡ Failed → from ≡ reading.Failed
  pub memory : told ≡ Log fault.NoMemory → (from ≡ reading.NoMemory) ⊎ (from ≡ reading.Bytes scan.NoMemory)

-- the source was read to its end, the lawful list that its bytes hold is taken behind its opening, and the file goes on at this tail
pub record TakesSource {T : Type 0} (HasTaken : sums.Opening → T → List Placed → Type 0) (first now : Option (List ℕ)) (taker : T)
    (tail : Tail) : Type 0 where
  pub bytes : List ℕ
  pub read : ReadsAll first now bytes
  pub list : OpenedList
  pub held : HoldsLawful bytes list
  pub stands : LogStandsAt tail (log_of list) bytes
  pub taken : HasTaken (opening_before list) taker (placed list)

-- what is recovered is what all bytes of the source hold, or why nothing is; one fault is counted where a read failed, and none else
pub record RecoversSource {S : Type 0} (g : Ghosts S) (old new : S) (result : Result Recovered SourceFault) : Type 0 where
  pub found : IfOk result (λ recovered. (bytes : List ℕ) × ReadsAll (g.left old) (g.left new) bytes × Recovers recovered bytes)
  pub number : IfOk result (λ recovered. recovered.next_txn ≤ 2 ^ 32)
  pub fault : IfErr result (IsSourceFaultOf (g.left old) (g.left new))
  pub failed : CountsWhere (IsErrOf result Failed) (g.faults old) (g.faults new)
