-- What the bytes of a log say, and what is wrong with bytes that hold no lawful list.
use Rattle.std.specs.Prelude.{◌≡◌, ◌≤◌, ℕ, ◌+◌, ◌^◌, List, Option, Result, IfOk, IfErr}
use Rattle.std.specs.List.{AllByRecursion}
use Rattle.log_record.specs.declared.rec.Rec.{Rec}
use Rattle.log_record.specs.declared.rec.Placed.{Placed}
use Rattle.log_record.specs.Spelling.{IsSpellable}
use Rattle.log_record.specs.LogList.{AreUnitsOf}
use Rattle.log_disk.specs.Streams.{ReadsAll}
use Rattle.segment_file.specs.File.{BeginsAsLog}
use Rattle.segment_file.specs.Log.{Log, HoldsLog, IsBadSnapshot, IsBadBatch}
use Rattle.segment_file.specs.StandingLog.{LogStandsAt}
use Rattle.segment_file.specs.declared.scan_result.Tail.{Tail}
use Rattle.log_recovery.specs.declared.list_result.Listed.{Listed}
use Rattle.log_recovery.specs.declared.recovery.Recovered.{Recovered}
use Rattle.log_recovery.specs.declared.recovery.RecoverFault.{RecoverFault}
use Rattle.log_recovery.specs.declared.recovery.RecoverFault.TheVariants as fault
use Rattle.lock_core.specs.declared.judge.Judge.{Judge}
use Rattle.lock_core.specs.Sums.{Opening, ShowsAccounts}
use Rattle.lock_core.specs.Lawful.{IsLawful, base_with, opening_after}
use Rattle.lock_core.specs.Faults.{IsUnlawfulAt}
use Rattle.lock_core.specs.AccountRows.{opening_of}
use Rattle.lock_core.specs.Taking.{HasJudged}
use Rattle.log_recovery.specs.ListedRecords.{IsBadRecAt}
use Rattle.log_recovery.specs.Opened.{OpenedList, log_of, list_end, placed}

-- the bytes are a log file that holds these records behind this opening
pub record HoldsList (bytes : List ℕ) (list : OpenedList) : Type 0 where
  pub each : AllByRecursion IsSpellable list.records
  pub holds : HoldsLog bytes (log_of list)

-- they are a log file that holds them, and the list is lawful
pub record HoldsLawful (bytes : List ℕ) (opened : OpenedList) : Type 0 where
  pub list : HoldsList bytes opened
  pub lawful : IsLawful (opening_of opened.opening) (placed opened)

-- the end, the accounts and the next transaction number of the lawful list that the bytes hold, and where the file goes on
pub record Recovers (recovered : Recovered) (bytes : List ℕ) : Type 0 where
  pub list : OpenedList
  pub held : HoldsLawful bytes list
  pub lsn : recovered.lsn ≡ list_end list
  pub stands : LogStandsAt recovered.tail (log_of list) bytes
  pub next_txn : recovered.next_txn ≡ (opening_after (opening_of list.opening) (placed list)).txn + 1
  pub accounts : ShowsAccounts recovered.accounts.rows (base_with (opening_of list.opening) (placed list)) (placed list)

-- the judge has taken the lawful list that the bytes hold, and the file goes on at this tail
pub record JudgesBytes (judge : Judge) (tail : Tail) (bytes : List ℕ) : Type 0 where
  pub list : OpenedList
  pub held : HoldsLawful bytes list
  pub stands : LogStandsAt tail (log_of list) bytes
  pub taken : HasJudged (opening_of list.opening) judge (placed list)

-- why nothing is recovered from the bytes; want of memory says nothing of them
abbrev pub IsFaultOf : List ℕ → RecoverFault → Type 0
IsFaultOf bytes fault.NotALog = BeginsAsLog bytes → ⊥
IsFaultOf bytes fault.BadSnapshot = IsBadSnapshot bytes
IsFaultOf bytes (fault.BadBatch offset) = IsBadBatch bytes offset
IsFaultOf bytes (fault.BadRec lsn) = (log : Log) × HoldsLog bytes log × IsBadRecAt log.opening.lsn log.units lsn
IsFaultOf bytes (fault.Unlawful lsn why) =
    (list : OpenedList) × HoldsList bytes list × IsUnlawfulAt (opening_of list.opening) (placed list) lsn why
IsFaultOf bytes fault.NoMemory = Unit {0}

-- a source was read to its end, and has this fault of a log
abbrev pub HasSourceFault : Option (List ℕ) → Option (List ℕ) → RecoverFault → Type 0
HasSourceFault left left_new fault' = (bytes : List ℕ) × ReadsAll left left_new bytes × IsFaultOf bytes fault'

-- what `recover` answers of the bytes: what they hold, with a number that has room in 33 bits, or why nothing is recovered
pub record TellsRecovered (bytes : List ℕ) (result : Result Recovered RecoverFault) : Type 0 where
  pub found : IfOk result (λ recovered. Recovers recovered bytes)
  pub number : IfOk result (λ recovered. recovered.next_txn ≤ 2 ^ 32)
  pub fault : IfErr result (IsFaultOf bytes)

-- these records behind what was read before them
abbrev pub list_of : Listed → List Rec → OpenedList
list_of listed records = record { opening = listed.opening; records = records }

-- the units are those of these records, and the tail stands at their end
pub record HasRecords (listed : Listed) (records : List Rec) : Type 0 where
  pub list : AreUnitsOf listed.units records
  pub end : listed.tail.next ≡ list_end (list_of listed records)

-- the list that the bytes hold, lawful or not, and where the file goes on
pub record ListsBytes (listed : Listed) (bytes : List ℕ) : Type 0 where
  pub records : List Rec
  pub held : HoldsList bytes (list_of listed records)
  pub has : HasRecords listed records
  pub stands : LogStandsAt listed.tail (log_of (list_of listed records)) bytes

-- this lawful list, which the bytes hold, is taken behind its opening
pub record TakesBytes {T : Type 0} (HasTaken : Opening → T → List Placed → Type 0) (taker : T) (listed : Listed)
    (bytes : List ℕ) : Type 0 where
  pub records : List Rec
  pub held : HoldsLawful bytes (list_of listed records)
  pub has : HasRecords listed records
  pub stands : LogStandsAt listed.tail (log_of (list_of listed records)) bytes
  pub taken : HasTaken (opening_of listed.opening) taker (placed (list_of listed records))

-- why no list is read from the bytes: a fault of recovery, but for the test of records
abbrev pub IsListedFaultOf : List ℕ → RecoverFault → Type 0
IsListedFaultOf bytes (fault.Unlawful lsn why) = ⊥
IsListedFaultOf bytes fault' = IsFaultOf bytes fault'
