-- What a run leaves on the disk and writes. `opened` is the list that was opened, with what stands before it; `jobs` are the transfers of
-- the script under their numbers, `sharing` says which worker took which of them, and `list` has the records that the run inserted. `at` is
-- the place of the tail from which it went on in the file, and `ring` the length of the ring. `g` is what a disk shows, and `old` and `new`
-- are what is known of the output.
use Rattle.std.specs.Prelude.{◌≡◌, ◌≢◌, ◌<◌, ◌≤◌, ℕ, ◌+◌, ◌*◌, true, List, [], ◌++◌, length, map, Contains, Option}
use Rattle.std.specs.Io.KnownBytes.{Appends}
use Rattle.log_disk.specs.Costs.{Costs}
use Rattle.log_disk.specs.Disk.{Leaves}
use Rattle.log_disk.specs.Lengths.{GrowsAtMostTo}
use Rattle.log_disk.specs.Streams.{AppendsPrefix}
use Rattle.log_disk.specs.declared.disk.LogDisk.{Ghosts}
use Rattle.log_record.specs.declared.rec.Rec.{Rec}
use Rattle.log_record.specs.declared.rec.Placed.{Placed}
use Rattle.log_record.specs.LogList.{end_of}
use Rattle.lock_core.specs.Alone.{PlainTransfer}
use Rattle.lock_core.specs.Serial.{IsSerial, IsPartlySerial}
use Rattle.lock_core.specs.Soundness.{IsSoundAfter}
use Rattle.lock_core.specs.Transactions.{own_records_of}
use Rattle.log_recovery.specs.Opened.{OpenedList, list_end, placed, with_records, opening_before}
use Rattle.log_recovery.specs.Recovery.{HoldsLawful}
use Rattle.log_recovery.specs.Text.{accounts_text, rows_text}
use Rattle.lock_core.specs.Transfers.{transfer_of}
use Rattle.end_lines.specs.declared.voice.Voice.{Voice}
use Rattle.commit_pipeline.specs.EndLines.{text_of}
use Rattle.txn_jobs.specs.Places.{NumberedJobs, number_at}
use Rattle.segment_file.specs.Lengths.{most_end}
use Rattle.cli_threads.specs.RunStops.{EndsAs}
use Rattle.cli_threads.specs.Sharing.{Sharing}

-- the transfers of the script
abbrev pub transfers_of : NumberedJobs → List PlainTransfer
transfers_of jobs = map transfer_of jobs.script

-- The jobs of each worker come one behind another: where one has a record, each before it among those that the worker took has its
-- end record.
abbrev pub ComeInTurn : NumberedJobs → Sharing → List Placed → Type 0
ComeInTurn jobs sharing h = (places : List ℕ) (i j : ℕ) → Contains sharing.taken places → Contains places i → Contains places j → i < j
    → own_records_of (number_at jobs j) h ≢ [] → EndsAs jobs i h true

-- no job behind those that were taken has a record
abbrev pub HasNoneBehind : NumberedJobs → Sharing → List Placed → Type 0
HasNoneBehind jobs sharing h = (place : ℕ) → sharing.front ≤ place → own_records_of (number_at jobs place) h ≡ []

-- The list goes on from the opened one as the script says: each transfer ran whole, or was cut short, each worker's in turn; those
-- behind the prefix of the script that was taken have no record.
pub record GoesOn (opened : OpenedList) (jobs : NumberedJobs) (sharing : Sharing) (list : OpenedList) : Type 0 where
  pub sound : IsSoundAfter (opening_before opened) (placed opened) (placed list)
  pub serial : IsPartlySerial (opening_before opened) (placed opened) jobs.first (transfers_of jobs) (placed list)
  pub in_turn : ComeInTurn jobs sharing (placed list)
  pub rest : HasNoneBehind jobs sharing (placed list)

-- the bytes hold the opened list and then a prefix of what the run inserted
pub record HoldsRun (opened : OpenedList) (jobs : NumberedJobs) (sharing : Sharing) (list : List Rec) (bytes : List ℕ) : Type 0 where
  pub front : List Rec
  pub rest : List Rec
  pub whole : list ≡ front ++ rest
  pub holds : HoldsLawful bytes (with_records opened front)
  pub goes_on : GoesOn opened jobs sharing (with_records opened front)

-- The bytes are such, and what was written is a prefix of the lines of their end records: so each commit that was told is in them. At
-- most 4 calls of the disk were made for each record, and 4 more in a flush that failed. The file grew by no more than these records
-- take, and one batch.
pub record IsLeft {D : Type 0} (g : Ghosts D) (voice : Voice) (opened : OpenedList) (jobs : NumberedJobs) (sharing : Sharing)
    (list : List Rec) (at ring : ℕ) (before after : D) (old new : Option (List ℕ)) (bytes : List ℕ) : Type 0 where
  pub run : HoldsRun opened jobs sharing list bytes
  pub text : AppendsPrefix old new (text_of voice (list_end opened) run.front)
  pub count : Costs g (4 * length run.front + 4) (4 * length run.front + 4) before after
  pub grows : GrowsAtMostTo g (most_end at (end_of run.front) ring) before after

-- The list goes on from the opened one as the script says. At each moment an image holds the opened list and a prefix of what was
-- inserted, so that of two such the one is a prefix of the other; and at the exit each image holds all that was told.
pub record RunKeepsLog {D : Type 0} (g : Ghosts D) (voice : Voice) (opened : OpenedList) (jobs : NumberedJobs) (sharing : Sharing)
    (list : List Rec) (at ring : ℕ) (before after : D) (old new : Option (List ℕ)) : Type 0 where
  pub goes_on : GoesOn opened jobs sharing (with_records opened list)
  pub moments : g.honest before → Leaves g.moment g.images_since (HoldsRun opened jobs sharing list) before after
  pub left : g.honest before → (bytes : List ℕ) → g.images after bytes
      → IsLeft g voice opened jobs sharing list at ring before after old new bytes

-- The log was drained: each image holds the whole list, whose lines are written, and the rows of the closed table are its accounts.
pub record RunIsDrained {D : Type 0} (g : Ghosts D) (voice : Voice) (opened : OpenedList) (list : List Rec) (at ring : ℕ)
    (before after : D) (old new : Option (List ℕ)) (lsn : ℕ) (rows : List (ℕ × ℕ)) : Type 0 where
  pub images : g.honest before → (bytes : List ℕ) → g.images after bytes → HoldsLawful bytes (with_records opened list)
  pub text : Appends old new (text_of voice (list_end opened) list)
  pub end : lsn ≡ list_end (with_records opened list)
  pub accounts : rows_text lsn rows ≡ accounts_text (with_records opened list)
  pub count : g.honest before → Costs g (4 * length list) (4 * length list) before after
  pub grows : g.honest before → GrowsAtMostTo g (most_end at (end_of list) ring) before after

-- each transfer of the script ran whole
abbrev pub RunsWhole : OpenedList → NumberedJobs → List Rec → Type 0
RunsWhole opened jobs list = IsSerial (opening_before opened) (placed opened) jobs.first (transfers_of jobs) (placed (with_records opened list))
