-- What `run` answers. `g` is what a disk shows; `old` and `new` are what is outside before and after.
use Rattle.std.specs.Prelude.{◌≡◌, ◌≤◌, ◌<◌, ◌⊎◌, ℕ, ◌+◌, ◌*◌, List, ◌++◌, length, Option}
use Rattle.std.specs.Io.KnownBytes.{Keeps, Appends}
use Rattle.command_line.specs.declared.options.RunOptions.{RunOptions}
use Rattle.log_disk.specs.Costs.{Costs}
use Rattle.log_disk.specs.Disk.{Leaves}
use Rattle.log_disk.specs.Lengths.{GrowsAtMostTo}
use Rattle.log_disk.specs.Streams.{AppendsPart, AppendsPrefix}
use Rattle.log_disk.specs.declared.disk.LogDisk.{Ghosts}
use Rattle.log_record.specs.declared.limits.TheConstants.{LAST_TXN}
use Rattle.log_record.specs.declared.rec.Rec.{Rec}
use Rattle.log_record.specs.LogList.{end_of}
use Rattle.segment_file.specs.Lengths.{most_end}
use Rattle.segment_file.specs.StandingLog.{LogStandsAt}
use Rattle.segment_file.specs.declared.scan_result.Tail.{Tail}
use Rattle.log_recovery.specs.declared.recovery.RecoverFault.TheVariants as fault
use Rattle.log_recovery.specs.Opened.{OpenedList, log_of, list_end, with_records, base_in, opening_left}
use Rattle.log_recovery.specs.Recovery.{HoldsLawful, IsFaultOf}
use Rattle.log_recovery.specs.Text.{accounts_text}
use Rattle.commit_pipeline.specs.EndLines.{end_lines}
use Rattle.txn_jobs.specs.Places.{NumberedJobs}
use Rattle.lock_core.specs.declared.job.Job.{Job}
use Rattle.cli_shared.specs.Outside.{Outside, OnlyReads, OnlySettles}
use Rattle.cli_shared.specs.declared.report.Detail.{Detail}
use Rattle.cli_shared.specs.declared.report.Detail.TheVariants.{Fine, NoMemory, Script, Read, Write, Disk, NotALog, BadSnapshot, BadBatch, BadRec, Unlawful, LogEnd, TxnEnd}
use Rattle.cli_threads.specs.Run.{HoldsRun, GoesOn, RunsWhole}
use Rattle.cli_threads.specs.RunStops.{StopsAtLogEnd}
use Rattle.cli_threads.specs.Sharing.{Sharing, IsSharedOut}
use Rattle.cli_shared.specs.Scripts.{IsWholeScript, HasNoScript}
use Rattle.cli_shared.specs.Opening.{most_calls}

-- the number of accounts of a list
abbrev pub accounts_of : OpenedList → ℕ
accounts_of list = (base_in list).accounts

-- the first transaction number that the list, with what stands before it, leaves
abbrev pub next_txn : OpenedList → ℕ
next_txn list = (opening_left list).txn + 1

-- the lines of all end records behind the opened list, and then the accounts text of the whole list
abbrev pub run_text : OpenedList → List Rec → List ℕ
run_text opened list = end_lines (list_end opened) list ++ accounts_text (with_records opened list)

-- the transfers of the whole input, under the numbers from the first on that the opened list leaves
pub record AreAsked (opened : OpenedList) (left left_new : Option (List ℕ)) (jobs : NumberedJobs) : Type 0 where
  pub script : IsWholeScript (accounts_of opened) left left_new jobs.script
  pub first : jobs.first ≡ next_txn opened
  pub numbered : jobs.first + length jobs.script ≤ LAST_TXN

-- The image holds the opened list and a prefix of what the run inserted. What was written is a prefix of the text of the image's list, so
-- each commit that was told is in it. At most 4 writes and syncs succeeded for each record of that, and 7 more, and of calls at most
-- as many beside those that the opening took.
pub record HoldsTold {D : Type 0} (g : Ghosts D) (opened : OpenedList) (jobs : NumberedJobs) (sharing : Sharing) (list : List Rec)
    (old new : Outside D) (image : List ℕ) : Type 0 where
  pub run : HoldsRun opened jobs sharing list image
  pub told : AppendsPrefix old.text new.text (run_text opened run.front)
  pub count : Costs g (4 * length run.front + 7) (most_calls g old.disk + 4 * length run.front + 7) old.disk new.disk

-- Transfers were begun: a prefix of the script was shared out among the workers. Each image of a moment is one of before, or holds the list
-- that was opened and a prefix of one and the same list, which goes on from it as the script says; so of two of the latter the one is a
-- prefix of the other. At the exit the file is no longer than before, or ends at most so far behind the tail of the list that was opened:
-- 13 bytes for each unit of the prefix that an image holds, and one batch in flight, of 6 bytes and 8 for each unit of the ring.
pub record Ran {D : Type 0} (g : Ghosts D) (options : RunOptions) (old new : Outside D) : Type 0 where
  pub opened : OpenedList
  pub held : HoldsLawful (g.reads old.disk) opened
  pub tail : Tail
  pub stands : LogStandsAt tail (log_of opened) (g.reads old.disk)
  pub jobs : NumberedJobs
  pub asked : AreAsked opened old.left new.left jobs
  pub sharing : Sharing
  pub shared : IsSharedOut options.workers jobs sharing
  pub list : List Rec
  pub goes_on : GoesOn opened jobs sharing (with_records opened list)
  pub images : Leaves g.moment g.images_since (λ bytes. g.images old.disk bytes ⊎ HoldsRun opened jobs sharing list bytes) old.disk new.disk
  pub kept : (image : List ℕ) → g.images new.disk image → HoldsTold g opened jobs sharing list old new image
  pub grows : (image : List ℕ) (left : g.images new.disk image)
      → GrowsAtMostTo g (most_end tail.at (end_of (kept image left).run.front) options.ring) old.disk new.disk

-- and of the text of each image's list a part was written, and not all of it
pub record RanShort {D : Type 0} (g : Ghosts D) (options : RunOptions) (old new : Outside D) : Type 0 where
  pub ran : Ran g options old new
  pub short : (image : List ℕ) (left : g.images new.disk image)
      → AppendsPart old.text new.text (run_text ran.opened (ran.kept image left).run.front)

-- the log was drained: each image holds the whole list
pub record RanOut {D : Type 0} (g : Ghosts D) (options : RunOptions) (old new : Outside D) : Type 0 where
  pub ran : Ran g options old new
  pub all : (image : List ℕ) → g.images new.disk image → HoldsLawful image (with_records ran.opened ran.list)

-- each transfer ran whole, and all of the text was written
pub record RanWhole {D : Type 0} (g : Ghosts D) (options : RunOptions) (old new : Outside D) : Type 0 where
  pub out : RanOut g options old new
  pub whole : RunsWhole out.ran.opened out.ran.jobs out.ran.list
  pub text : Appends old.text new.text (run_text out.ran.opened out.ran.list)

-- a record, alone or in a group, did not fit in the log, and the lines of all end records were written
pub record RanIntoEnd {D : Type 0} (g : Ghosts D) (options : RunOptions) (tail total : ℕ) (old new : Outside D) : Type 0 where
  pub out : RanOut g options old new
  pub stops : StopsAtLogEnd out.ran.opened out.ran.jobs out.ran.sharing out.ran.list options.ring options.slots tail total
  pub text : Appends old.text new.text (end_lines (list_end out.ran.opened) out.ran.list)

-- the whole input is a script, but the number that would follow those of its transfers is above the last transaction number
pub record RunsOutOfNumbers {D : Type 0} (g : Ghosts D) (first count : ℕ) (old new : Outside D) : Type 0 where
  pub opened : OpenedList
  pub held : HoldsLawful (g.reads old.disk) opened
  pub jobs : List Job
  pub script : IsWholeScript (accounts_of opened) old.left new.left jobs
  pub first_is : first ≡ next_txn opened
  pub count_is : count ≡ length jobs
  pub past : LAST_TXN < first + count

-- this line of the input is the first that is neither empty nor a transfer of the log that a read gave
abbrev pub IsFirstOutside : {D : Type 0} → Ghosts D → ℕ → Outside D → Outside D → Type 0
IsFirstOutside g line old new =
    (opened : OpenedList) × HoldsLawful (g.reads old.disk) opened × HasNoScript (accounts_of opened) old.left new.left (Script line)

-- `run` with these options, for each detail
abbrev pub AnswersRun : {D : Type 0} → Ghosts D → RunOptions → Outside D → Outside D → Detail → Type 0
AnswersRun g options old new Fine = RanWhole g options old new
AnswersRun g options old new (LogEnd tail total) = RanIntoEnd g options tail total old new
AnswersRun g options old new Write = RanShort g options old new
AnswersRun g options old new Disk = OnlySettles g old new ⊎ RanShort g options old new
AnswersRun g options old new NoMemory = OnlyReads g old new
AnswersRun g options old new (TxnEnd first count) = OnlyReads g old new × RunsOutOfNumbers g first count old new
AnswersRun g options old new (Script line) = OnlyReads g old new × IsFirstOutside g line old new
AnswersRun g options old new Read = OnlyReads g old new
AnswersRun g options old new NotALog = OnlyReads g old new × IsFaultOf (g.reads old.disk) fault.NotALog
AnswersRun g options old new BadSnapshot = OnlyReads g old new × IsFaultOf (g.reads old.disk) fault.BadSnapshot
AnswersRun g options old new (BadBatch offset) = OnlyReads g old new × IsFaultOf (g.reads old.disk) (fault.BadBatch offset)
AnswersRun g options old new (BadRec lsn) = OnlyReads g old new × IsFaultOf (g.reads old.disk) (fault.BadRec lsn)
AnswersRun g options old new (Unlawful lsn why) = OnlyReads g old new × IsFaultOf (g.reads old.disk) (fault.Unlawful lsn why)
AnswersRun g options old new detail = ⊥

-- where nothing is written, whatever the disk tells
abbrev pub RunStaysSilent : Option (List ℕ) → Option (List ℕ) → Detail → Type 0
RunStaysSilent old new Fine = Unit {0}
RunStaysSilent old new (LogEnd tail total) = Unit {0}
RunStaysSilent old new Write = Unit {0}
RunStaysSilent old new Disk = Unit {0}
RunStaysSilent old new detail = Keeps old new

-- the answers that there are to `run`
abbrev pub IsAnswerToRun : Detail → Type 0
IsAnswerToRun Fine = Unit {0}
IsAnswerToRun NoMemory = Unit {0}
IsAnswerToRun (Script line) = Unit {0}
IsAnswerToRun Read = Unit {0}
IsAnswerToRun Write = Unit {0}
IsAnswerToRun Disk = Unit {0}
IsAnswerToRun NotALog = Unit {0}
IsAnswerToRun BadSnapshot = Unit {0}
IsAnswerToRun (BadBatch offset) = Unit {0}
IsAnswerToRun (BadRec lsn) = Unit {0}
IsAnswerToRun (Unlawful lsn why) = Unit {0}
IsAnswerToRun (LogEnd tail total) = Unit {0}
IsAnswerToRun (TxnEnd first count) = Unit {0}
IsAnswerToRun detail = ⊥

-- the answers that there are to `run` where nothing stands in its way
abbrev pub IsRunDone : Detail → Type 0
IsRunDone Fine = Unit {0}
IsRunDone NoMemory = Unit {0}
IsRunDone (LogEnd tail total) = Unit {0}
IsRunDone detail = ⊥
