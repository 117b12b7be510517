-- What `demo` answers: a log of generated accounts is made, and `n` transfers that a seed generates are run over it. `g` is what a disk
-- shows; `old` and `new` are the disk before and after.
use Rattle.std.specs.Prelude.{◌≡◌, ◌⊎◌, ℕ, ◌+◌, ◌*◌, List, length, Option}
use Rattle.std.specs.Io.KnownBytes.{Keeps, Appends}
use Rattle.command_line.specs.declared.options.RunOptions.{RunOptions}
use Rattle.log_disk.specs.Costs.{Costs}
use Rattle.log_disk.specs.Disk.{Leaves}
use Rattle.log_disk.specs.Lengths.{GrowsAtMostTo}
use Rattle.log_disk.specs.Streams.{AppendsPart}
use Rattle.log_disk.specs.declared.disk.LogDisk.{Ghosts}
use Rattle.log_record.specs.declared.rec.Rec.{Rec}
use Rattle.log_record.specs.LogList.{end_of}
use Rattle.log_recovery.specs.Opened.{with_records}
use Rattle.log_recovery.specs.Recovery.{HoldsLawful}
use Rattle.log_table.specs.Seats.{key_of}
use Rattle.segment_file.specs.File.{BeginsAsLog}
use Rattle.segment_file.specs.Lengths.{most_end, new_end}
use Rattle.job_queue.specs.Passes.{jobs_of, workers_of}
use Rattle.txn_jobs.specs.Places.{NumberedJobs}
use Rattle.txn_script.specs.declared.generator.TheConstants.{GENERATED_ACCOUNTS}
use Rattle.txn_script.specs.Generator.{generated_jobs}
use Rattle.cli_shared.specs.declared.report.Detail.{Detail}
use Rattle.cli_shared.specs.declared.report.Detail.TheVariants.{Fine, NoMemory, Write, Disk, Exists}
use Rattle.cli_threads.specs.declared.transfers.ReadyRun.{ReadyRun}
use Rattle.cli_threads.specs.declared.transfers.Prepared.{Prepared}
use Rattle.cli_threads.specs.Prepared.{IsPrepared}
use Rattle.cli_threads.specs.Run.{GoesOn, HoldsRun, RunsWhole}
use Rattle.cli_threads.specs.Sharing.{Sharing, IsSharedOut}
use Rattle.cli_shared.specs.Opening.{OnlyLooks}
use Rattle.cli_demo.specs.Summary.{generated_opening, generated_rows, summary_text}
use Rattle.cli_threads.specs.Transferred.{IsOpened}

-- the transfers of the seed, under the numbers from 1 on
pub record AreGenerated (n seed : ℕ) (jobs : NumberedJobs) : Type 0 where
  pub script : jobs.script ≡ generated_jobs n seed
  pub first : jobs.first ≡ 1

-- an image of before, or no log
abbrev pub MayPrecede : (List ℕ → Type 0) → List ℕ → Type 0
MayPrecede images bytes = images bytes ⊎ (BeginsAsLog bytes → ⊥)

-- where the new log of the generated accounts goes on
abbrev pub generated_end : ℕ
generated_end = new_end (end_of generated_opening.records)

-- No transfer was begun. Each image of a moment is one of before, or no log, or the new log of the generated accounts. The file is no longer
-- than before, or ends at most behind the new log and the gate at its tail.
pub record OnlyMakes {D : Type 0} (g : Ghosts D) (old new : D) : Type 0 where
  pub images : Leaves g.moment g.images_since (λ bytes. MayPrecede (g.images old) bytes ⊎ HoldsLawful bytes generated_opening) old new
  pub count : Costs g 7 11 old new
  pub grows : GrowsAtMostTo g (generated_end + 1) old new

-- the image holds the new log and a prefix of what the run inserted; at most 4 writes and syncs succeeded for each record of it, and 11
-- more, of at most 4 calls for each and 15 more
pub record HoldsMade {D : Type 0} (g : Ghosts D) (jobs : NumberedJobs) (sharing : Sharing) (list : List Rec) (old new : D)
    (image : List ℕ) : Type 0 where
  pub run : HoldsRun generated_opening jobs sharing list image
  pub count : Costs g (4 * length run.front + 11) (4 * length run.front + 15) old new

-- The log was made and transfers were begun: a prefix of them was shared out among the workers. Each image of a moment is one of before, or
-- no log, or holds the new log and a prefix of one and the same list, which goes on from it by these transfers. At the exit the file is no
-- longer than before, or ends at most so far behind the tail of the new log: 13 bytes for each unit of the prefix that an image holds, and
-- one batch in flight, of 6 bytes and 8 for each unit of the ring.
pub record RanGenerated {D : Type 0} (g : Ghosts D) (n seed : ℕ) (options : RunOptions) (old new : D) : Type 0 where
  pub jobs : NumberedJobs
  pub generated : AreGenerated n seed jobs
  pub sharing : Sharing
  pub shared : IsSharedOut options.workers jobs sharing
  pub list : List Rec
  pub goes_on : GoesOn generated_opening jobs sharing (with_records generated_opening list)
  pub images : Leaves g.moment g.images_since
      (λ bytes. MayPrecede (g.images old) bytes ⊎ HoldsRun generated_opening jobs sharing list bytes) old new
  pub kept : (image : List ℕ) → g.images new image → HoldsMade g jobs sharing list old new image
  pub grows : (image : List ℕ) (left : g.images new image)
      → GrowsAtMostTo g (most_end generated_end (end_of (kept image left).run.front) options.ring) old new

-- each of them ran whole, and each image holds the whole list
pub record RanAllGenerated {D : Type 0} (g : Ghosts D) (n seed : ℕ) (options : RunOptions) (old new : D) : Type 0 where
  pub ran : RanGenerated g n seed options old new
  pub all : (image : List ℕ) → g.images new image → HoldsLawful image (with_records generated_opening ran.list)
  pub whole : RunsWhole generated_opening ran.jobs ran.list

-- What `demo` with these options leaves of the disk, for each detail. The output is written only once all transfers are on the disk.
abbrev pub AnswersDemo : {D : Type 0} → Ghosts D → ℕ → ℕ → RunOptions → D → D → Detail → Type 0
AnswersDemo g n seed options old new Fine = RanAllGenerated g n seed options old new
AnswersDemo g n seed options old new Write = RanAllGenerated g n seed options old new
AnswersDemo g n seed options old new Disk = OnlyMakes g old new ⊎ RanGenerated g n seed options old new
AnswersDemo g n seed options old new NoMemory = OnlyLooks g old new
AnswersDemo g n seed options old new Exists = OnlyLooks g old new
AnswersDemo g n seed options old new detail = ⊥

-- what `demo` writes, for each detail: the summary, which the number of the transfers and their seed alone tell
abbrev pub TellsSummary : ℕ → ℕ → Option (List ℕ) → Option (List ℕ) → Detail → Type 0
TellsSummary n seed old new Fine = Appends old new (summary_text n seed)
TellsSummary n seed old new Write = AppendsPart old new (summary_text n seed)
TellsSummary n seed old new detail = Keeps old new

-- the answers that there are to `demo`
abbrev pub IsAnswerToDemo : Detail → Type 0
IsAnswerToDemo Fine = Unit {0}
IsAnswerToDemo NoMemory = Unit {0}
IsAnswerToDemo Write = Unit {0}
IsAnswerToDemo Disk = Unit {0}
IsAnswerToDemo Exists = Unit {0}
IsAnswerToDemo detail = ⊥

-- the table starts where the new log ends, with its accounts, a ring and slots as was asked, and the transfers are the generated ones
pub record IsPreparedDemo (n seed : ℕ) (options : RunOptions) (prepared : Prepared) : Type 0 where
  pub start : (key_of prepared.table).start ≡ 2 * GENERATED_ACCOUNTS
  pub accounts : (key_of prepared.table).accounts.rows ≡ generated_rows
  pub ring : (key_of prepared.table).ring ≡ options.ring
  pub slots : (key_of prepared.table).slots ≡ options.slots
  pub generated : AreGenerated n seed (jobs_of prepared.jobs.queue)
  pub workers_are : workers_of prepared.jobs ≡ options.workers
  pub ready : IsPrepared prepared

-- the log was made, and the transfers are ready to be run over it
pub record IsReadyDemo {D : Type 0} (g : Ghosts D) (n seed : ℕ) (options : RunOptions) (old new : D) (ready : ReadyRun) : Type 0 where
  pub log : IsOpened g new ready.tail generated_opening ready.prepared.jobs.queue.first (key_of ready.prepared.table)
  pub place : ready.tail.at ≡ generated_end
  pub ring : (key_of ready.prepared.table).ring ≡ options.ring
  pub generated : AreGenerated n seed (jobs_of ready.prepared.jobs.queue)
  pub workers_are : workers_of ready.prepared.jobs ≡ options.workers
  pub prepared : IsPrepared ready.prepared
  pub made : g.honest old → OnlyMakes g old new
