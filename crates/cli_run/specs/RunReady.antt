-- What stands before the first transfer of a run, and why there may be none. `g` is what a disk shows; `old` and `new` are the disk before
-- and after, `left` and `left_new` what the input has left.
use Rattle.std.specs.Prelude.{◌≡◌, ◌≤◌, ◌⊎◌, ℕ, ◌+◌, List, length, Option}
use Rattle.command_line.specs.declared.options.RunOptions.{RunOptions}
use Rattle.log_disk.specs.Costs.{Costs}
use Rattle.log_disk.specs.Disk.{Leaves}
use Rattle.log_disk.specs.Lengths.{GrowsAtMostTo}
use Rattle.log_disk.specs.declared.disk.LogDisk.{Ghosts}
use Rattle.segment_file.specs.StandingLog.{LogStandsAt}
use Rattle.log_record.specs.declared.limits.TheConstants.{LAST_TXN}
use Rattle.log_recovery.specs.declared.recovery.Recovered.{Recovered}
use Rattle.log_recovery.specs.Opened.{OpenedList, log_of}
use Rattle.log_recovery.specs.Recovery.{HoldsLawful}
use Rattle.log_table.specs.Seats.{key_of}
use Rattle.lock_core.specs.declared.job.Job.{Job}
use Rattle.cli_shared.specs.Opening.{OnlyLooks, Opens, most_calls}
use Rattle.cli_shared.specs.Scripts.{IsWholeScript}
use Rattle.cli_shared.specs.declared.report.Detail.{Detail}
use Rattle.cli_shared.specs.declared.report.Detail.TheVariants.{NoMemory, Script, Read, Disk, NotALog, BadSnapshot, BadBatch, BadRec, Unlawful, TxnEnd}
use Rattle.job_queue.specs.Passes.{jobs_of, workers_of}
use Rattle.cli_threads.specs.declared.transfers.ReadyRun.{ReadyRun}
use Rattle.cli_threads.specs.declared.transfers.Prepared.{Prepared}
use Rattle.cli_threads.specs.Prepared.{IsPrepared}
use Rattle.cli_run.specs.RunAnswers.{AnswersRun, AreAsked}
use Rattle.cli_shared.specs.Outside.{outside}
use Rattle.cli_threads.specs.Transferred.{IsOpened}

-- the table starts where the opened log ends, with its accounts, a ring and slots as was asked, and these are the transfers, for as many
-- workers as were asked for
pub record IsPreparedFor (options : RunOptions) (opened : Recovered) (script : List Job) (prepared : Prepared) : Type 0 where
  pub start : (key_of prepared.table).start ≡ opened.lsn
  pub accounts : (key_of prepared.table).accounts ≡ opened.accounts
  pub ring : (key_of prepared.table).ring ≡ options.ring
  pub slots : (key_of prepared.table).slots ≡ options.slots
  pub script_is : prepared.jobs.queue.script ≡ script
  pub first : prepared.jobs.queue.first ≡ opened.next_txn
  pub workers_are : workers_of prepared.jobs ≡ options.workers
  pub ready : IsPrepared prepared

-- The log was opened, the disk only looked at, and the whole input is a script of transfers over the log, which have numbers.
pub record HasRead {D : Type 0} (g : Ghosts D) (opened : Recovered) (script : List Job) (old new : D) (left left_new : Option (List ℕ))
    : Type 0 where
  pub opens : Opens g opened old new
  pub looks : g.honest old → OnlyLooks g old new
  pub whole : IsWholeScript (length opened.accounts.rows) left left_new script
  pub numbered : opened.next_txn + length script ≤ LAST_TXN

-- The transfers that are asked are ready to be made over the log that was opened. Each image of a moment is one of before or holds its
-- list. The file that a read gave goes on at the tail, and grew by no more than the gate there.
pub record IsReadyFor {D : Type 0} (g : Ghosts D) (options : RunOptions) (old new : D) (left left_new : Option (List ℕ)) (ready : ReadyRun)
    : Type 0 where
  pub opened : OpenedList
  pub held : g.honest old → HoldsLawful (g.reads old) opened
  pub log : IsOpened g new ready.tail opened ready.prepared.jobs.queue.first (key_of ready.prepared.table)
  pub asked : AreAsked opened left left_new (jobs_of ready.prepared.jobs.queue)
  pub workers_are : workers_of ready.prepared.jobs ≡ options.workers
  pub ring : (key_of ready.prepared.table).ring ≡ options.ring
  pub slots : (key_of ready.prepared.table).slots ≡ options.slots
  pub prepared : IsPrepared ready.prepared
  pub images : g.honest old → Leaves g.moment g.images_since (λ bytes. g.images old bytes ⊎ HoldsLawful bytes opened) old new
  pub count : g.honest old → Costs g 3 (most_calls g old + 3) old new
  pub stands : g.honest old → LogStandsAt ready.tail (log_of opened) (g.reads old)
  pub grows : g.honest old → GrowsAtMostTo g (ready.tail.at + 1) old new

-- there is no run, which is answered so, whatever the options are and whatever is known of the output
abbrev pub HasNoRun : {D : Type 0} → Ghosts D → D → D → Option (List ℕ) → Option (List ℕ) → Detail → Type 0
HasNoRun g old new left left_new detail = (options : RunOptions) (text : Option (List ℕ))
    → AnswersRun g options (outside old left text) (outside new left_new text) detail

-- the answers that come before any transfer
abbrev pub IsBeforeRun : Detail → Type 0
IsBeforeRun NoMemory = Unit {0}
IsBeforeRun (Script line) = Unit {0}
IsBeforeRun Read = Unit {0}
IsBeforeRun Disk = Unit {0}
IsBeforeRun NotALog = Unit {0}
IsBeforeRun BadSnapshot = Unit {0}
IsBeforeRun (BadBatch offset) = Unit {0}
IsBeforeRun (BadRec lsn) = Unit {0}
IsBeforeRun (Unlawful lsn why) = Unit {0}
IsBeforeRun (TxnEnd first count) = Unit {0}
IsBeforeRun detail = ⊥
