-- Runs by two workers, on a disk and a sink that are plain data. Each transfer is 30 from account 0 to account 1. One run makes one of them
-- over the log of two accounts, of balances 100 and 0; the other has three, over a log that has no room for any.
use Rattle.std.specs.Prelude.{◌≡◌, ◌≤◌, ℕ, zero, suc, ◌*◌, List, [], ◌∷◌, ◌++◌, Some, None, ⊤}
use Rattle.log_disk.specs.declared.disk.LogDisk.{Ghosts}
use Rattle.log_disk.specs.declared.sink.Sink.{Ghosts as SinkGhosts}
use Rattle.log_record.specs.LogList.{units_of}
use Rattle.lock_core.specs.Witness.{genesis_log, transfer_records}
use Rattle.log_recovery.specs.Opened.{OpenedList, whole_list}
use Rattle.segment_file.specs.File.{written}
use Rattle.segment_file.specs.declared.layout.TheConstants.{CLOSED}
use Rattle.lock_core.specs.declared.job.Job.{Job}
use Rattle.log_rule.specs.declared.start.Start.{Start}
use Rattle.log_rule.specs.declared.view.View.{View}
use Rattle.log_rule.specs.ClosedLog.{records_of}
use Rattle.commit_pipeline.specs.declared.daemon.Daemon.{Daemon}
use Rattle.commit_pipeline.specs.EndLines.{done_line}
use Rattle.txn_jobs.specs.declared.cause.Cause.TheVariants.{LogEnd}
use Rattle.txn_jobs.specs.declared.cause.Worked.TheVariants.{All, Cut}
use Rattle.txn_jobs.specs.Places.{NumberedJobs}
use Rattle.cli_threads.specs.Shares.{Share}
use Rattle.cli_threads.specs.Transferred.{HasTransferred}

abbrev pub payment : Job
payment = record { legs = (0, 1, 30) ∷ []; note = None }

-- the log's file at first, and from moment 1 on with the transfer's records
abbrev pub file_at : ℕ → List ℕ
file_at zero = written (units_of genesis_log ∷ []) ++ CLOSED ∷ []
file_at (suc moment) = written (units_of genesis_log ∷ units_of transfer_records ∷ []) ++ CLOSED ∷ []

-- a disk that is a moment, at which a crash leaves this file
abbrev pub plain_disk : (ℕ → List ℕ) → Ghosts ℕ
plain_disk file = record {
  honest = λ moment. ⊤;
  reads = file;
  images = λ moment bytes. bytes ≡ file moment;
  moment = λ moment. moment;
  images_since = λ now from bytes. (moment : ℕ) × (from ≤ moment) × (moment ≤ now) × (bytes ≡ file moment);
  written_count = λ moment. 4 * moment;
  calls = λ moment. 4 * moment;
  attached = λ moment. None;
  faults = λ moment. 0;
}

-- a sink that is the bytes that it holds
abbrev pub plain_sink : SinkGhosts (List ℕ)
plain_sink = record { held_bytes = λ bytes. Some bytes; faults = λ bytes. 0 }

-- a daemon over the two
abbrev pub PlainDaemon : (ℕ → List ℕ) → Type 0
PlainDaemon file = Daemon ℕ (List ℕ) (plain_disk file) plain_sink

-- The run was made and told, over the table of this daemon, by two workers: the first made the transfer, and the second found none left.
pub record HasMadePayment (d : PlainDaemon file_at) : Type 0 where
  pub jobs : NumberedJobs
  pub front : ℕ
  pub shares : List Share
  pub key : Start
  pub old : PlainDaemon file_at
  pub new : PlainDaemon file_at
  pub view : View
  pub rows : List (ℕ × ℕ)
  pub known : HasTransferred (plain_disk file_at) plain_sink (whole_list genesis_log) jobs front shares key old new view 9 rows
  pub table : old.flusher.table ≡ d.flusher.table
  pub ring : key.ring ≡ d.flusher.table.now.ring
  pub slots : key.slots ≡ d.flusher.table.now.slots
  pub script : jobs.script ≡ payment ∷ []
  pub shared : shares ≡ record { taken = 0 ∷ []; worked = All } ∷ record { taken = []; worked = All } ∷ []
  pub list : records_of view.entries ≡ transfer_records
  pub fine : new.fault ≡ None
  pub text : new.sink.now ≡ done_line 1 9

-- With so many slots each of two workers was cut off at the end of the log in the transfer that it took, and the third was left.
pub record HasHitLogEnd (slots : ℕ) : Type 0 where
  pub file : List ℕ
  pub opened : OpenedList
  pub jobs : NumberedJobs
  pub front : ℕ
  pub shares : List Share
  pub key : Start
  pub old : PlainDaemon (λ moment. file)
  pub new : PlainDaemon (λ moment. file)
  pub view : View
  pub lsn : ℕ
  pub rows : List (ℕ × ℕ)
  pub known : HasTransferred (plain_disk (λ moment. file)) plain_sink opened jobs front shares key old new view lsn rows
  pub slots_are : key.slots ≡ slots
  pub script : jobs.script ≡ payment ∷ payment ∷ payment ∷ []
  pub taken : front ≡ 2
  pub shared : shares ≡ record { taken = 0 ∷ []; worked = Cut (LogEnd lsn 2) } ∷ record { taken = 1 ∷ []; worked = Cut (LogEnd lsn 2) } ∷ []
  pub fine : new.fault ≡ None
