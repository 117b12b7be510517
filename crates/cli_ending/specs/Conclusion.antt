-- What the program answers once the transfers of a run have ended. `h` is what a sink shows.
use Rattle.std.specs.Prelude.{◌≡◌, ◌⊎◌, ℕ, List, ◌∷◌, ◌++◌, All, Some, None}
use Rattle.std.specs.Io.KnownBytes.{Appends}
use Rattle.log_disk.specs.Faults.{CountsWhere}
use Rattle.log_disk.specs.Streams.{AppendsPart}
use Rattle.log_disk.specs.declared.sink.Sink.{Ghosts as SinkGhosts}
use Rattle.log_recovery.specs.Text.{rows_text}
use Rattle.daemon_turn.specs.declared.fault.DaemonFault.TheVariants.{DiskFault, WriteFault}
use Rattle.txn_jobs.specs.declared.cause.Cause.TheVariants as cause
use Rattle.txn_jobs.specs.declared.cause.Worked.{Worked}
use Rattle.txn_jobs.specs.declared.cause.Worked.TheVariants as worked
use Rattle.cli_shared.specs.declared.report.Detail.{Detail}
use Rattle.cli_shared.specs.declared.report.Detail.TheVariants.{Fine, Write, Disk, LogEnd}
use Rattle.run_plan.specs.Summary.{summary_of}
use Rattle.cli_ending.specs.declared.conclusion.RunEnd.{RunEnd}

-- all workers came to the end of the queue
abbrev pub AreWhole : List Worked → Type 0
AreWhole ends = All (λ end. end ≡ worked.All) ends

-- no worker read a stop word
abbrev pub NoneStopped : List Worked → Type 0
NoneStopped ends = All (λ end. (word : ℕ) → end ≡ worked.Cut (cause.Stop word) → ⊥) ends

-- without a fault of the daemon none did: nothing else stops a worker then but the end of the log
abbrev pub MayConclude : RunEnd → Type 0
MayConclude ended = ended.fault ≡ None → NoneStopped ended.ends.items

-- the lowest worker that did not come to the end of the queue was cut off: it found no room for so many units behind this tail
pub record IsFirstLogEnd (ends : List Worked) (tail total : ℕ) : Type 0 where
  pub below : List Worked
  pub above : List Worked
  pub whole : ends ≡ below ++ worked.Cut (cause.LogEnd tail total) ∷ above
  pub all_whole : AreWhole below

-- why the transfers were stopped: the daemon's fault before all else, and then the end of the log that the lowest worker met
abbrev pub StoppedAs : RunEnd → Detail → Type 0
StoppedAs ended Disk = ended.fault ≡ Some DiskFault
StoppedAs ended Write = ended.fault ≡ Some WriteFault
StoppedAs ended (LogEnd tail total) = (ended.fault ≡ None) × IsFirstLogEnd ended.ends.items tail total
StoppedAs ended detail = ⊥

-- nothing stopped them
abbrev pub NothingStopped : RunEnd → Type 0
NothingStopped ended = (ended.fault ≡ None) × AreWhole ended.ends.items

-- What the program answers once the transfers have ended: why they were stopped; and where nothing stopped them, this text is written.
abbrev pub Concludes : {K : Type 0} → SinkGhosts K → RunEnd → List ℕ → K → K → Detail → Type 0
Concludes h ended text old new Disk = StoppedAs ended Disk × (new ≡ old)
Concludes h ended text old new Write =
    (StoppedAs ended Write × (new ≡ old)) ⊎ (NothingStopped ended × AppendsPart (h.held_bytes old) (h.held_bytes new) text)
Concludes h ended text old new (LogEnd tail total) = StoppedAs ended (LogEnd tail total) × (new ≡ old)
Concludes h ended text old new Fine = NothingStopped ended × Appends (h.held_bytes old) (h.held_bytes new) text
Concludes h ended text old new detail = ⊥

-- it was concluded, and one fault of the sink is counted just where the writing of that text failed
pub record HasConcluded {K : Type 0} (h : SinkGhosts K) (ended : RunEnd) (text : List ℕ) (old new : K) (detail : Detail) : Type 0 where
  pub concludes : Concludes h ended text old new detail
  pub write : CountsWhere ((detail ≡ Write) × (ended.fault ≡ None)) (h.faults old) (h.faults new)

-- the text of the accounts of the closed table
abbrev pub closed_text : RunEnd → List ℕ
closed_text ended = rows_text ended.closed.tail ended.closed.accounts.rows

-- the summary of so many transfers: what the daemon counted of them, and the accounts of the closed table
abbrev pub counted_text : ℕ → RunEnd → List ℕ
counted_text transfers ended = summary_of
    (record { transfers = transfers; done = ended.done; refused = ended.refused; lsn = ended.closed.tail }) ended.closed.accounts.rows
