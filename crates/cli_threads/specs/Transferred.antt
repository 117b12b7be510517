-- What a run goes on from, and what is known of it once all seats are gathered: from that follows all that a run promises.
use Rattle.std.specs.Prelude.{◌≡◌, ℕ, ◌+◌, ◌*◌, ◌^◌, ◌<◌, ◌≤◌, List, length, None}
use Rattle.std.specs.List.{AllByRecursion}
use Rattle.log_disk.specs.declared.disk.LogDisk.{Ghosts}
use Rattle.log_disk.specs.declared.sink.Sink.{Ghosts as SinkGhosts}
use Rattle.log_record.specs.Spelling.{IsSpellable}
use Rattle.lock_core.specs.Lawful.{IsLawful}
use Rattle.lock_core.specs.Sums.{BeginsInRange, ShowsAccounts}
use Rattle.log_recovery.specs.Opened.{OpenedList, log_of, list_end, placed, opening_before, base_in, opening_left}
use Rattle.segment_file.specs.StandingLog.{LogStands, IsShut}
use Rattle.segment_file.specs.declared.scan_result.Tail.{Tail}
use Rattle.log_rule.specs.declared.start.Start.{Start}
use Rattle.log_rule.specs.declared.view.View.{View}
use Rattle.log_rule.specs.ClosedLog.{IsGathered, HasLedger}
use Rattle.log_rule.specs.Members.{IsRefusalOf}
use Rattle.log_table.specs.Seats.{view_of}
use Rattle.log_rule.specs.Sends.{IsDrained}
use Rattle.log_rule.specs.Sound.{base_of}
use Rattle.log_rule.specs.Views.{constants_of}
use Rattle.commit_pipeline.specs.declared.daemon.Daemon.{Daemon}
use Rattle.commit_pipeline.specs.Later.{Later}
use Rattle.commit_pipeline.specs.Turning.{IsMade}
use Rattle.txn_jobs.specs.Places.{NumberedJobs}
use Rattle.cli_threads.specs.Shares.{Share, HasGathered}

-- Each image stands at the tail with the opened list, which is lawful and has no transaction from the first number on, and nor has what
-- stands before it. The table is made to start at its end, with its accounts.
pub record IsOpened {D : Type 0} (g : Ghosts D) (disk : D) (tail : Tail) (opened : OpenedList) (first : ℕ) (key : Start) : Type 0 where
  pub spellable : AllByRecursion IsSpellable opened.records
  pub lawful : IsLawful (opening_before opened) (placed opened)
  pub range : BeginsInRange (opening_before opened).state
  pub some_accounts : 0 < (base_in opened).accounts
  pub below : (opening_left opened).txn < first
  pub stand : g.honest disk → LogStands tail (log_of opened) (g.images disk)
  pub shut : g.honest disk → IsShut tail.at (g.images disk)
  pub next : tail.next ≡ list_end opened
  pub place : tail.at ≤ 2 ^ 63 + 16 * tail.next
  pub start : key.start ≡ list_end opened
  pub accounts : ShowsAccounts key.accounts.rows (base_in opened) (placed opened)

-- the daemon was made just now, and its seat is the first of a table that was made with this key
pub record IsFresh {D : Type 0} {g : Ghosts D} {K : Type 0} {h : SinkGhosts K} (key : Start) (d : Daemon D K g h) : Type 0 where
  pub constants : (view_of d.flusher.seat).constants ≡ constants_of key
  pub made : IsMade d
  pub stop : (view_of d.flusher.seat).sending.stop ≡ 0
  pub fine : d.fault ≡ None

-- The run went on from the opened log. Turns led from the one daemon to the other, whose seat then took in all workers' seats, which
-- left it with this view. Then the table was closed, with this end of the log and these rows. A group of whose refusal a worker heard
-- was one of these workers.
pub record HasTransferred {D : Type 0} {K : Type 0} (g : Ghosts D) (h : SinkGhosts K) (opened : OpenedList) (jobs : NumberedJobs) (front : ℕ)
    (shares : List Share) (key : Start) (old new : Daemon D K g h) (view : View) (lsn : ℕ) (rows : List (ℕ × ℕ)) : Type 0 where
  pub log : IsOpened g old.flusher.disk.now old.flusher.tail opened jobs.first key
  pub fresh : IsFresh key old
  pub later : Later g h old new
  pub sending : view.sending ≡ (view_of new.flusher.seat).sending
  pub constants : view.constants ≡ (view_of new.flusher.seat).constants
  pub drained : new.fault ≡ None → IsDrained view
  pub workers : HasGathered jobs front shares view
  pub gathered : IsGathered lsn view
  pub accounts : HasLedger (base_of key) view rows
  pub heard : AllByRecursion (IsRefusalOf (length shares)) view.seen.refusals
