-- What is promised of transfers that have ended, in the words of what came of them.
use Rattle.std.proofs.Common.{Bool, ◌≡◌, ◌≢◌, ◌↔◌, ◌<◌, ◌∙◌, ap, sym, subst, refl, ℕ, zero, suc, List, [], ◌∷◌, ◌++◌, length, map, get_or, None, Some, arith, inl, inr}
use Rattle.std.specs.List.{AllByRecursion}
use Rattle.std.proofs.lemmas.List.{length-map}
use Rattle.std.proofs.lemmas.List.Elements.{All-head, All-tail}
use mathlib.Core.Option.{some}
use lib.ListN.{get_elem?}
use Rattle.log_disk.specs.declared.disk.LogDisk.{Ghosts}
use Rattle.log_disk.specs.declared.sink.Sink.{Ghosts as SinkGhosts}
use Rattle.log_disk.specs.Faults.{CountsWhere, raised}
use Rattle.log_disk.specs.Streams.{AppendsPrefix, AppendsPart}
use Rattle.log_record.specs.declared.rec.Rec.{Rec}
use Rattle.log_recovery.specs.Opened.{OpenedList, list_end, base_left}
use Rattle.lock_core.specs.Serial.{IsPartlySerialAfter, IsSerialAfter}
use Rattle.lock_core.specs.AccountRows.{KeepsRows}
use Rattle.segment_file.specs.declared.scan_result.Tail.{Tail}
use Rattle.log_rule.specs.ClosedLog.{records_of}
use Rattle.log_table.specs.Seats.{key_of}
use Rattle.daemon_turn.specs.declared.fault.DaemonFault.{DaemonFault}
use Rattle.daemon_turn.specs.declared.fault.DaemonFault.TheVariants.{DiskFault, WriteFault}
use Rattle.end_lines.specs.declared.tally.Tally.{Tally}
use Rattle.end_lines.specs.declared.voice.Voice.{Voice}
use Rattle.end_lines.specs.declared.voice.Voice.TheVariants.{Lines}
use Rattle.commit_pipeline.specs.EndLines.{done_in, refused_in, text_of}
use Rattle.commit_pipeline.specs.Later.{HasReason, StopTells}
use Rattle.commit_pipeline.proofs.RanLemmas.{none≢some}
use Rattle.txn_jobs.specs.declared.cause.Cause.TheVariants as cause
use Rattle.txn_jobs.specs.declared.cause.Worked.{Worked}
use Rattle.txn_jobs.specs.declared.cause.Worked.TheVariants as worked
use Rattle.cli_shared.specs.declared.report.Detail.{Detail}
use Rattle.cli_shared.specs.declared.report.Detail.TheVariants.{Fine, NoMemory, Usage, Script, Read, Write, Disk, NotALog, BadSnapshot, BadBatch}
use Rattle.cli_shared.specs.declared.report.Detail.TheVariants.{BadRec, Unlawful, LogEnd, TxnEnd, Exists, NoSuchLsn, BadStream, Gap, StreamUnlawful}
use Rattle.cli_shared.specs.declared.report.Detail.TheVariants.{NoAccount}
use Rattle.cli_ending.specs.declared.conclusion.RunEnd.{RunEnd}
use Rattle.cli_ending.specs.Conclusion.{AreWhole, Concludes, NoneStopped, NothingStopped, StoppedAs, IsFirstLogEnd}
use Rattle.cli_threads.specs.declared.transfers.Prepared.{Prepared}
use Rattle.cli_threads.specs.Ending.{HasEnded}
use Rattle.cli_threads.specs.Run.{RunKeepsLog, RunIsDrained, RunsWhole}
use Rattle.cli_threads.specs.RunStops.{StopsAtLogEnd}
use Rattle.job_queue.specs.Passes.{jobs_of, workers_of}
use Rattle.txn_jobs.specs.Places.{NumberedJobs}
use Rattle.cli_threads.specs.Shares.{Share, sharing_of}
use Rattle.cli_threads.specs.Sharing.{IsSharedOut, Sharing}
use Rattle.cli_threads.proofs.RunLemmas.{transferred-sends_by, transferred-partly_serial_after, transferred-keeps_rows, transferred-serial_after}
use Rattle.cli_threads.proofs.RunLemmas.{transferred-tally_counted, transferred-keeps_log, transferred-drained, transferred-runs_whole}
use Rattle.cli_threads.proofs.RunLemmas.{transferred-stops_at_log_end, transferred-no_stop_cut, transferred-has_reason, transferred-same_daemon}
use Rattle.cli_threads.proofs.RunHistory.{later_of}
use Rattle.cli_threads.proofs.RunPlaces.{tasks_of}

abbrev work_of : Share → Worked
work_of share = share.worked

-- the k-th worker's share
share-at : (shares : List Share) (k : ℕ) (other : Worked) → k < length shares
    → (share : Share) × (get_elem? shares k ≡ some share) × (get_or (map work_of shares) k other ≡ share.worked)
share-at [] k other below = absurd (omega arith)
share-at (share ∷ shares) zero other below = (share, refl, refl)
share-at (share ∷ shares) (suc k) other below = share-at shares k other (omega arith)

all-whole : (shares : List Share) → AreWhole (map work_of shares) → AllByRecursion (λ (share : Share). share.worked ≡ worked.All) shares
all-whole [] whole = tt
all-whole (share ∷ shares) whole = (
  All-head (λ end. end ≡ worked.All) share.worked (map work_of shares) whole,
  all-whole shares (All-tail (λ end. end ≡ worked.All) share.worked (map work_of shares) whole),
)

-- what stands behind a list
get_or-behind : (below above : List Worked) (end other : Worked) → get_or (below ++ end ∷ above) (length below) other ≡ end
get_or-behind [] above end other = refl
get_or-behind (first ∷ below) above end other = get_or-behind below above end other

length-behind : (below above : List Worked) (end : Worked) → length below < length (below ++ end ∷ above)
length-behind [] above end = omega arith
length-behind (first ∷ below) above end = let shorter = length-behind below above end in omega arith

-- what is concluded is Disk, Write where something stopped the transfers or the text could not be written whole, Fine or LogEnd
module _ {K : Type 0} (h : SinkGhosts K) (ended : RunEnd) (text : List ℕ) (old new : K) (P : Detail → Type 0)
    (disk : Concludes h ended text old new Disk → P Disk) (stopped : StoppedAs ended Write × (new ≡ old) → P Write)
    (cut : NothingStopped ended × AppendsPart (h.held_bytes old) (h.held_bytes new) text → P Write)
    (fine : Concludes h ended text old new Fine → P Fine)
    (log_end : (tail total : ℕ) → Concludes h ended text old new (LogEnd tail total) → P (LogEnd tail total)) where
  pub Concludes-cases : (detail : Detail) → Concludes h ended text old new detail → P detail
  Concludes-cases Disk said = disk said
  Concludes-cases Write (inl said) = stopped said
  Concludes-cases Write (inr said) = cut said
  Concludes-cases Fine said = fine said
  Concludes-cases (LogEnd tail total) said = log_end tail total said
  Concludes-cases NoMemory said = absurd said
  Concludes-cases Usage said = absurd said
  Concludes-cases (Script line) said = absurd said
  Concludes-cases Read said = absurd said
  Concludes-cases NotALog said = absurd said
  Concludes-cases BadSnapshot said = absurd said
  Concludes-cases (BadBatch offset) said = absurd said
  Concludes-cases (BadRec lsn) said = absurd said
  Concludes-cases (Unlawful lsn why) said = absurd said
  Concludes-cases (TxnEnd first count) said = absurd said
  Concludes-cases Exists said = absurd said
  Concludes-cases (NoSuchLsn lsn) said = absurd said
  Concludes-cases (BadStream offset) said = absurd said
  Concludes-cases (Gap have from) said = absurd said
  Concludes-cases (StreamUnlawful lsn why) said = absurd said
  Concludes-cases (NoAccount account) said = absurd said

module _ {D : Type 0} {K : Type 0} (g : Ghosts D) (h : SinkGhosts K) (prepared : Prepared) (opened : OpenedList) (voice : Voice)
    {tail : Tail} {wait : Bool} (disk disk_new : D) (sink sink_new : K) (ended : RunEnd)
    (has : HasEnded g h prepared opened tail voice wait disk disk_new sink sink_new ended) where
  abbrev pub list : List Rec
  list = records_of has.view.entries

  abbrev jobs : NumberedJobs
  jobs = jobs_of prepared.jobs.queue

  -- which worker took which transfers
  abbrev pub sharing : Sharing
  sharing = sharing_of has.front has.shares

  pub ended-shared_out : IsSharedOut (workers_of prepared.jobs) jobs sharing
  ended-shared_out = subst (λ n. IsSharedOut n jobs sharing) has.count has.transferred.workers.sharing

  pub ended-keeps_log : RunKeepsLog g voice opened jobs sharing list tail.at (key_of prepared.table).ring disk disk_new (h.held_bytes sink)
      (h.held_bytes sink_new)
  ended-keeps_log = rw (← has.speaks, ← has.tail_is, ← has.disk_old, ← has.disk_is, ← has.sink_old, ← has.sink_is)
      (transferred-keeps_log g h opened jobs has.front has.shares (key_of prepared.table) has.first has.last has.view ended.closed.tail
      ended.closed.accounts.rows has.transferred)

  pub ended-runs_whole : AreWhole ended.ends.items → RunsWhole opened jobs list
  ended-runs_whole all = transferred-runs_whole g h opened jobs has.front has.shares (key_of prepared.table) has.first has.last has.view ended.closed.tail
      ended.closed.accounts.rows has.transferred (all-whole has.shares (subst AreWhole (sym has.ends) all))

  -- what was written of the transfers, whatever befell the daemon
  pub ended-text_prefix : (more : List Rec) × AppendsPrefix (h.held_bytes sink) (h.held_bytes sink_new) (text_of voice (list_end opened) more)
  ended-text_prefix =
      let sent = transferred-sends_by g h opened jobs has.front has.shares (key_of prepared.table) has.first has.last has.view ended.closed.tail
      ended.closed.accounts.rows has.transferred in
      (sent.more, rw (← has.speaks, ← has.sink_old, ← has.sink_is) sent.text)

  pub ended-partly_serial_after : IsPartlySerialAfter (base_left opened) (tasks_of jobs) (later_of opened list)
  ended-partly_serial_after = transferred-partly_serial_after g h opened jobs has.front has.shares (key_of prepared.table) has.first has.last has.view ended.closed.tail
      ended.closed.accounts.rows has.transferred

  pub ended-keeps_rows : KeepsRows ended.closed.accounts.rows (base_left opened) (later_of opened list)
  ended-keeps_rows = transferred-keeps_rows g h opened jobs has.front has.shares (key_of prepared.table) has.first has.last has.view ended.closed.tail
      ended.closed.accounts.rows has.transferred

  pub ended-serial_after : AreWhole ended.ends.items → IsSerialAfter (base_left opened) (tasks_of jobs) (later_of opened list)
  ended-serial_after all = transferred-serial_after g h opened jobs has.front has.shares (key_of prepared.table) has.first has.last has.view ended.closed.tail
      ended.closed.accounts.rows has.transferred (all-whole has.shares (subst AreWhole (sym has.ends) all))

  -- what befell the daemon, and what was counted then
  reason-ended : HasReason g h has.first has.last
  reason-ended = transferred-has_reason g h opened jobs has.front has.shares (key_of prepared.table) has.first has.last has.view ended.closed.tail
      ended.closed.accounts.rows has.transferred

  disk-ended : CountsWhere (ended.fault ≡ Some DiskFault) (g.faults disk) (g.faults disk_new)
  disk-ended = rw (← has.disk_old, ← has.disk_is, ← has.fault) reason-ended.disk

  sink-ended : CountsWhere (ended.fault ≡ Some WriteFault) (h.faults sink) (h.faults sink_new)
  sink-ended = rw (← has.sink_old, ← has.sink_is, ← has.fault) reason-ended.sink

  pub write_fault-voice_lines : ended.fault ≡ Some WriteFault → voice ≡ Lines
  write_fault-voice_lines fault = sym has.speaks ∙ (subst (StopTells has.first has.last) (has.fault ∙ fault) reason-ended.stop).1

  -- the disk is as honest as it was
  pub ended-same_honest : g.honest disk ↔ g.honest disk_new
  ended-same_honest = rw (← has.disk_old, ← has.disk_is) (transferred-same_daemon g h opened jobs has.front has.shares (key_of prepared.table) has.first has.last
      has.view ended.closed.tail ended.closed.accounts.rows has.transferred).flusher.honest

  -- and has the same file attached
  pub ended-same_attached : g.attached disk_new ≡ g.attached disk
  ended-same_attached = rw (← has.disk_old, ← has.disk_is) (transferred-same_daemon g h opened jobs has.front has.shares (key_of prepared.table) has.first has.last
      has.view ended.closed.tail ended.closed.accounts.rows has.transferred).flusher.attached

  module _ (fine : ended.fault ≡ None) where
    pub ended-drained : RunIsDrained g voice opened list tail.at (key_of prepared.table).ring disk disk_new (h.held_bytes sink)
        (h.held_bytes sink_new) ended.closed.tail ended.closed.accounts.rows
    ended-drained = rw (← has.speaks, ← has.tail_is, ← has.disk_old, ← has.disk_is, ← has.sink_old, ← has.sink_is)
        (transferred-drained g h opened jobs has.front has.shares (key_of prepared.table) has.first has.last has.view ended.closed.tail
        ended.closed.accounts.rows has.transferred (has.fault ∙ fine))

    -- each end record was counted
    pub ended-counted : (ended.done ≡ done_in list) × (ended.refused ≡ refused_in list)
    ended-counted =
        let all = transferred-tally_counted g h opened jobs has.front has.shares (key_of prepared.table) has.first has.last has.view ended.closed.tail
        ended.closed.accounts.rows has.transferred (has.fault ∙ fine) in
        let done = ap (λ (t : Tally). t.done) all in
        let refused = ap (λ (t : Tally). t.refused) all in
        (omega (arith, done, has.done_is, has.none_counted.0), omega (arith, refused, has.refused_is, has.none_counted.1))

    pub ended-none_stopped : NoneStopped ended.ends.items
    ended-none_stopped = subst NoneStopped has.ends each
      where
        each : NoneStopped (map work_of has.shares)
        each k other below word at =
            let found = share-at has.shares k other (omega (arith, below, length-map has.shares work_of)) in
            let stopped : found.0.worked ≡ worked.Cut (cause.Stop word) = sym found.2 ∙ at in
            transferred-no_stop_cut g h opened jobs has.front has.shares (key_of prepared.table) has.first has.last has.view ended.closed.tail
            ended.closed.accounts.rows has.transferred (has.fault ∙ fine) k found.0.taken word
            (found.1 ∙ (λ i. some (record { taken = found.0.taken; worked = stopped i })))

    pub ended-stops_at_log_end : (tail total : ℕ) → IsFirstLogEnd ended.ends.items tail total
        → StopsAtLogEnd opened jobs sharing list (key_of prepared.table).ring (key_of prepared.table).slots tail total
    ended-stops_at_log_end tail total first =
        let ends = has.ends ∙ first.whole in
        let counted = ap length ends in
        let found = share-at has.shares (length first.below) worked.All
        (omega (arith, counted, length-map has.shares work_of, length-behind first.below first.above (worked.Cut (cause.LogEnd tail total)))) in
        let stopped : found.0.worked ≡ worked.Cut (cause.LogEnd tail total) =
        sym found.2 ∙ ap (λ list. get_or list (length first.below) worked.All) ends ∙ get_or-behind first.below first.above _ worked.All in
        transferred-stops_at_log_end g h opened jobs has.front has.shares (key_of prepared.table) has.first has.last has.view ended.closed.tail
        ended.closed.accounts.rows has.transferred (has.fault ∙ fine) (length first.below) found.0.taken tail total
        (found.1 ∙ (λ i. some (record { taken = found.0.taken; worked = stopped i })))

  -- what was counted where a fault is answered, and elsewhere
  module _ (text : List ℕ) (sink_end : K) where
    none-failed : (fault : DaemonFault) → ended.fault ≡ None → ended.fault ≢ Some fault
    none-failed fault none failed = none≢some fault (sym none ∙ failed)

    pub Concludes-counts_disk : (detail : Detail) → Concludes h ended text sink_new sink_end detail
        → CountsWhere (detail ≡ Disk) (g.faults disk) (g.faults disk_new)
    Concludes-counts_disk = Concludes-cases h ended text sink_new sink_end (λ detail. CountsWhere (detail ≡ Disk) (g.faults disk) (g.faults disk_new))
        (λ said. record { counted = λ _. disk-ended.counted said.0; fine = λ other. absurd (other refl) })
        (λ said. let cut = said.0 in record { counted = λ same. cc; fine = λ _. disk-ended.fine (λ failed. absurd cc) })
        (λ said. record { counted = λ same. cc; fine = λ _. disk-ended.fine (none-failed DiskFault said.0.0) })
        (λ said. record { counted = λ same. cc; fine = λ _. disk-ended.fine (none-failed DiskFault said.0.0) })
        (λ tail total said. record { counted = λ same. cc; fine = λ _. disk-ended.fine (none-failed DiskFault said.0.0) })

    pub Concludes-counts_write : (detail : Detail) → Concludes h ended text sink_new sink_end detail
        → CountsWhere ((detail ≡ Write) × (ended.fault ≡ None)) (h.faults sink_new) (h.faults sink_end)
        → CountsWhere (detail ≡ Write) (h.faults sink) (h.faults sink_end)
    Concludes-counts_write = Concludes-cases h ended text sink_new sink_end
        (λ detail. CountsWhere ((detail ≡ Write) × (ended.fault ≡ None)) (h.faults sink_new) (h.faults sink_end)
        → CountsWhere (detail ≡ Write) (h.faults sink) (h.faults sink_end))
        (λ said last. let cut = said.0 in record {
          counted = λ same. cc;
          fine = λ _. last.fine (λ both. absurd cc) ∙ sink-ended.fine (λ failed. absurd cc);
        })
        (λ said last. record {
          counted = λ _. last.fine (λ both. none-failed WriteFault both.1 said.0) ∙ sink-ended.counted said.0;
          fine = λ other. absurd (other refl);
        })
        (λ said last. record {
          counted = λ same. last.counted (same, said.0.0) ∙ ap raised (sink-ended.fine (none-failed WriteFault said.0.0));
          fine = λ other. absurd (other refl);
        })
        (λ said last. record {
          counted = λ same. cc;
          fine = λ other. last.fine (λ both. other both.0) ∙ sink-ended.fine (none-failed WriteFault said.0.0);
        })
        (λ tail total said last. record {
          counted = λ same. cc;
          fine = λ other. last.fine (λ both. other both.0) ∙ sink-ended.fine (none-failed WriteFault said.0.0);
        })
