-- What a run promises, from what is known once all seats are gathered.
use Rattle.std.proofs.Common.{◌≡◌, inl, inr, ⊎_elim, ◌≤◌, ℕ, ◌+◌, false, List, [], ◌++◌, length, map, None, refl, ap, ◌∙◌, sym, subst, arith, add-zero, append-nil, append_assoc, length-append}
use Rattle.std.specs.List.{AllByRecursion}
use Rattle.std.proofs.lemmas.List.Elements.{All-from_recursion}
use mathlib.Core.Option.{some}
use lib.ListN.{get_elem?}
use Rattle.lsn_space.proofs.TilingLemmas.{all-weaken, all-append}
use Rattle.log_disk.proofs.Moments.{Leaves-weaken}
use Rattle.log_disk.proofs.Counting.{Costs-weaken}
use Rattle.log_disk.proofs.Lengths.{GrowsAtMostTo-weaken}
use Rattle.log_disk.specs.declared.disk.LogDisk.{Ghosts}
use Rattle.log_disk.specs.declared.sink.Sink.{Ghosts as SinkGhosts}
use Rattle.log_record.specs.declared.rec.Rec.{Rec}
use Rattle.log_record.specs.LogList.{units_of, end_of}
use Rattle.log_record.specs.Spelling.{IsSpellable}
use Rattle.log_record.proofs.SpellingLemmas.{units_of-injective}
use Rattle.log_record.proofs.LogListLemmas.{units_of-append, end_of-append}
use Rattle.lock_core.specs.History.{history_from}
use Rattle.lock_core.specs.Lawful.{IsLawful}
use Rattle.lock_core.specs.Serial.{NumberedTransfer, IsPartlySerialAfter, IsSerialAfter}
use Rattle.lock_core.specs.AccountRows.{KeepsRows}
use Rattle.lock_core.specs.Sums.{as_opening, BaseState}
use Rattle.lock_core.proofs.ListLemmas.{all-split}
use Rattle.lock_core.proofs.SerialFronts.{partly_serial-all_ended_serial}
use Rattle.lock_core.proofs.SerialTasks.{partly_serial-more}
use Rattle.log_recovery.specs.Opened.{OpenedList, list_end, placed, with_records, base_left}
use Rattle.log_recovery.proofs.OpenedLemmas.{list_end-more}
use Rattle.log_recovery.proofs.TextLemmas.{AppendsPrefix-append}
use Rattle.segment_file.specs.Lengths.{most_end}
use Rattle.log_rule.specs.declared.start.Start.{Start}
use Rattle.log_rule.specs.declared.view.Constants.{Constants}
use Rattle.log_rule.specs.declared.view.Given.{Given}
use Rattle.log_rule.specs.declared.view.Sending.{Sending}
use Rattle.log_rule.specs.declared.view.View.{View}
use Rattle.log_rule.specs.Accounts.{WentBack}
use Rattle.log_rule.specs.Books.{task_of, times_taken}
use Rattle.log_rule.specs.ClosedLog.{records_of, IsLedger}
use Rattle.log_rule.specs.Log.{units_in}
use Rattle.log_table.specs.Seats.{view_of}
use Rattle.log_rule.specs.Sound.{base_of}
use Rattle.log_rule.specs.Views.{constants_of}
use Rattle.flusher.specs.Flushing.{sent_of}
use Rattle.commit_pipeline.specs.declared.daemon.Daemon.{Daemon}
use Rattle.commit_pipeline.specs.EndLines.{text_of}
use Rattle.daemon_turn.specs.declared.fault.DaemonFault.TheVariants.{WriteFault}
use Rattle.end_lines.specs.declared.tally.Tally.{Tally}
use Rattle.commit_pipeline.specs.Later.{Later, Ran, HasReason, StopTells, place_of, ring_of}
use Rattle.commit_pipeline.specs.Telling.{counted}
use Rattle.commit_pipeline.specs.Turning.{IsSameDaemon, durable}
use Rattle.commit_pipeline.proofs.RanLemmas.{Later-same_daemon, Later-reason, none≢some}
use Rattle.commit_pipeline.proofs.LineLemmas.{text_of-append}
use Rattle.txn_jobs.specs.declared.cause.Cause.TheVariants.{Stop, LogEnd}
use Rattle.txn_jobs.specs.declared.cause.Worked.TheVariants.{All, Cut}
use Rattle.txn_runner.specs.Places.{NumberedJobs}
use Rattle.cli_threads.specs.Run.{ComeInTurn, HasNoneBehind, HoldsRun, IsLeft, RunKeepsLog, RunIsDrained, RunsWhole}
use Rattle.cli_threads.specs.RunStops.{HadBalance, StopsAtLogEnd}
use Rattle.cli_threads.specs.Shares.{Share, all_taken, sharing_of}
use Rattle.cli_threads.specs.Sharing.{Sharing}
use Rattle.cli_threads.specs.Transferred.{HasTransferred}
use Rattle.cli_threads.proofs.RunBalances.{WentBack-had_balance}
use Rattle.cli_threads.proofs.RunEnds.{worked_all-has_end, no_stop_word-no_stop_cut, log_end_cut-stops_at_log_end}
use Rattle.cli_threads.proofs.RunHistory.{later_of}
use Rattle.cli_threads.proofs.RunImages.{HoldsBoth, HoldsSome, SendsBy, AreSentBy, SendsBy-refl, AreSentBy-refl, Ran-sent_units, Ran-read_units, Ran-sends_by, Ran-are_sent_by}
use Rattle.cli_threads.proofs.RunLedger.{base_of-base_left, later-shares_no_transaction, with_records-lawful, with_records-goes_on}
use Rattle.cli_threads.proofs.RunLedger.{has_end-runs_whole, KeepsRows-accounts_text, front-spellable, front-lawful, front-goes_on}
use Rattle.cli_threads.proofs.RunRecords.{records-spellable, units_in-records, units_front-records_front, tiling-end}
use Rattle.cli_threads.proofs.RunTurns.{front-in_turn, front-none_behind}
use Rattle.cli_threads.proofs.RunPlaces.{tasks_of, numbered-all, taken-once, taken-among_tasks, taken-or_not}

module _ {D : Type 0} {K : Type 0} (g : Ghosts D) (h : SinkGhosts K) (opened : OpenedList) (jobs : NumberedJobs) (front : ℕ)
    (shares : List Share) (key : Start) (old new : Daemon D K g h) (view : View) (lsn : ℕ) (rows : List (ℕ × ℕ))
    (known : HasTransferred g h opened jobs front shares key old new view lsn rows) where
  abbrev list : List Rec
  list = records_of view.entries

  abbrev base : BaseState
  base = base_left opened

  abbrev taken : List NumberedTransfer
  taken = map task_of (all_taken jobs shares)

  abbrev sharing : Sharing
  sharing = sharing_of front shares

  -- ---- the list

  list-spellable : AllByRecursion IsSpellable list
  list-spellable = records-spellable view.entries known.gathered.spelled

  spellable : AllByRecursion IsSpellable (opened.records ++ list)
  spellable = all-append IsSpellable opened.records list known.log.spellable list-spellable

  list-units : units_in view.entries ≡ units_of list
  list-units = units_in-records view.entries known.gathered.spelled

  once : (number : ℕ) → times_taken number view.books.jobs ≤ 1
  once number = subst (λ jobs. times_taken number jobs ≤ 1) (sym known.workers.taken)
      (taken-once jobs front shares known.workers.sharing number)

  ledger : IsLedger base (later_of opened list) taken rows
  ledger =
      let same = base_of-base_left opened key known.log.lawful known.log.start known.log.accounts in
      subst (λ from. IsLedger from (later_of opened list) taken rows) same
      (subst (λ end. IsLedger (base_of key) (history_from end [] list) taken rows) known.log.start
      (subst (λ jobs. IsLedger (base_of key) (history_from key.start [] list) (map task_of jobs) rows) known.workers.taken
      (known.accounts.ledger once)))

  -- each account that was given back uncommitted went back with the balance of a front
  went-back : AllByRecursion (WentBack base (later_of opened list)) view.books.given
  went-back =
      let same = base_of-base_left opened key known.log.lawful known.log.start known.log.accounts in
      subst (λ from. AllByRecursion (WentBack from (later_of opened list)) view.books.given) same
      (subst (λ end. AllByRecursion (WentBack (base_of key) (history_from end [] list)) view.books.given) known.log.start
      (known.accounts.given once))

  pub transferred-partly_serial_after : IsPartlySerialAfter base (tasks_of jobs) (later_of opened list)
  transferred-partly_serial_after = partly_serial-more base taken (tasks_of jobs) (later_of opened list)
      (taken-among_tasks jobs front shares known.workers.sharing)
      (numbered-all _ jobs.first jobs.script (λ place inside. taken-or_not jobs front shares known.workers.sharing place))
      ledger.serial

  lawful_after : IsLawful (as_opening base) (later_of opened list)
  lawful_after = ledger.lawful

  pub transferred-keeps_rows : KeepsRows rows base (later_of opened list)
  transferred-keeps_rows = ledger.accounts

  -- each worker's transfers come one behind another, in each front
  in_turn : (records rest : List Rec) → list ≡ records ++ rest → ComeInTurn jobs sharing (placed (with_records opened records))
  in_turn = front-in_turn opened jobs view known.log.below front shares known.workers ledger.serial.others lsn known.gathered

  -- and those that no worker took have no record
  none_behind : (records rest : List Rec) → list ≡ records ++ rest → HasNoneBehind jobs sharing (placed (with_records opened records))
  none_behind = front-none_behind opened jobs view known.log.below front shares known.workers ledger.serial.others lsn known.gathered

  -- ---- the turns

  start-old : durable old ≡ list_end opened
  start-old =
      let start = ap (λ (c : Constants). c.start) known.fresh.constants in let none = ap length known.fresh.made.unsent in
      omega (arith, start, none, known.log.start)

  ring-is : ring_of old ≡ key.ring
  ring-is = ap (λ (c : Constants). c.ring) known.fresh.constants

  constants-view : view.constants ≡ constants_of key
  constants-view = known.constants ∙ kept known.later ∙ known.fresh.constants
    where
      kept : Later g h old new → (view_of new.flusher.seat).constants ≡ (view_of old.flusher.seat).constants
      kept (inl is) = ap (λ (d : Daemon D K g h). (view_of d.flusher.seat).constants) is
      kept (inr ran) = ran.constants

  start-view : view.constants.start ≡ list_end opened
  start-view = ap (λ (c : Constants). c.start) constants-view ∙ known.log.start

  pub transferred-sends_by : SendsBy g h opened list old new
  transferred-sends_by = by_later known.later
    where
      by_later : Later g h old new → SendsBy g h opened list old new
      by_later (inl same) = subst (SendsBy g h opened list old) (sym same)
          (SendsBy-refl g h opened list old old known.log.stand known.fresh.made start-old)
      by_later (inr ran) =
          let sent : view.sending.sent ≡ units_of ran.more =
          ap (λ (s : Sending). s.sent) known.sending ∙ Ran-sent_units g h opened list old new known.log.stand known.fresh.made start-old ran in
          let read : view.sending.read ≡ units_of ran.cut =
          ap (λ (s : Sending). s.read) known.sending ∙ Ran-read_units g h opened list old new known.log.stand known.fresh.made start-old ran in
          let whole : units_of list ≡ units_of (ran.more ++ ran.cut) ++ known.gathered.unsent =
          sym list-units ∙ known.gathered.sent ∙ (λ i. (sent i ++ read i) ++ known.gathered.unsent)
          ∙ ap (λ l. l ++ known.gathered.unsent) (sym (units_of-append ran.more ran.cut)) in
          let front = units_front-records_front list (ran.more ++ ran.cut) known.gathered.unsent list-spellable ran.spellable whole in
          Ran-sends_by g h opened list old new known.log.stand known.fresh.made start-old ran front.0 front.1

  -- ---- what each image holds

  abbrev image-run : (records rest : List Rec) → list ≡ records ++ rest → (bytes : List ℕ) → HoldsBoth opened records bytes
      → HoldsRun opened jobs sharing list bytes
  image-run records rest splits bytes held = record {
    front = records;
    rest = rest;
    whole = splits;
    holds = record {
      list = record {
        each = front-spellable opened list jobs known.log.lawful known.log.range known.log.some_accounts known.log.below spellable lawful_after transferred-partly_serial_after
            records rest splits;
        holds = held;
      };
      lawful = front-lawful opened list jobs known.log.lawful known.log.range known.log.some_accounts known.log.below spellable lawful_after transferred-partly_serial_after
          records rest splits;
    };
    goes_on = front-goes_on opened list jobs known.log.lawful known.log.range known.log.some_accounts known.log.below spellable lawful_after transferred-partly_serial_after
        records rest splits sharing (in_turn records rest splits) (none_behind records rest splits);
  }

  pub transferred-keeps_log : RunKeepsLog g old.voice opened jobs sharing list (place_of old) key.ring old.flusher.disk.now new.flusher.disk.now
      (h.held_bytes old.sink.now) (h.held_bytes new.sink.now)
  transferred-keeps_log = record {
    goes_on = with_records-goes_on opened list jobs known.log.lawful known.log.range known.log.some_accounts known.log.below spellable lawful_after transferred-partly_serial_after
        sharing (in_turn list [] (sym (append-nil list))) (none_behind list [] (sym (append-nil list)));
    moments = λ honest. Leaves-weaken g.moment g.images_since (HoldsSome opened list) (HoldsRun opened jobs sharing list)
        old.flusher.disk.now new.flusher.disk.now (λ bytes held. image-run held.0 held.1 held.2 bytes held.3) (transferred-sends_by.moments honest);
    left = λ honest bytes image. ⊎_elim (left-first honest bytes) (left-both honest bytes) (transferred-sends_by.now honest bytes image);
  }
    where
      IsLeftAs : List ℕ → Type 0
      IsLeftAs bytes = IsLeft g old.voice opened jobs sharing list (place_of old) key.ring old.flusher.disk.now new.flusher.disk.now
          (h.held_bytes old.sink.now) (h.held_bytes new.sink.now) bytes

      left-first : g.honest old.flusher.disk.now → (bytes : List ℕ) → HoldsBoth opened transferred-sends_by.more bytes → IsLeftAs bytes
      left-first honest bytes held = record {
        run = image-run transferred-sends_by.more (transferred-sends_by.cut ++ transferred-sends_by.rest) (transferred-sends_by.splits
            ∙ append_assoc transferred-sends_by.more transferred-sends_by.cut transferred-sends_by.rest) bytes held;
        text = transferred-sends_by.text;
        count = transferred-sends_by.count honest;
        grows = GrowsAtMostTo-weaken g (most_end (place_of old) (end_of transferred-sends_by.more) (ring_of old)) _ old.flusher.disk.now new.flusher.disk.now
            (omega (arith, ring-is)) (transferred-sends_by.grows honest);
      }

      left-both : g.honest old.flusher.disk.now → (bytes : List ℕ) → HoldsBoth opened (transferred-sends_by.more ++ transferred-sends_by.cut) bytes → IsLeftAs bytes
      left-both honest bytes held = record {
        run = image-run (transferred-sends_by.more ++ transferred-sends_by.cut) transferred-sends_by.rest transferred-sends_by.splits bytes held;
        text = AppendsPrefix-append (h.held_bytes old.sink.now) (h.held_bytes new.sink.now)
            (text_of old.voice (list_end opened) (transferred-sends_by.more ++ transferred-sends_by.cut)) (text_of old.voice (list_end opened) transferred-sends_by.more)
            (text_of old.voice (list_end opened + length (units_of transferred-sends_by.more)) transferred-sends_by.cut) transferred-sends_by.text
            (text_of-append old.voice (list_end opened) transferred-sends_by.more transferred-sends_by.cut);
        count = let long = length-append transferred-sends_by.more transferred-sends_by.cut in
            Costs-weaken g _ _ _ _ old.flusher.disk.now new.flusher.disk.now (omega (arith, long)) (omega (arith, long)) (transferred-sends_by.count honest);
        grows =
            let ends = end_of-append transferred-sends_by.more transferred-sends_by.cut in
            GrowsAtMostTo-weaken g (most_end (place_of old) (end_of transferred-sends_by.more) (ring_of old)) _ old.flusher.disk.now new.flusher.disk.now
            (omega (arith, ring-is, ends)) (transferred-sends_by.grows honest);
      }

  -- ---- what befell the daemon

  pub transferred-has_reason : HasReason g h old new
  transferred-has_reason = Later-reason g h old new known.later known.fresh.fine

  pub transferred-same_daemon : IsSameDaemon g old new
  transferred-same_daemon = Later-same_daemon g h old new known.later

  -- ---- without a fault

  module _ (fine : new.fault ≡ None) where
    -- all records were sent
    list-is : (records : List Rec) → AllByRecursion IsSpellable records → view.sending.sent ≡ units_of records → records ≡ list
    list-is records each sent = units_of-injective records list (All-from_recursion IsSpellable records each)
        (All-from_recursion IsSpellable list list-spellable) (sym sent ∙ sym (known.gathered.drained (known.drained fine)) ∙ list-units)

    list-none : new ≡ old → [] ≡ list
    list-none same = list-is [] tt
        (ap (λ (s : Sending). s.sent) known.sending ∙ ap (λ (d : Daemon D K g h). sent_of d.flusher) same ∙ known.fresh.made.unsent)

    list-more : (ran : Ran g h old new) → ran.more ≡ list
    list-more ran = list-is ran.more (all-split IsSpellable ran.more ran.cut ran.spellable).0
        (ap (λ (s : Sending). s.sent) known.sending ∙ Ran-sent_units g h opened list old new known.log.stand known.fresh.made start-old ran)

    sent-all : AreSentBy g h opened list old new
    sent-all = by_later known.later
      where
        by_later : Later g h old new → AreSentBy g h opened list old new
        by_later (inl same) = subst (AreSentBy g h opened list old) (sym same)
            (subst (λ (records : List Rec). AreSentBy g h opened records old old) (list-none same)
            (AreSentBy-refl g h opened list old old known.log.stand known.fresh.made start-old))
        by_later (inr ran) = subst (λ (records : List Rec). AreSentBy g h opened records old new) (list-more ran)
            (Ran-are_sent_by g h opened list old new known.log.stand known.fresh.made start-old ran fine)

    -- and the end record of each was counted
    pub transferred-tally_counted : new.tally ≡ counted old.tally list
    transferred-tally_counted = by_later known.later
      where
        counted-none : (tally : Tally) → tally ≡ counted tally []
        counted-none tally = λ i. record { done = sym (add-zero tally.done) i; refused = sym (add-zero tally.refused) i }

        by_later : Later g h old new → new.tally ≡ counted old.tally list
        by_later (inl still) = ap (λ (d : Daemon D K g h). d.tally) still ∙ counted-none old.tally ∙ ap (counted old.tally) (list-none still)
        by_later (inr ran) = ran.tallied (λ failed. none≢some WriteFault (sym fine ∙ failed)) ∙ ap (counted old.tally) (list-more ran)

    pub transferred-drained : RunIsDrained g old.voice opened list (place_of old) key.ring old.flusher.disk.now new.flusher.disk.now
        (h.held_bytes old.sink.now) (h.held_bytes new.sink.now) lsn rows
    transferred-drained = record {
      images = λ honest bytes image. record {
        list = record { each = spellable; holds = sent-all.now honest bytes image };
        lawful = with_records-lawful opened list jobs known.log.lawful known.log.range known.log.some_accounts known.log.below spellable lawful_after transferred-partly_serial_after;
      };
      text = sent-all.text;
      end = end;
      accounts = KeepsRows-accounts_text opened list jobs known.log.lawful known.log.range known.log.some_accounts known.log.below spellable lawful_after transferred-partly_serial_after lsn rows
          end ledger.accounts;
      count = sent-all.count;
      grows = λ honest. GrowsAtMostTo-weaken g (most_end (place_of old) (end_of list) (ring_of old)) _ old.flusher.disk.now
          new.flusher.disk.now (omega (arith, ring-is)) (sent-all.grows honest);
    }
      where
        end : lsn ≡ list_end (with_records opened list)
        end =
            let tiles = tiling-end view.constants.start lsn view.entries known.gathered.full known.gathered.spelled known.gathered.tiles in
            omega (arith, tiles, start-view, list_end-more opened list)

    stop-none : view.sending.stop ≡ 0
    stop-none = ap (λ (s : Sending). s.stop) known.sending ∙ subst (StopTells old new) fine transferred-has_reason.stop ∙ known.fresh.stop

    had : AllByRecursion (λ (given : Given). given.committed ≡ false → HadBalance (with_records opened list) given.tail given.account given.balance)
        view.books.given
    had = all-weaken (WentBack base (later_of opened list)) _ view.books.given (WentBack-had_balance opened list known.log.lawful known.log.some_accounts lawful_after
        (later-shares_no_transaction opened list jobs known.log.lawful known.log.range known.log.some_accounts known.log.below spellable lawful_after transferred-partly_serial_after)) went-back

    pub transferred-stops_at_log_end : (worker : ℕ) (taken : List ℕ) (tail total : ℕ)
        → get_elem? shares worker ≡ some (record { taken = taken; worked = Cut (LogEnd tail total) })
        → StopsAtLogEnd opened jobs sharing list key.ring key.slots tail total
    transferred-stops_at_log_end worker taken tail total at =
        subst (λ (c : Constants). StopsAtLogEnd opened jobs sharing list c.ring c.slots tail total) constants-view
        (log_end_cut-stops_at_log_end opened jobs view known.log.below front shares known.workers had known.heard lsn known.gathered start-view
        stop-none worker tail total (record { taken = taken; worked = Cut (LogEnd tail total) }) at refl)

    pub transferred-no_stop_cut : (worker : ℕ) (taken : List ℕ) (word : ℕ)
        → get_elem? shares worker ≡ some (record { taken = taken; worked = Cut (Stop word) }) → ⊥
    transferred-no_stop_cut worker taken word at =
        no_stop_word-no_stop_cut opened jobs view known.log.below front shares known.workers stop-none worker word
        (record { taken = taken; worked = Cut (Stop word) }) at refl

  pub transferred-serial_after : AllByRecursion (λ (share : Share). share.worked ≡ All) shares
      → IsSerialAfter base (tasks_of jobs) (later_of opened list)
  transferred-serial_after all = partly_serial-all_ended_serial base (tasks_of jobs) (later_of opened list)
      (worked_all-has_end opened jobs view known.log.below front shares known.workers all) transferred-partly_serial_after

  pub transferred-runs_whole : AllByRecursion (λ (share : Share). share.worked ≡ All) shares → RunsWhole opened jobs list
  transferred-runs_whole all = has_end-runs_whole opened list jobs known.log.lawful known.log.range known.log.some_accounts known.log.below spellable lawful_after transferred-partly_serial_after
      (worked_all-has_end opened jobs view known.log.below front shares known.workers all)
