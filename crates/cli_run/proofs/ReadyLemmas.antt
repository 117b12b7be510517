-- From the opened log to what is ready before the first transfer of a run, or to the answer that there is no run.
use Rattle.std.proofs.Common.{◌≡◌, ◌≤◌, ◌⊎◌, ⊎_elim, inl, inr, refl, ap, sym, ◌∙◌, subst, ℕ, ◌+◌, List, length, Option, Result, Ok, Err, IfOk, arith}
use Rattle.command_line.specs.declared.options.RunOptions.{RunOptions}
use Rattle.log_disk.proofs.Counting.{Costs-weaken, Costs-trans}
use Rattle.log_disk.proofs.Lengths.{GrowsAtMostTo-same, GrowsAtMostTo-trans}
use Rattle.log_disk.specs.Costs.{Costs}
use Rattle.log_disk.specs.Disk.{Leaves}
use Rattle.log_disk.specs.Lengths.{GrowsAtMostTo}
use Rattle.log_disk.specs.declared.disk.LogDisk.{Ghosts}
use Rattle.log_disk.proofs.Moments.{Leaves-trans, Leaves-weaken}
use Rattle.log_record.specs.declared.limits.TheConstants.{LAST_TXN}
use Rattle.lock_core.specs.Sums.{ShowsAccounts}
use Rattle.log_recovery.specs.declared.recovery.RecoverFault.{RecoverFault}
use Rattle.log_recovery.specs.declared.recovery.RecoverFault.TheVariants as fault
use Rattle.log_recovery.specs.Opened.{OpenedList, log_of, placed, base_in}
use Rattle.log_recovery.specs.Recovery.{HoldsLawful, IsFaultOf}
use Rattle.log_recovery.proofs.OpenedLemmas.{held-begins_in_range, held-some_accounts}
use Rattle.cli_shared.specs.Opening.{most_calls}
use Rattle.cli_shared.specs.declared.report.Detail.{Detail}
use Rattle.cli_shared.specs.declared.report.Detail.TheVariants.{NoMemory, Script, Read, Disk, NotALog, BadSnapshot, BadBatch, BadRec, Unlawful}
use Rattle.log_recovery.specs.declared.recovery.Recovered.{Recovered}
use Rattle.log_rule.specs.declared.start.Start.{Start}
use Rattle.log_table.specs.Seats.{key_of}
use Rattle.lsn_space.specs.declared.memory.NoMemory.{NoMemory as Wanting}
use Rattle.segment_file.specs.declared.scan_result.Tail.{Tail}
use Rattle.segment_file.specs.Log.{HoldsLog}
use Rattle.segment_file.specs.StandingLog.{LogStands, IsShut, LogStandsAt}
use Rattle.lock_core.specs.declared.job.Job.{Job}
use Rattle.job_queue.specs.Passes.{jobs_of, workers_of}
use Rattle.cli_threads.specs.declared.transfers.Prepared.{Prepared}
use Rattle.cli_threads.specs.Prepared.{IsPrepared}
use Rattle.cli_threads.specs.declared.transfers.ReadyRun.{ReadyRun}
use Rattle.cli_shared.specs.Opening.{HasOpeningFault, MayHold, OnlyLooks, Opens}
use Rattle.cli_run.specs.RunAnswers.{AnswersRun, AreAsked, RunsOutOfNumbers, accounts_of, next_txn}
use Rattle.cli_shared.specs.Outside.{OnlyReads, OnlySettles, HoldsAsRead, outside}
use Rattle.cli_run.specs.RunReady.{HasRead, IsPreparedFor, IsReadyFor}
use Rattle.cli_shared.specs.Scripts.{HasNoScript, HasNoTransfers, IsWholeScript, NumbersEnd}
use Rattle.cli_shared.proofs.ToldLemmas.{Keeps-refl}
use Rattle.cli_threads.specs.Transferred.{IsOpened}

-- a disk that was attached, synced and read, and then perhaps settled
module _ {D : Type 0} (g : Ghosts D) (old mid : D) where
  module _ (looks : OnlyLooks g old mid) (left left_new text : Option (List ℕ)) where
    pub OnlyLooks-only_reads : OnlyReads g (outside old left text) (outside mid left_new text)
    OnlyLooks-only_reads = record { silent = Keeps-refl text; disk = looks }

    pub OnlyLooks-only_settles : OnlySettles g (outside old left text) (outside mid left_new text)
    OnlyLooks-only_settles = record {
      silent = Keeps-refl text;
      images = Leaves-weaken g.moment g.images_since (g.images old) (λ bytes. g.images old bytes ⊎ HoldsAsRead g old bytes) old mid
          (λ bytes image. inl image) looks.images;
      count = Costs-weaken g 1 3 (most_calls g old) (most_calls g old + 3) old mid (omega arith) (omega arith) looks.count;
      grows = inl looks.reads;
    }

    module _ (options : RunOptions) where
      abbrev Answers : Detail → Type 0
      Answers detail = AnswersRun g options (outside old left text) (outside mid left_new text) detail

      -- a read gave bytes that have this fault
      faulty : (f : RecoverFault) (bytes : List ℕ) → MayHold g old bytes → IsFaultOf bytes f → g.honest old
          → OnlyReads g (outside old left text) (outside mid left_new text) × IsFaultOf (g.reads old) f
      faulty f bytes read is honest = (OnlyLooks-only_reads, subst (λ b. IsFaultOf b f) (read honest) is)

      -- the log was not opened
      pub opening_fault-answers_run : (detail : Detail) → HasOpeningFault g old detail → g.honest old → Answers detail
      opening_fault-answers_run NotALog has = faulty fault.NotALog has.0 has.1 has.2
      opening_fault-answers_run BadSnapshot has = faulty fault.BadSnapshot has.0 has.1 has.2
      opening_fault-answers_run (BadBatch offset) has = faulty (fault.BadBatch offset) has.0 has.1 has.2
      opening_fault-answers_run (BadRec lsn) has = faulty (fault.BadRec lsn) has.0 has.1 has.2
      opening_fault-answers_run (Unlawful lsn why) has = faulty (fault.Unlawful lsn why) has.0 has.1 has.2
      opening_fault-answers_run Disk has = λ honest. inl OnlyLooks-only_settles
      opening_fault-answers_run NoMemory has = λ honest. OnlyLooks-only_reads
      opening_fault-answers_run detail has = absurd has.2

      -- the input is no script
      pub no_script-answers_run : (opened : OpenedList) (detail : Detail) → HoldsLawful (g.reads old) opened
          → HasNoScript (accounts_of opened) left left_new detail → Answers detail
      no_script-answers_run opened (Script line) held has = (OnlyLooks-only_reads, (opened, held, has))
      no_script-answers_run opened Read held has = OnlyLooks-only_reads
      no_script-answers_run opened NoMemory held has = OnlyLooks-only_reads
      no_script-answers_run opened detail held has = absurd has

module _ {D : Type 0} (g : Ghosts D) (old mid : D) (opened : Recovered) (opens : Opens g opened old mid) where
  abbrev pub list : OpenedList
  list = opens.recovers.list

  pub reads-holds_lawful : g.honest old → HoldsLawful (g.reads old) list
  reads-holds_lawful honest = subst (λ bytes. HoldsLawful bytes list) (opens.read honest) opens.recovers.held

  -- what holds the units of the opened list, behind what stands before them, holds the list
  holds-opened : (bytes : List ℕ) → HoldsLog bytes (log_of list) → HoldsLawful bytes list
  holds-opened bytes held =
      record { list = record { each = opens.recovers.held.list.each; holds = held }; lawful = opens.recovers.held.lawful }

  -- and the disk as it was settled
  module _ (new : D) (looks : OnlyLooks g old mid) (moments : Leaves g.moment g.images_since (λ c. HoldsLog c (log_of list)) mid new)
      (count : Costs g 2 3 mid new) where
    pub leaves-settled : Leaves g.moment g.images_since (λ bytes. g.images old bytes ⊎ HoldsLawful bytes list) old new
    leaves-settled = Leaves-trans g.moment g.images_since (λ bytes. g.images old bytes ⊎ HoldsLawful bytes list) old mid new
        (Leaves-weaken g.moment g.images_since (g.images old) (λ bytes. g.images old bytes ⊎ HoldsLawful bytes list) old mid
        (λ bytes image. inl image) looks.images)
        (Leaves-weaken g.moment g.images_since (λ c. HoldsLog c (log_of list)) (λ bytes. g.images old bytes ⊎ HoldsLawful bytes list)
        mid new (λ bytes held. inr (holds-opened bytes held)) moments)

    pub costs-settled : Costs g 3 (most_calls g old + 3) old new
    costs-settled = Costs-trans g 1 2 (most_calls g old) 3 old mid new looks.count count

    pub grows-settled : GrowsAtMostTo g (opened.tail.at + 1) mid new → GrowsAtMostTo g (opened.tail.at + 1) old new
    grows-settled grows = GrowsAtMostTo-trans g (opened.tail.at + 1) old mid new
        (GrowsAtMostTo-same g (opened.tail.at + 1) old mid looks.reads) grows

    -- the file that a read gave goes on at the tail
    pub reads-log_stands_at : g.honest old → g.images mid (g.reads mid) → LogStandsAt opened.tail (log_of list) (g.reads old)
    reads-log_stands_at honest image = subst (LogStandsAt opened.tail (log_of list)) looks.reads (opens.stand honest (g.reads mid) image)

    pub opens-only_settles : g.honest old → g.images mid (g.reads mid) → GrowsAtMostTo g (opened.tail.at + 1) mid new
        → (left left_new text : Option (List ℕ)) → OnlySettles g (outside old left text) (outside new left_new text)
    opens-only_settles honest image grows left left_new text = record {
      silent = Keeps-refl text;
      images = Leaves-weaken g.moment g.images_since (λ bytes. g.images old bytes ⊎ HoldsLawful bytes list)
          (λ bytes. g.images old bytes ⊎ HoldsAsRead g old bytes) old new
          (λ bytes. ⊎_elim (λ image. inl image) (λ held. inr (list, reads-holds_lawful honest, held))) leaves-settled;
      count = costs-settled;
      grows = inr (opened.tail, log_of list, reads-log_stands_at honest image, grows-settled grows);
    }

  -- the transfers of the input have no numbers
  numbers-end : g.honest old → (left left_new text : Option (List ℕ)) (detail : Detail)
      → (end : NumbersEnd (length opened.accounts.rows) opened.next_txn left left_new detail)
      → RunsOutOfNumbers g opened.next_txn (length end.jobs) (outside old left text) (outside mid left_new text)
  numbers-end honest left left_new text detail end = record {
    opened = list;
    held = reads-holds_lawful honest;
    jobs = end.jobs;
    script = subst (λ n. IsWholeScript n left left_new end.jobs) opens.recovers.accounts.count end.script;
    first_is = opens.recovers.next_txn;
    count_is = refl;
    past = end.past;
  }

  -- the input gives no transfers that have numbers
  pub no_transfers-answers_run : OnlyLooks g old mid → g.honest old → (options : RunOptions) (left left_new text : Option (List ℕ))
      → (detail : Detail) → HasNoTransfers (length opened.accounts.rows) opened.next_txn left left_new detail
      → AnswersRun g options (outside old left text) (outside mid left_new text) detail
  no_transfers-answers_run looks honest options left left_new text detail (inl none) =
      no_script-answers_run g old mid looks left left_new text options list detail (reads-holds_lawful honest)
      (subst (λ n. HasNoScript n left left_new detail) opens.recovers.accounts.count none)
  no_transfers-answers_run looks honest options left left_new text detail (inr end) =
      subst (AnswersRun g options (outside old left text) (outside mid left_new text)) (sym end.detail_is)
      (OnlyLooks-only_reads g old mid looks left left_new text, numbers-end honest left left_new text detail end)

  module _ (options : RunOptions) (script : List Job) (prepared : Prepared) (is : IsPreparedFor options opened script prepared) where
    pub prepared-are_asked : (left left_new : Option (List ℕ)) → IsWholeScript (length opened.accounts.rows) left left_new script
        → opened.next_txn + length script ≤ LAST_TXN → AreAsked list left left_new (jobs_of prepared.jobs.queue)
    prepared-are_asked left left_new whole fits =
        let same : length opened.accounts.rows ≡ accounts_of list = opens.recovers.accounts.count in
        let first : prepared.jobs.queue.first ≡ next_txn list = is.first ∙ opens.recovers.next_txn in
        record {
          script = subst (λ (jobs : List Job). IsWholeScript (accounts_of list) left left_new jobs) (sym is.script_is)
              (subst (λ n. IsWholeScript n left left_new script) same whole);
          first = first;
          numbered = omega (arith, is.first, ap length is.script_is, fits);
        }

    pub prepared-is_opened : (new : D) (tail : Tail) → tail ≡ opened.tail
        → (g.honest old → LogStands opened.tail (log_of list) (g.images new)) → (g.honest old → IsShut opened.tail.at (g.images new))
        → (g.honest new → g.honest old) → IsOpened g new tail list prepared.jobs.queue.first (key_of prepared.table)
    prepared-is_opened new tail same stand shut honest = record {
      spellable = opens.recovers.held.list.each;
      lawful = opens.recovers.held.lawful;
      range = held-begins_in_range opens.bytes list opens.recovers.held.list.holds;
      some_accounts = held-some_accounts opens.bytes list opens.recovers.held;
      below = omega (arith, is.first, opens.recovers.next_txn);
      stand = λ is_honest. subst (λ t. LogStands t (log_of list) (g.images new)) (sym same) (stand (honest is_honest));
      shut = λ is_honest. subst (λ (t : Tail). IsShut t.at (g.images new)) (sym same) (shut (honest is_honest));
      next = ap (λ (t : Tail). t.next) same ∙ opens.recovers.stands.next;
      place = let at : tail.at ≡ opened.tail.at = ap (λ (t : Tail). t.at) same in omega (arith, at, opens.place);
      start = is.start ∙ opens.recovers.lsn;
      accounts = subst (λ rows. ShowsAccounts rows (base_in list) (placed list)) (sym (λ i. (is.accounts i).rows))
          opens.recovers.accounts;
    }

-- the transfers of a script are ready, over the log as it was settled
module _ {D : Type 0} (g : Ghosts D) (old mid new : D) (opened : Recovered) (script : List Job) (left left_new : Option (List ℕ))
    (has : HasRead g opened script old mid left left_new) (ready : ReadyRun) (options : RunOptions)
    (prepared : IsPreparedFor options opened script ready.prepared) (tail : ready.tail ≡ opened.tail) where
  abbrev list-read : OpenedList
  list-read = has.opens.recovers.list

  module _ (moments : g.honest old → Leaves g.moment g.images_since (λ c. HoldsLog c (log_of list-read)) mid new)
      (stand : g.honest old → LogStands opened.tail (log_of list-read) (g.images new))
      (shut : g.honest old → IsShut opened.tail.at (g.images new))
      (grows : g.honest old → GrowsAtMostTo g (opened.tail.at + 1) mid new) (count : g.honest old → Costs g 2 3 mid new)
      (image : g.honest old → g.images mid (g.reads mid)) (honest_new : g.honest new → g.honest old) where
    stands-ready : g.honest old → LogStandsAt ready.tail (log_of list-read) (g.reads old)
    stands-ready honest = subst (λ (t : Tail). LogStandsAt t (log_of list-read) (g.reads old)) (sym tail)
        (reads-log_stands_at g old mid opened has.opens new (has.looks honest) (moments honest) (count honest) honest (image honest))

    grows-ready : g.honest old → GrowsAtMostTo g (ready.tail.at + 1) old new
    grows-ready honest = subst (λ (t : Tail). GrowsAtMostTo g (t.at + 1) old new) (sym tail)
        (grows-settled g old mid opened has.opens new (has.looks honest) (moments honest) (count honest) (grows honest))

    pub ready-settled : IsReadyFor g options old new left left_new ready
    ready-settled = record {
      opened = list-read;
      held = reads-holds_lawful g old mid opened has.opens;
      log = prepared-is_opened g old mid opened has.opens options script ready.prepared prepared new ready.tail tail stand shut honest_new;
      asked = prepared-are_asked g old mid opened has.opens options script ready.prepared prepared left left_new has.whole has.numbered;
      workers_are = prepared.workers_are;
      ring = prepared.ring;
      slots = prepared.slots;
      prepared = prepared.ready;
      images = λ honest. leaves-settled g old mid opened has.opens new (has.looks honest) (moments honest) (count honest);
      count = λ honest. costs-settled g old mid opened has.opens new (has.looks honest) (moments honest) (count honest);
      stands = stands-ready;
      grows = grows-ready;
    }

module _ (options : RunOptions) (opened : Recovered) (script : List Job) (start : Start) where
  -- what was asked for
  prepared-ok : (p : Prepared) → start.start ≡ opened.lsn → start.accounts ≡ opened.accounts → start.ring ≡ options.ring
      → start.slots ≡ options.slots → workers_of p.jobs ≡ options.workers → p.jobs.queue.script ≡ script
      → p.jobs.queue.first ≡ opened.next_txn → key_of p.table ≡ start → IsPrepared p → IsPreparedFor options opened script p
  prepared-ok p from accounts ring slots workers_are script_is first key ready = record {
    start = ap (λ (k : Start). k.start) key ∙ from;
    accounts = ap (λ (k : Start). k.accounts) key ∙ accounts;
    ring = ap (λ (k : Start). k.ring) key ∙ ring;
    slots = ap (λ (k : Start). k.slots) key ∙ slots;
    script_is = script_is;
    first = first;
    workers_are = workers_are;
    ready = ready;
  }

  -- if there was memory for it
  pub IfOk-prepared_for : {workers : ℕ} (made : Result Prepared Wanting) → start.start ≡ opened.lsn → start.accounts ≡ opened.accounts
      → start.ring ≡ options.ring → start.slots ≡ options.slots → workers ≡ options.workers
      → IfOk made (λ p. p.jobs.queue.script ≡ script) → IfOk made (λ p. p.jobs.queue.first ≡ opened.next_txn)
      → IfOk made (λ p. workers_of p.jobs ≡ workers) → IfOk made (λ p. key_of p.table ≡ start) → IfOk made IsPrepared
      → IfOk made (IsPreparedFor options opened script)
  IfOk-prepared_for (Err none) from accounts ring slots workers_is script_is first workers_are key ready = tt
  IfOk-prepared_for (Ok p) from accounts ring slots workers_is script_is first workers_are key ready =
      prepared-ok p from accounts ring slots (workers_are ∙ workers_is) script_is first key ready
