-- What `run` answers, from what was ready, what is promised of the transfers, and what was concluded.
use Rattle.std.proofs.Common.{Bool, ◌≡◌, ◌<◌, ◌+◌, ◌*◌, ◌⊎◌, ◌∙◌, inr, refl, ap, sym, subst, ℕ, List, [], ◌++◌, length, length-append, append_assoc, Option, None, arith}
use Rattle.std.proofs.KnownBytes.{Appends-trans}
use Rattle.std.proofs.lemmas.List.{append-nil}
use Rattle.std.specs.Io.KnownBytes.{Appends}
use Rattle.command_line.specs.declared.options.RunOptions.{RunOptions}
use Rattle.log_disk.proofs.Counting.{Costs-weaken, Costs-trans}
use Rattle.log_disk.proofs.Lengths.{GrowsAtMostTo-weaken, GrowsAtMostTo-trans}
use Rattle.log_disk.specs.Costs.{Costs}
use Rattle.log_disk.specs.Disk.{Leaves}
use Rattle.log_disk.specs.Lengths.{GrowsAtMostTo}
use Rattle.log_disk.specs.Streams.{AppendsPrefix, AppendsPart}
use Rattle.log_disk.proofs.Prefixes.{AppendsPart-prefix}
use Rattle.log_disk.specs.declared.disk.LogDisk.{Ghosts}
use Rattle.log_disk.specs.declared.sink.Sink.{Ghosts as SinkGhosts}
use Rattle.log_record.specs.declared.rec.Rec.{Rec}
use Rattle.log_record.specs.LogList.{end_of}
use Rattle.lock_core.specs.Sums.{balance_of}
use Rattle.log_recovery.specs.Opened.{OpenedList, list_end, placed, with_records, base_in}
use Rattle.log_recovery.specs.Text.{account_lines, accounts_text, lsn_line, rows_text}
use Rattle.log_recovery.proofs.TextLemmas.{AppendsPart-after_Appends, AppendsPrefix-append, AppendsPrefix-after_Appends, lsn_line-some}
use Rattle.log_table.specs.Seats.{key_of}
use Rattle.segment_file.specs.Lengths.{most_end}
use Rattle.job_queue.specs.Passes.{jobs_of}
use Rattle.txn_jobs.specs.Places.{NumberedJobs}
use Rattle.commit_pipeline.specs.EndLines.{end_lines}
use Rattle.end_lines.specs.declared.voice.Voice.TheVariants.{Lines}
use Rattle.cli_shared.specs.Opening.{most_calls}
use Rattle.cli_shared.specs.declared.report.Detail.{Detail}
use Rattle.cli_shared.specs.declared.report.Detail.TheVariants.{Fine, Read, Write, Disk, LogEnd}
use Rattle.cli_threads.specs.declared.transfers.ReadyRun.{ReadyRun}
use Rattle.cli_ending.specs.declared.conclusion.RunEnd.{RunEnd}
use Rattle.cli_ending.specs.Conclusion.{AreWhole, Concludes, IsFirstLogEnd, closed_text}
use Rattle.cli_threads.specs.Ending.{HasEnded}
use Rattle.cli_threads.specs.Run.{HoldsRun, RunIsDrained, RunKeepsLog}
use Rattle.cli_threads.specs.RunStops.{StopsAtLogEnd}
use Rattle.cli_threads.specs.Sharing.{IsSharedOut, Sharing}
use Rattle.cli_run.specs.RunAnswers.{AnswersRun, HoldsTold, IsAnswerToRun, Ran, RanIntoEnd, RanOut, RanShort, RanWhole, RunStaysSilent, run_text}
use Rattle.cli_shared.specs.Outside.{Outside, outside}
use Rattle.cli_shared.proofs.ToldLemmas.{Keeps-refl}
use Rattle.cli_run.specs.RunReady.{IsBeforeRun, IsReadyFor}
use Rattle.cli_threads.proofs.EndingLemmas.{Concludes-cases, list, sharing, ended-keeps_log, ended-shared_out, ended-runs_whole, ended-drained, ended-stops_at_log_end}
use Rattle.cli_threads.proofs.RunBegun.{Leaves-before_or_run}

-- the accounts text begins with the end of the list
accounts_text-some : (list : OpenedList) → 0 < length (accounts_text list)
accounts_text-some list =
    let lines = account_lines (balance_of (base_in list) (placed list)) (base_in list).accounts in
    omega (arith, length-append (lsn_line (list_end list)) lines, lsn_line-some (list_end list))

module _ {D : Type 0} {K : Type 0} (g : Ghosts D) (h : SinkGhosts K) (options : RunOptions) (ready : ReadyRun) {wait : Bool}
    (entry disk disk_new : D) (left left_new : Option (List ℕ)) (sink sink_mid sink_new : K) (ended : RunEnd)
    (is : IsReadyFor g options entry disk left left_new ready)
    (has : HasEnded g h ready.prepared is.opened ready.tail Lines wait disk disk_new sink sink_mid ended)
    (honest : g.honest entry) (honest_mid : g.honest disk) where
  abbrev opened : OpenedList
  opened = is.opened

  abbrev jobs : NumberedJobs
  jobs = jobs_of ready.prepared.jobs.queue

  abbrev records : List Rec
  records = list g h ready.prepared opened Lines disk disk_new sink sink_mid ended has

  -- which worker took which transfers
  abbrev taken : Sharing
  taken = sharing g h ready.prepared opened Lines disk disk_new sink sink_mid ended has

  abbrev old : Outside D
  old = outside entry left (h.held_bytes sink)

  abbrev new : Outside D
  new = outside disk_new left_new (h.held_bytes sink_new)

  -- the size of the ring that the table has
  abbrev ring : ℕ
  ring = (key_of ready.prepared.table).ring

  -- what the transfers left of the log
  keeps : RunKeepsLog g Lines opened jobs taken records ready.tail.at ring disk disk_new (h.held_bytes sink) (h.held_bytes sink_mid)
  keeps = ended-keeps_log g h ready.prepared opened Lines disk disk_new sink sink_mid ended has

  images-ran : Leaves g.moment g.images_since (λ bytes. g.images entry bytes ⊎ HoldsRun opened jobs taken records bytes) entry disk_new
  images-ran = Leaves-before_or_run g disk ready.tail opened jobs taken _ is.log records (g.images entry) entry disk_new (is.images honest)
      (keeps.moments honest_mid)

  shared-ran : IsSharedOut options.workers jobs taken
  shared-ran = subst (λ n. IsSharedOut n jobs taken) is.workers_are
      (ended-shared_out g h ready.prepared opened Lines disk disk_new sink sink_mid ended has)

  -- the file was settled first, and then grew as the transfers let it
  grows-ran : (front : List Rec) → GrowsAtMostTo g (most_end ready.tail.at (end_of front) ring) disk disk_new
      → GrowsAtMostTo g (most_end ready.tail.at (end_of front) options.ring) entry disk_new
  grows-ran front grows =
      let place : ℕ = most_end ready.tail.at (end_of front) options.ring in
      GrowsAtMostTo-trans g place entry disk disk_new
      (GrowsAtMostTo-weaken g (ready.tail.at + 1) place entry disk (omega arith) (is.grows honest))
      (GrowsAtMostTo-weaken g (most_end ready.tail.at (end_of front) ring) place disk disk_new (omega (arith, is.ring)) grows)

  -- what was counted before the transfers and in them
  count-ran : (most : ℕ) → Costs g most most disk disk_new → Costs g (3 + most) (most_calls g entry + 3 + most) entry disk_new
  count-ran most count = Costs-trans g 3 most (most_calls g entry + 3) most entry disk disk_new (is.count honest) count

  -- each image that is left holds what was told
  abbrev AllTold : Type 0
  AllTold = (image : List ℕ) → g.images disk_new image → HoldsTold g opened jobs taken records old new image

  abbrev ran : (kept : AllTold) → ((image : List ℕ) (left_image : g.images disk_new image)
      → GrowsAtMostTo g (most_end ready.tail.at (end_of (kept image left_image).run.front) ring) disk disk_new) → Ran g options old new
  ran kept grows = record {
    opened = opened;
    held = is.held honest;
    tail = ready.tail;
    stands = is.stands honest;
    jobs = jobs;
    asked = is.asked;
    sharing = taken;
    shared = shared-ran;
    list = records;
    goes_on = keeps.goes_on;
    images = images-ran;
    kept = kept;
    grows = λ image left_image. grows-ran (kept image left_image).run.front (grows image left_image);
  }

  -- where the daemon failed, it wrote a front of the lines of each image's list
  abbrev told-cut : sink_new ≡ sink_mid → AllTold
  told-cut same image left_image =
      let kept = keeps.left honest_mid image left_image in
      record {
        run = kept.run;
        told = subst (λ text. AppendsPrefix (h.held_bytes sink) text (run_text opened kept.run.front)) (sym (ap h.held_bytes same))
            (AppendsPrefix-append (h.held_bytes sink) (h.held_bytes sink_mid) (run_text opened kept.run.front)
            (end_lines (list_end opened) kept.run.front) (accounts_text (with_records opened kept.run.front)) kept.text refl);
        count = Costs-weaken g _ _ _ _ entry disk_new (omega arith) (omega arith)
            (count-ran (4 * length kept.run.front + 4) kept.count);
      }

  abbrev ran-cut : sink_new ≡ sink_mid → Ran g options old new
  ran-cut same = ran (told-cut same) (λ image left_image. (keeps.left honest_mid image left_image).grows)

  -- the lines of a list are never all of its text
  lines-short : (texts texts_new : Option (List ℕ)) (list : List Rec) → AppendsPrefix texts texts_new (end_lines (list_end opened) list)
      → AppendsPart texts texts_new (run_text opened list)
  lines-short texts texts_new list written = (
    written.0,
    written.1 ++ accounts_text (with_records opened list),
    ap (λ lines. lines ++ accounts_text (with_records opened list)) written.2
        ∙ append_assoc written.0 written.1 (accounts_text (with_records opened list)),
    written.3,
    omega (arith, length-append written.1 (accounts_text (with_records opened list)), accounts_text-some (with_records opened list)),
  )

  -- and not all of its text
  ran-failed : sink_new ≡ sink_mid → RanShort g options old new
  ran-failed same = record {
    ran = ran-cut same;
    short = λ image left_image.
        let kept = keeps.left honest_mid image left_image in
        subst (λ text. AppendsPart (h.held_bytes sink) text (run_text opened kept.run.front)) (sym (ap h.held_bytes same))
        (lines-short (h.held_bytes sink) (h.held_bytes sink_mid) kept.run.front kept.text);
  }

  module _ (fine : ended.fault ≡ None) where
    drained : RunIsDrained g Lines opened records ready.tail.at ring disk disk_new (h.held_bytes sink) (h.held_bytes sink_mid)
        ended.closed.tail ended.closed.accounts.rows
    drained = ended-drained g h ready.prepared opened Lines disk disk_new sink sink_mid ended has fine

    -- else each image holds the whole list, of whose text a front was written
    abbrev told-drained : AppendsPrefix (h.held_bytes sink) (h.held_bytes sink_new) (run_text opened records) → AllTold
    told-drained told image left_image = record {
      run = record {
        front = records;
        rest = [];
        whole = sym (append-nil records);
        holds = drained.images honest_mid image left_image;
        goes_on = keeps.goes_on;
      };
      told = told;
      count = Costs-weaken g _ _ _ _ entry disk_new (omega arith) (omega arith) (count-ran (4 * length records) (drained.count honest_mid));
    }

    abbrev ran-drained : AppendsPrefix (h.held_bytes sink) (h.held_bytes sink_new) (run_text opened records) → Ran g options old new
    ran-drained told = ran (told-drained told) (λ image left_image. drained.grows honest_mid)

    abbrev out : (told : AppendsPrefix (h.held_bytes sink) (h.held_bytes sink_new) (run_text opened records)) → RanOut g options old new
    out told = record { ran = ran-drained told; all = drained.images honest_mid }

    -- the accounts text is that of the whole list
    told-part : AppendsPart (h.held_bytes sink_mid) (h.held_bytes sink_new) (rows_text ended.closed.tail ended.closed.accounts.rows)
        → AppendsPrefix (h.held_bytes sink) (h.held_bytes sink_new) (run_text opened records)
    told-part text = AppendsPrefix-after_Appends (h.held_bytes sink) (h.held_bytes sink_mid) (h.held_bytes sink_new) (run_text opened records)
        (end_lines (list_end opened) records) (accounts_text (with_records opened records)) [] drained.text
        (rw (← drained.accounts) (AppendsPart-prefix _ _ _ text))
        (sym (append-nil (run_text opened records)))

    told-short : AppendsPart (h.held_bytes sink_mid) (h.held_bytes sink_new) (rows_text ended.closed.tail ended.closed.accounts.rows)
        → AppendsPart (h.held_bytes sink) (h.held_bytes sink_new) (run_text opened records)
    told-short text = AppendsPart-after_Appends (h.held_bytes sink) (h.held_bytes sink_mid) (h.held_bytes sink_new) (run_text opened records)
        (end_lines (list_end opened) records) (accounts_text (with_records opened records)) [] drained.text (rw (← drained.accounts) text)
        (sym (append-nil (run_text opened records)))

    ran-short : AppendsPart (h.held_bytes sink_mid) (h.held_bytes sink_new) (rows_text ended.closed.tail ended.closed.accounts.rows)
        → RanShort g options old new
    ran-short text = record { ran = ran-drained (told-part text); short = λ image left_image. told-short text }

    told-whole : Appends (h.held_bytes sink_mid) (h.held_bytes sink_new) (rows_text ended.closed.tail ended.closed.accounts.rows)
        → Appends (h.held_bytes sink) (h.held_bytes sink_new) (run_text opened records)
    told-whole text = Appends-trans (h.held_bytes sink) (h.held_bytes sink_mid) (h.held_bytes sink_new)
        (end_lines (list_end opened) records) (accounts_text (with_records opened records)) drained.text (rw (← drained.accounts) text)

    told-lines : sink_new ≡ sink_mid → Appends (h.held_bytes sink) (h.held_bytes sink_new) (end_lines (list_end opened) records)
    told-lines same =
        subst (λ text. Appends (h.held_bytes sink) text (end_lines (list_end opened) records)) (sym (ap h.held_bytes same)) drained.text

    -- nothing stopped the transfers, and all of the text was written
    whole-ran : AreWhole ended.ends.items
        → Appends (h.held_bytes sink_mid) (h.held_bytes sink_new) (rows_text ended.closed.tail ended.closed.accounts.rows)
        → RanWhole g options old new
    whole-ran all written = let text = told-whole written in record {
      out = out (run_text opened records, [], sym (append-nil (run_text opened records)), text);
      whole = ended-runs_whole g h ready.prepared opened Lines disk disk_new sink sink_mid ended has all;
      text = text;
    }

    -- the log ended, and the lines were written
    into-end : (tail total : ℕ) → IsFirstLogEnd ended.ends.items tail total → sink_new ≡ sink_mid → RanIntoEnd g options tail total old new
    into-end tail total first same = let text = told-lines same in record {
      out = out (end_lines (list_end opened) records, accounts_text (with_records opened records), refl, text);
      stops = subst (λ (made : ℕ × ℕ). StopsAtLogEnd opened jobs taken records made.0 made.1 tail total) (λ i. (is.ring i, is.slots i))
          (ended-stops_at_log_end g h ready.prepared opened Lines disk disk_new sink sink_mid ended has fine tail total first);
      text = text;
    }

  pub Concludes-answers_run : (detail : Detail) → Concludes h ended (closed_text ended) sink_mid sink_new detail
      → AnswersRun g options old new detail
  Concludes-answers_run = Concludes-cases h ended (closed_text ended) sink_mid sink_new (AnswersRun g options old new)
      (λ said. inr (ran-failed said.1)) (λ said. ran-failed said.1) (λ said. ran-short said.0.0 said.1)
      (λ said. whole-ran said.0.0 said.0.1 said.1) (λ tail total said. into-end said.0.0 tail total said.0.1 said.1)

-- ---- what is promised of each answer besides

-- the answers that come before any transfer are answers of `run`
pub IsBeforeRun-answer_to_run : (detail : Detail) → IsBeforeRun detail → IsAnswerToRun detail
IsBeforeRun-answer_to_run Fine before = tt
IsBeforeRun-answer_to_run Write before = tt
IsBeforeRun-answer_to_run (LogEnd tail total) before = tt
IsBeforeRun-answer_to_run detail before = before

-- where nothing was written, all that has to stay silent did
pub RunStaysSilent-refl : (text : Option (List ℕ)) (detail : Detail) → RunStaysSilent text text detail
RunStaysSilent-refl text Fine = tt
RunStaysSilent-refl text (LogEnd tail total) = tt
RunStaysSilent-refl text Write = tt
RunStaysSilent-refl text Disk = tt
RunStaysSilent-refl text detail = Keeps-refl text

-- no answer that comes before any transfer is a fault of the output
pub IsBeforeRun-not_write : (detail : Detail) → IsBeforeRun detail → detail ≡ Write → ⊥
IsBeforeRun-not_write detail before is = subst IsBeforeRun is before

-- what is concluded is an answer of `run` at which something may be written, and no fault of the input
module _ {K : Type 0} (h : SinkGhosts K) (ended : RunEnd) (text : List ℕ) (sink sink_new : K) where
  pub Concludes-answer_to_run : (detail : Detail) → Concludes h ended text sink sink_new detail → IsAnswerToRun detail
  Concludes-answer_to_run = Concludes-cases h ended text sink sink_new IsAnswerToRun (λ _. tt) (λ _. tt) (λ _. tt) (λ _. tt) (λ _ _ _. tt)

  pub Concludes-stays_silent : (old new : Option (List ℕ)) (detail : Detail) → Concludes h ended text sink sink_new detail
      → RunStaysSilent old new detail
  Concludes-stays_silent old new =
      Concludes-cases h ended text sink sink_new (RunStaysSilent old new) (λ _. tt) (λ _. tt) (λ _. tt) (λ _. tt) (λ _ _ _. tt)

  pub Concludes-not_read : (detail : Detail) → Concludes h ended text sink sink_new detail → detail ≡ Read → ⊥
  Concludes-not_read detail concludes is = subst (Concludes h ended text sink sink_new) is concludes
