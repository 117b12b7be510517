-- What `demo` answers: the log that it makes, what is promised of the transfers, and what was concluded.
use Rattle.std.proofs.Common.{Bool, ◌≡◌, ◌≤◌, ◌⊎◌, ⊎_elim, inl, inr, refl, ap, sym, ◌∙◌, subst, ℕ, zero, suc, ◌+◌, ◌*◌, List, [], ◌∷◌, length, map}
use Rattle.std.proofs.Common.{replicate, All, Option, Some, None, arith, append-nil}
use Rattle.std.proofs.KnownBytes.{Appends-trans}
use Rattle.std.proofs.lemmas.List.{length-replicate}
use Rattle.std.proofs.lemmas.List.Elements.{All-replicate}
use Rattle.std.specs.Io.KnownBytes.{Appends, Keeps}
use Rattle.log_disk.proofs.Counting.{Costs-weaken, Costs-trans}
use Rattle.log_disk.proofs.Lengths.{GrowsAtMostTo-weaken, GrowsAtMostTo-same, GrowsAtMostTo-trans}
use Rattle.log_disk.specs.Costs.{Costs}
use Rattle.log_disk.specs.Disk.{Leaves}
use Rattle.log_disk.specs.Lengths.{GrowsAtMostTo}
use Rattle.log_disk.specs.Streams.{AppendsPrefix}
use Rattle.log_disk.specs.declared.disk.LogDisk.{Ghosts}
use Rattle.log_disk.specs.declared.sink.Sink.{Ghosts as SinkGhosts}
use Rattle.log_disk.proofs.Moments.{Leaves-trans, Leaves-weaken}
use Rattle.log_record.specs.declared.rec.Rec.{Rec}
use Rattle.log_record.specs.LogList.{units_of, end_of}
use Rattle.log_record.specs.Spelling.{IsBalance}
use Rattle.lock_core.specs.History.{history_from}
use Rattle.lock_core.specs.Serial.{numbered, IsPartlySerialAfter, IsSerialAfter}
use Rattle.lock_core.specs.AccountRows.{row, KeepsRows}
use Rattle.lock_core.specs.Sums.{BaseState, greatest_txn}
use Rattle.lock_core.proofs.JudgingLemmas.{keeps_rows-shows_accounts}
use Rattle.log_recovery.specs.Recovery.{HoldsLawful}
use Rattle.log_recovery.specs.Opened.{list_end, placed, base_in, base_left}
use Rattle.log_recovery.proofs.OpenedLemmas.{list_end-more}
use Rattle.segment_file.proofs.FirstFormat.{AllStand-LogStands}
use Rattle.log_rule.specs.declared.start.Start.{Start}
use Rattle.log_rule.specs.FirstAccounts.{HasAccounts}
use Rattle.log_table.specs.Seats.{key_of}
use Rattle.segment_file.specs.File.{HoldsUnits}
use Rattle.segment_file.specs.Lengths.{most_end, new_end}
use Rattle.segment_file.specs.StandingLog.{AllStand, HoldsNoneOr, IsShut}
use Rattle.segment_file.specs.declared.scan_result.Tail.{Tail}
use Rattle.daemon_turn.specs.declared.fault.DaemonFault.TheVariants.{WriteFault}
use Rattle.end_lines.specs.declared.voice.Voice.{Voice}
use Rattle.end_lines.specs.declared.voice.Voice.TheVariants.{Count, Lines}
use Rattle.job_queue.specs.Passes.{jobs_of}
use Rattle.txn_jobs.specs.Places.{NumberedJobs}
use Rattle.txn_script.specs.Generator.{generated_transfers}
use Rattle.lock_core.specs.Transfers.{transfer_of}
use Rattle.cli_shared.specs.declared.report.Detail.{Detail}
use Rattle.cli_shared.specs.declared.report.Detail.TheVariants.{Fine, NoMemory, Usage, Script, Read, Write, Disk, NotALog, BadSnapshot, BadBatch}
use Rattle.cli_shared.specs.declared.report.Detail.TheVariants.{BadRec, Unlawful, LogEnd, TxnEnd, Exists, NoSuchLsn, BadStream, Gap, StreamUnlawful}
use Rattle.cli_shared.specs.declared.report.Detail.TheVariants.{NoAccount}
use Rattle.cli_threads.specs.declared.transfers.ReadyRun.{ReadyRun}
use Rattle.cli_ending.specs.declared.conclusion.RunEnd.{RunEnd}
use Rattle.cli_threads.specs.declared.transfers.Prepared.{Prepared}
use Rattle.cli_shared.specs.Creation.{IsFindingFault, TellsWhether, genesis_list}
use Rattle.command_line.specs.Ranges.{AreInRange}
use Rattle.command_line.specs.declared.options.RunOptions.{RunOptions}
use Rattle.cli_demo.specs.Demo.{AnswersDemo, IsAnswerToDemo, IsPreparedDemo, IsReadyDemo, MayPrecede, OnlyMakes, RanAllGenerated, RanGenerated, TellsSummary, generated_end}
use Rattle.cli_ending.specs.Conclusion.{AreWhole, Concludes, IsFirstLogEnd, NothingStopped, counted_text}
use Rattle.cli_threads.specs.Ending.{HasEnded}
use Rattle.cli_demo.specs.Summary.{generated_opening, generated_rows, summary_text}
use Rattle.run_plan.specs.Summary.{summary_of}
use Rattle.cli_shared.specs.Opening.{OnlyLooks}
use Rattle.cli_threads.specs.Sharing.{IsSharedOut, Sharing}
use Rattle.cli_threads.specs.Transferred.{IsOpened}
use Rattle.cli_threads.proofs.EndingLemmas.{Concludes-cases, list, sharing, ended-counted, ended-drained, ended-keeps_log, ended-keeps_rows}
use Rattle.cli_threads.proofs.EndingLemmas.{ended-partly_serial_after, ended-shared_out, write_fault-voice_lines, ended-stops_at_log_end}
use Rattle.cli_threads.proofs.EndingLemmas.{ended-text_prefix, ended-runs_whole, ended-serial_after}
use Rattle.cli_demo.proofs.GeneratedEnd.{end_of-partly_serial_le, never-log_end}
use Rattle.cli_shared.proofs.GenesisLemmas.{end_of-genesis, genesis-holds_lawful, genesis-keeps_rows, genesis-lawful, genesis-spellable, opening_rows}
use Rattle.cli_threads.proofs.RunBegun.{Leaves-before_or_run}
use Rattle.cli_threads.proofs.RunHistory.{later_of}
use Rattle.cli_threads.proofs.RunPlaces.{tasks_of}
use Rattle.cli_demo.proofs.SummaryLemmas.{summary_of-summary_text, opening-generated, opening-end}

-- ---- the new log

abbrev balances : List ℕ
balances = replicate 64 1000000

few-balances : length balances ≤ 4096
few-balances = let count = length-replicate {A = ℕ} 64 1000000 in omega arith

each-balance : All IsBalance balances
each-balance = All-replicate IsBalance 64 1000000 (omega arith)

rows-replicate : (n balance : ℕ) → opening_rows (replicate n balance) ≡ replicate n (balance, 0)
rows-replicate zero balance = refl
rows-replicate (suc n) balance = ap (λ rows. (balance, 0) ∷ rows) (rows-replicate n balance)

firsts-replicate : (n balance : ℕ) → map (λ (row : ℕ × ℕ). row.0) (replicate n (balance, 0)) ≡ replicate n balance
firsts-replicate zero balance = refl
firsts-replicate (suc n) balance = ap (λ more. balance ∷ more) (firsts-replicate n balance)

-- the list of accounts with these rows is the one over which generated transfers run
pub genesis_list-generated : (rows : List (ℕ × ℕ)) → rows ≡ generated_rows → genesis_list (map (λ row. row.0) rows) ≡ generated_opening.records
genesis_list-generated rows same = ap (λ rs. genesis_list (map (λ (row : ℕ × ℕ). row.0) rs)) same ∙ ap genesis_list (firsts-replicate 64 1000000)

pub generated_rows-length : (rows : List (ℕ × ℕ)) → rows ≡ generated_rows → length rows ≡ 64
generated_rows-length rows same = ap length same ∙ length-replicate {A = ℕ × ℕ} 64 (1000000, 0)

pub generated_rows-all_balances : (rows : List (ℕ × ℕ)) → rows ≡ generated_rows → All (λ (row : ℕ × ℕ). IsBalance row.0) rows
generated_rows-all_balances rows same = subst (All (λ (row : ℕ × ℕ). IsBalance row.0)) (sym same)
    (All-replicate (λ (row : ℕ × ℕ). IsBalance row.0) 64 (1000000, 0) (omega arith))

pub end-opening : end_of generated_opening.records ≡ 128
end-opening = end_of-genesis 0 balances ∙ ap (λ n. 2 * n) (length-replicate {A = ℕ} 64 1000000)

last_commits-none : (n balance account : ℕ) → (row (replicate n (balance, 0)) account).1 ≡ 0
last_commits-none zero balance account = refl
last_commits-none (suc n) balance zero = refl
last_commits-none (suc n) balance (suc account) = last_commits-none n balance account

kept-opening : (rows : List (ℕ × ℕ)) → rows ≡ generated_rows → KeepsRows rows (base_in generated_opening) (placed generated_opening)
kept-opening rows same = subst (λ rs. KeepsRows rs (base_in generated_opening) (placed generated_opening))
    (rows-replicate 64 1000000 ∙ sym same) (genesis-keeps_rows balances few-balances each-balance)

-- the table can start with them
pub accounts-generated : (key : Start) → key.accounts.rows ≡ generated_rows → HasAccounts key
accounts-generated key same = record {
  some_accounts = omega (arith, generated_rows-length key.accounts.rows same);
  few = omega (arith, generated_rows-length key.accounts.rows same);
  balances = (kept-opening key.accounts.rows same).range;
  last_commits = λ account inside. let none = ap (λ rs. (row rs account).1) same ∙ last_commits-none 64 1000000 account in omega arith;
}

-- what holds its units holds it
holds-generated : (units bytes : List ℕ) → units ≡ units_of generated_opening.records → HoldsUnits bytes units → HoldsLawful bytes generated_opening
holds-generated units bytes same held = genesis-holds_lawful balances few-balances each-balance bytes (subst (HoldsUnits bytes) same held)

-- ---- the log is made

module _ {D : Type 0} (g : Ghosts D) (old mid new : D) (units : List ℕ) (made : units ≡ units_of generated_opening.records)
    (found : Leaves g.moment g.images_since (g.images old) old mid) (one : Costs g 1 4 old mid) (read : g.reads mid ≡ g.reads old) where
  pub HoldsNoneOr-only_makes : Leaves g.moment g.images_since (HoldsNoneOr units) mid new → Costs g 6 7 mid new → GrowsAtMostTo g (13 + 8 * length units) mid new
      → OnlyMakes g old new
  HoldsNoneOr-only_makes created writes grows = record {
    images = Leaves-trans g.moment g.images_since (λ bytes. MayPrecede (g.images old) bytes ⊎ HoldsLawful bytes generated_opening) old mid new
        (Leaves-weaken g.moment g.images_since (g.images old) (λ bytes. MayPrecede (g.images old) bytes ⊎ HoldsLawful bytes generated_opening)
        old mid (λ bytes image. inl (inl image)) found)
        (Leaves-weaken g.moment g.images_since (HoldsNoneOr units) (λ bytes. MayPrecede (g.images old) bytes ⊎ HoldsLawful bytes generated_opening)
        mid new (λ bytes. ⊎_elim (λ none. inl (inr none)) (λ held. inr (holds-generated units bytes made held))) created);
    count = Costs-trans g 1 6 4 7 old mid new one writes;
    grows = GrowsAtMostTo-trans g (generated_end + 1) old mid new (GrowsAtMostTo-same g (generated_end + 1) old mid read)
        (GrowsAtMostTo-weaken g (13 + 8 * length units) (generated_end + 1) mid new (omega (arith, ap length made)) grows);
  }

pub same_images-only_makes : {D : Type 0} (g : Ghosts D) (old new : D) → Leaves g.moment g.images_since (g.images old) old new
    → Costs g 1 4 old new → g.reads new ≡ g.reads old → OnlyMakes g old new
same_images-only_makes g old new found one read = record {
  images = Leaves-weaken g.moment g.images_since (g.images old) (λ bytes. MayPrecede (g.images old) bytes ⊎ HoldsLawful bytes generated_opening)
      old new (λ bytes image. inl (inl image)) found;
  count = Costs-weaken g 1 7 4 11 old new (omega arith) (omega arith) one;
  grows = GrowsAtMostTo-same g (generated_end + 1) old new read;
}

-- no log is made, since one was found, or the disk failed
pub IsFindingFault-answers_demo : {D : Type 0} (g : Ghosts D) (n seed : ℕ) (options : RunOptions) (old new : D) (detail : Detail) → IsFindingFault detail → OnlyLooks g old new → Costs g 1 4 old new
    → AnswersDemo g n seed options old new detail
IsFindingFault-answers_demo g n seed options old new Disk is looks few = inl (same_images-only_makes g old new looks.images few looks.reads)
IsFindingFault-answers_demo g n seed options old new Exists is looks few = looks
IsFindingFault-answers_demo g n seed options old new (NoSuchLsn lsn) is looks few = absurd is
IsFindingFault-answers_demo g n seed options old new (BadStream offset) is looks few = absurd is
IsFindingFault-answers_demo g n seed options old new (Gap have from) is looks few = absurd is
IsFindingFault-answers_demo g n seed options old new (StreamUnlawful lsn why) is looks few = absurd is
IsFindingFault-answers_demo g n seed options old new (NoAccount account) is looks few = absurd is
IsFindingFault-answers_demo g n seed options old new Fine is looks few = absurd is
IsFindingFault-answers_demo g n seed options old new NoMemory is looks few = absurd is
IsFindingFault-answers_demo g n seed options old new Usage is looks few = absurd is
IsFindingFault-answers_demo g n seed options old new (Script line) is looks few = absurd is
IsFindingFault-answers_demo g n seed options old new Read is looks few = absurd is
IsFindingFault-answers_demo g n seed options old new Write is looks few = absurd is
IsFindingFault-answers_demo g n seed options old new NotALog is looks few = absurd is
IsFindingFault-answers_demo g n seed options old new BadSnapshot is looks few = absurd is
IsFindingFault-answers_demo g n seed options old new (BadBatch offset) is looks few = absurd is
IsFindingFault-answers_demo g n seed options old new (BadRec lsn) is looks few = absurd is
IsFindingFault-answers_demo g n seed options old new (Unlawful lsn why) is looks few = absurd is
IsFindingFault-answers_demo g n seed options old new (LogEnd tail total) is looks few = absurd is
IsFindingFault-answers_demo g n seed options old new (TxnEnd first count) is looks few = absurd is

-- so the disk was only looked at, and nothing was written
pub same_images-only_looks : {D : Type 0} (g : Ghosts D) (old new : D) → Leaves g.moment g.images_since (g.images old) old new → g.reads new ≡ g.reads old
    → Costs g 1 4 old new → OnlyLooks g old new
same_images-only_looks g old new found read one =
    record { images = found; reads = read; count = Costs-weaken g 1 1 4 _ old new (omega arith) (omega arith) one }

module _ {D : Type 0} (g : Ghosts D) (n seed : ℕ) (options : RunOptions) (prepared : Prepared) (is : IsPreparedDemo n seed options prepared) (disk : D) (tail : Tail)
    (units : List ℕ) (made : units ≡ units_of generated_opening.records) where
  pub opened-generated : (g.honest disk → AllStand tail units (g.images disk)) → (g.honest disk → IsShut tail.at (g.images disk))
      → tail.at ≡ 12 + 8 * length units → tail.next ≡ length units
      → IsOpened g disk tail generated_opening prepared.jobs.queue.first (key_of prepared.table)
  opened-generated stand shut place next =
      let counted : length units ≡ 128 = ap length made ∙ end-opening in
      record {
        spellable = genesis-spellable balances few-balances each-balance;
        lawful = genesis-lawful balances few-balances each-balance;
        range = λ account none. absurd (omega arith);
        some_accounts = omega (arith, opening-generated.accounts);
        below = let none : greatest_txn (placed generated_opening) ≡ 0 = refl in omega (arith, none, is.generated.first);
        stand = λ honest. AllStand-LogStands tail (units_of generated_opening.records) (g.images disk) (subst (λ us. AllStand tail us (g.images disk)) made (stand honest));
        shut = shut;
        next = omega (arith, next, counted, end-opening);
        place = omega (arith, place, counted);
        start = omega (arith, is.start, end-opening);
        accounts = keeps_rows-shows_accounts _ _ _ (kept-opening _ is.accounts);
      }

-- the log was made of what was prepared, and the transfers are ready to be run over it
module _ {D : Type 0} (g : Ghosts D) (n seed : ℕ) (options : RunOptions) (ready : ReadyRun) (is : IsPreparedDemo n seed options ready.prepared)
    (old mid new : D) (units : List ℕ) (made : units ≡ units_of generated_opening.records) where
  pub ready-created : (g.honest new → AllStand ready.tail units (g.images new)) → (g.honest new → IsShut ready.tail.at (g.images new))
      → ready.tail.at ≡ 12 + 8 * length units → ready.tail.next ≡ length units → (g.honest old → OnlyMakes g old new)
      → IsReadyDemo g n seed options old new ready
  ready-created stand shut place next makes = record {
    log = opened-generated g n seed options ready.prepared is new ready.tail units made stand shut place next;
    place = place ∙ ap (λ (us : List ℕ). new_end (length us)) made;
    ring = is.ring;
    generated = is.generated;
    workers_are = is.workers_are;
    prepared = is.ready;
    made = makes;
  }

-- ---- the transfers have ended

Appends-none : (a b : Option (List ℕ)) → AppendsPrefix a b [] → Appends a b []
Appends-none a b ([], rest, whole, appended) = appended
Appends-none a b (byte ∷ bytes, rest, whole, appended) = cc

Appends-keeps : (a b : Option (List ℕ)) → Appends a b [] → Keeps a b
Appends-keeps None b appended = tt
Appends-keeps (Some xs) None appended = absurd appended
Appends-keeps (Some xs) (Some ys) appended = appended ∙ append-nil xs

-- a new log's end, as the base state that the transfers follow has it
later-opening : (records : List Rec) → later_of generated_opening records ≡ history_from (base_left generated_opening).end [] records
later-opening records =
    let same : list_end generated_opening ≡ (base_left generated_opening).end = omega (arith, end-opening, opening-end) in
    ap (λ end. history_from end [] records) same

module _ {D : Type 0} {K : Type 0} (g : Ghosts D) (h : SinkGhosts K) (n seed : ℕ) (options : RunOptions) (range : AreInRange options) (few : n ≤ 100000) (ready : ReadyRun) {wait : Bool}
    (entry disk disk_new : D)
    (sink sink_mid sink_new : K) (ended : RunEnd) (is : IsReadyDemo g n seed options entry disk ready)
    (has : HasEnded g h ready.prepared generated_opening ready.tail Count wait disk disk_new sink sink_mid ended) where
  abbrev jobs : NumberedJobs
  jobs = jobs_of ready.prepared.jobs.queue

  abbrev records : List Rec
  records = list g h ready.prepared generated_opening Count disk disk_new sink sink_mid ended has

  -- which worker took which transfers
  abbrev taken : Sharing
  taken = sharing g h ready.prepared generated_opening Count disk disk_new sink sink_mid ended has

  shared : IsSharedOut options.workers jobs taken
  shared = subst (λ w. IsSharedOut w jobs taken) is.workers_are
      (ended-shared_out g h ready.prepared generated_opening Count disk disk_new sink sink_mid ended has)

  abbrev base : BaseState
  base = base_left generated_opening

  tasks : tasks_of jobs ≡ numbered 1 (generated_transfers n seed)
  tasks = λ i. numbered (is.generated.first i) (map transfer_of (is.generated.script i))

  partly : IsPartlySerialAfter base (numbered 1 (generated_transfers n seed)) (history_from base.end [] records)
  partly = subst (IsPartlySerialAfter base (numbered 1 (generated_transfers n seed))) (later-opening records)
      (subst (λ ts. IsPartlySerialAfter base ts (later_of generated_opening records)) tasks
      (ended-partly_serial_after g h ready.prepared generated_opening Count disk disk_new sink sink_mid ended has))

  -- nothing was told of the transfers
  silent : Appends (h.held_bytes sink) (h.held_bytes sink_mid) []
  silent = Appends-none (h.held_bytes sink) (h.held_bytes sink_mid)
      (ended-text_prefix g h ready.prepared generated_opening Count disk disk_new sink sink_mid ended has).1

  -- so the sink never stopped the daemon
  never-fails : ended.fault ≡ Some WriteFault → ⊥
  never-fails fault = subst IsCount (write_fault-voice_lines g h ready.prepared generated_opening Count disk disk_new sink sink_mid ended has fault) tt
    where
      IsCount : Voice → Type 0
      IsCount Count = Unit {0}
      IsCount Lines = ⊥

  -- and none of them came to the end of the log
  no-log_end : (tail total : ℕ) → ended.fault ≡ None → IsFirstLogEnd ended.ends.items tail total → ⊥
  no-log_end tail total fine first = never-log_end n seed few jobs is.generated.script options.workers taken shared generated_opening
      records _ _ tail total range.workers.1 (omega (arith, end-opening))
      (end_of-partly_serial_le n seed 1 base few opening-generated records partly)
      (ended-stops_at_log_end g h ready.prepared generated_opening Count disk disk_new sink sink_mid ended has fine tail total first)

  -- where nothing befell them, their summary is what their number and seed tell
  summary-ended : ended.fault ≡ None → AreWhole ended.ends.items → counted_text n ended ≡ summary_text n seed
  summary-ended fine all =
      let counts = ended-counted g h ready.prepared generated_opening Count disk disk_new sink sink_mid ended has fine in
      let drained = ended-drained g h ready.prepared generated_opening Count disk disk_new sink sink_mid ended has fine in
      let longer = list_end-more generated_opening records in
      let lsn : ended.closed.tail ≡ base.end + end_of records = omega (arith, drained.end, longer, end-opening, opening-end) in
      let whole : IsSerialAfter base (numbered 1 (generated_transfers n seed)) (history_from base.end [] records) =
      subst (IsSerialAfter base (numbered 1 (generated_transfers n seed))) (later-opening records)
      (subst (λ ts. IsSerialAfter base ts (later_of generated_opening records)) tasks
      (ended-serial_after g h ready.prepared generated_opening Count disk disk_new sink sink_mid ended has all)) in
      let kept = subst (KeepsRows ended.closed.accounts.rows base) (later-opening records)
      (ended-keeps_rows g h ready.prepared generated_opening Count disk disk_new sink sink_mid ended has) in
      (λ i. summary_of (record { transfers = n; done = counts.0 i; refused = counts.1 i; lsn = lsn i }) ended.closed.accounts.rows)
      ∙ summary_of-summary_text n seed 1 base records ended.closed.accounts.rows few opening-generated whole kept opening-end

  pub Concludes-tells_summary : (detail : Detail) → Concludes h ended (counted_text n ended) sink_mid sink_new detail
      → TellsSummary n seed (h.held_bytes sink) (h.held_bytes sink_new) detail
  Concludes-tells_summary = Concludes-cases h ended (counted_text n ended) sink_mid sink_new (TellsSummary n seed (h.held_bytes sink) (h.held_bytes sink_new))
      (λ said. subst (λ s. Keeps (h.held_bytes sink) (h.held_bytes s)) (sym said.1) (Appends-keeps (h.held_bytes sink) (h.held_bytes sink_mid) silent))
      (λ said. absurd (never-fails said.0))
      (λ said. let text = said.1 in (
        text.0,
        text.1,
        sym (summary-ended said.0.0 said.0.1) ∙ text.2,
        Appends-trans (h.held_bytes sink) (h.held_bytes sink_mid) (h.held_bytes sink_new) [] text.0 silent text.3,
        text.4,
      ))
      (λ said. subst (Appends (h.held_bytes sink) (h.held_bytes sink_new)) (summary-ended said.0.0 said.0.1)
      (Appends-trans (h.held_bytes sink) (h.held_bytes sink_mid) (h.held_bytes sink_new) [] (counted_text n ended) silent said.1))
      (λ tail total said. absurd (no-log_end tail total said.0.0 said.0.1))

  pub Concludes-answer_to_demo : (detail : Detail) → Concludes h ended (counted_text n ended) sink_mid sink_new detail → IsAnswerToDemo detail
  Concludes-answer_to_demo = Concludes-cases h ended (counted_text n ended) sink_mid sink_new IsAnswerToDemo (λ _. tt) (λ _. tt) (λ _. tt) (λ _. tt)
      (λ tail total said. absurd (no-log_end tail total said.0.0 said.0.1))

  -- it was found that no log is there
  pub Concludes-tells_whether : (opened : Type 0) → (opened → ⊥) → (detail : Detail) → Concludes h ended (counted_text n ended) sink_mid sink_new detail
      → TellsWhether opened detail
  Concludes-tells_whether opened closed = Concludes-cases h ended (counted_text n ended) sink_mid sink_new (TellsWhether opened) (λ _. tt) (λ _. closed)
      (λ _. closed) (λ _. closed) (λ _ _ _. closed)

  module _ (honest : g.honest entry) (honest_mid : g.honest disk) where
    made : OnlyMakes g entry disk
    made = is.made honest

    ran : RanGenerated g n seed options entry disk_new
    ran = record {
      jobs = jobs;
      generated = is.generated;
      sharing = taken;
      shared = shared;
      list = records;
      goes_on = (ended-keeps_log g h ready.prepared generated_opening Count disk disk_new sink sink_mid ended has).goes_on;
      images = Leaves-before_or_run g disk ready.tail generated_opening jobs taken _ is.log records (MayPrecede (g.images entry)) entry disk_new made.images
          ((ended-keeps_log g h ready.prepared generated_opening Count disk disk_new sink sink_mid ended has).moments honest_mid);
      kept = λ image left_image.
          let left = (ended-keeps_log g h ready.prepared generated_opening Count disk disk_new sink sink_mid ended has).left honest_mid image left_image in
          record {
            run = left.run;
            count = Costs-weaken g _ _ _ _ entry disk_new (omega arith) (omega arith)
                (Costs-trans g 7 (4 * length left.run.front + 4) 11 (4 * length left.run.front + 4) entry disk disk_new made.count left.count);
          };
      grows = λ image left_image.
          let left = (ended-keeps_log g h ready.prepared generated_opening Count disk disk_new sink sink_mid ended has).left honest_mid image left_image in
          let place : ℕ = most_end generated_end (end_of left.run.front) options.ring in
          GrowsAtMostTo-trans g place entry disk disk_new
          (GrowsAtMostTo-weaken g (generated_end + 1) place entry disk (omega arith) made.grows)
          (GrowsAtMostTo-weaken g (most_end ready.tail.at (end_of left.run.front) (key_of ready.prepared.table).ring) place disk disk_new
          (omega (arith, is.place, is.ring)) left.grows);
    }

    -- nothing stopped the transfers
    ran-all : NothingStopped ended → RanAllGenerated g n seed options entry disk_new
    unfolding ran
    ran-all nothing = record {
      ran = ran;
      all = (ended-drained g h ready.prepared generated_opening Count disk disk_new sink sink_mid ended has nothing.0).images honest_mid;
      whole = ended-runs_whole g h ready.prepared generated_opening Count disk disk_new sink sink_mid ended has nothing.1;
    }

    pub answers-demo : (detail : Detail) → Concludes h ended (counted_text n ended) sink_mid sink_new detail
        → AnswersDemo g n seed options entry disk_new detail
    unfolding ran
    answers-demo = Concludes-cases h ended (counted_text n ended) sink_mid sink_new (AnswersDemo g n seed options entry disk_new) (λ _. inr ran)
        (λ said. absurd (never-fails said.0)) (λ said. ran-all said.0) (λ said. ran-all said.0)
        (λ tail total said. no-log_end tail total said.0.0 said.0.1)
