-- A worker's next transfer, behind those that it took before, at the places `taken`. `old` and `new` are its seat's view before and after
-- that transfer.
use Rattle.std.proofs.Common.{◌≡◌, ◌≢◌, ◌⊎◌, inl, inr, ⊎_elim, ◌∙◌, ℕ, ◌+◌, ◌<◌, ◌≤◌, List, [], ◌∷◌, ◌++◌, length, All, Contains, sym, ap, subst, arith, refl, Bool, true, false, true≢false}
use Rattle.std.proofs.lemmas.List.Elements.{All-contains, All-from_recursion, recursion_from_All, Contains-append_cases, Contains-append_left}
use Rattle.std.proofs.lemmas.List.Elements.{Contains-append_right, Contains-push, Contains-push_cases}
use Rattle.std.specs.List.{AllByRecursion}
use Rattle.lsn_space.proofs.TilingLemmas.{all-weaken, all-append}
use Rattle.log_record.specs.declared.rec.Rec.{Rec}
use Rattle.lock_core.specs.Records.{txn_of, ends}
use Rattle.lock_core.proofs.ListLemmas.{all-split}
use Rattle.lock_core.specs.declared.job.Job.{Job}
use Rattle.lock_core.specs.Transfers.{IsAllowedJob}
use Rattle.log_rule.specs.declared.view.Entry.{Entry}
use Rattle.log_rule.specs.declared.view.TakenJob.{TakenJob}
use Rattle.log_rule.specs.declared.view.View.{View}
use Rattle.log_rule.specs.Accounts.{MayBeTaken}
use Rattle.lock_core.specs.Transfers.{transfer_of}
use Rattle.log_rule.specs.ClosedLog.{records_of}
use Rattle.log_rule.specs.May.{MayTakeJob}
use Rattle.ring_buffer.specs.Calls.{IsReady}
use Rattle.txn_jobs.specs.declared.cause.Cause.{Cause}
use Rattle.txn_jobs.specs.declared.cause.Cause.TheVariants.{Stop, LogEnd}
use Rattle.txn_jobs.specs.declared.cause.Worked.{Worked}
use Rattle.txn_jobs.specs.declared.cause.Worked.TheVariants as worked
use Rattle.txn_jobs.specs.declared.rows.Row.{Row}
use Rattle.job_queue.specs.declared.queue.Queue.{Queue}
use Rattle.job_queue.specs.declared.rows.Rows.{Rows}
use Rattle.job_queue.specs.Passes.{jobs_of, places_in, TakesPlace}
use Rattle.txn_making.proofs.Adding.{LieInOrder-append}
use Rattle.txn_runner.specs.Running.{outcome_of, LieInOrder, IsUncommittedAt, HasInserted, HasRun, HasCut}
use Rattle.txn_runner.specs.Places.{NumberedJobs, number_at, job_at, taken_at, jobs_taken, IsOneOf}
use Rattle.txn_runner.specs.Working.{LieInTurn, HasWorked, HasEnd, HaveEnded, own_records, IsCutBy, Works}
use Rattle.txn_runner.proofs.EntryLemmas.{records_of-all, own_records-append, own_records-none, own_records-all, LieInOrder-starts, LieInOrder-ends}
use Rattle.txn_runner.proofs.PlanLemmas.{IsRecordOf, planned_records-all_of_txn, planned_records-front_no_end, end_record-txn, end_record-ends}
use Rattle.txn_jobs.proofs.Rising.{Rises-push}
use Rattle.txn_runner.proofs.PlaceLemmas.{jobs_taken-push, jobs_taken-below, taken_at-allowed}

-- this is the transfer at the place, under its number, and the place is above those before
pub record IsNextJob (jobs : NumberedJobs) (taken : List ℕ) (place number : ℕ) (job : Job) : Type 0 where
  pub within : place < length jobs.script
  pub above : AllByRecursion (λ before. before < place) taken
  pub number_is : number ≡ number_at jobs place
  pub job_is : job ≡ job_at jobs place

-- so is one at a place that the rows' pass took
pub IsNextJob-taken : (queue : Queue) (number : ℕ) (job : Job) (old new : Rows) (takes : TakesPlace queue number job old new)
    → IsNextJob (jobs_of queue) (places_in old) takes.place number job
IsNextJob-taken queue number job old new takes =
    record { within = takes.within; above = takes.above; number_is = takes.number_is; job_is = takes.job_is }

-- the record of an entry is of a transaction before the script's first, or of one at these places
abbrev pub IsOwnEntry : NumberedJobs → List ℕ → Entry → Type 0
IsOwnEntry jobs taken entry = (txn_of entry.rec < jobs.first) ⊎ IsOneOf jobs taken (txn_of entry.rec)

-- an end record stays, whatever is added
HasEnd-append : (number : ℕ) (entries added : List Entry) → HasEnd number entries → HasEnd number (entries ++ added)
HasEnd-append number entries added ended = record {
  end = ended.end;
  contains = Contains-append_left entries added ended.end ended.contains;
  number_is = ended.number_is;
  is_end = ended.is_end;
}

module _ (jobs : NumberedJobs) (taken : List ℕ) (place number : ℕ) (job : Job) (next : IsNextJob jobs taken place number job) where
  -- what is said of the transfer, said of the one at the place
  pub IsNextJob-same_at_place : (P : ℕ → Job → Type 0) → P number job → P (number_at jobs place) (job_at jobs place)
  IsNextJob-same_at_place P said = subst (λ n. P n (job_at jobs place)) next.number_is (subst (P number) next.job_is said)

-- the worker may take the next transfer of the queue
pub MayTakeJob-next : (queue : Queue) (taken : List ℕ) (place number : ℕ) (job : Job) → IsNextJob (jobs_of queue) taken place number job
    → (accounts : ℕ) (view : View) → IsReady view → view.books.held ≡ [] → All (IsAllowedJob accounts) queue.script
    → HasWorked (jobs_of queue) taken view → MayTakeJob accounts number job view
MayTakeJob-next queue taken place number job next accounts view ready none_held allowed worked = record {
  rests = ready.rests;
  none_held = none_held;
  allowed = subst (λ n. MayBeTaken accounts (record { number = n; job = job })) (sym next.number_is)
      (subst (λ j. MayBeTaken accounts (record { number = number_at (jobs_of queue) place; job = j })) (sym next.job_is)
      (taken_at-allowed queue accounts place allowed next.within));
  above = subst (λ n. AllByRecursion (IsBelow n) view.books.jobs) (sym next.number_is)
      (subst (AllByRecursion (IsBelow (number_at (jobs_of queue) place))) (sym worked.jobs_are)
      (all-append (IsBelow (number_at (jobs_of queue) place))
      (jobs_taken (jobs_of queue) taken) worked.earlier (jobs_taken-below (jobs_of queue) taken place next.above)
      (all-weaken (IsBelow queue.first) (IsBelow (number_at (jobs_of queue) place)) worked.earlier
      (λ taken below. omega (arith, below)) worked.numbers)));
}
  where
    IsBelow : ℕ → TakenJob → Type 0
    IsBelow n taken = taken.number < n

-- a place that is taken is below the next
below-next : (taken : List ℕ) (place before : ℕ) → AllByRecursion (λ before. before < place) taken → Contains taken before → before < place
below-next taken place before above = All-contains (λ before. before < place) taken before
    (All-from_recursion (λ before. before < place) taken above)

-- what was inserted for the transfer at a place above those before, behind what was there
module _ (jobs : NumberedJobs) (taken : List ℕ) (place : ℕ) (above : AllByRecursion (λ before. before < place) taken) (rest : List Rec) (old new : View)
    (inserted : HasInserted (number_at jobs place) (job_at jobs place) rest old new) where
  added-own : AllByRecursion (λ (entry : Entry). txn_of entry.rec ≡ number_at jobs place) inserted.added
  added-own = records_of-all (IsRecordOf (number_at jobs place)) inserted.added
      (all-split (IsRecordOf (number_at jobs place)) (records_of inserted.added) rest
      (subst (AllByRecursion (IsRecordOf (number_at jobs place))) (sym inserted.plan)
      (planned_records-all_of_txn (number_at jobs place) (transfer_of (job_at jobs place)) inserted.last_commits inserted.balances))).0

  taken-next : (places : List ℕ) (earlier : List TakenJob) → old.books.jobs ≡ jobs_taken jobs places ++ earlier
      → new.books.jobs ≡ jobs_taken jobs (places ++ place ∷ []) ++ earlier
  taken-next places earlier is = inserted.jobs ∙ ap (λ l. taken_at jobs place ∷ l) is ∙ sym
      (ap (λ l. l ++ earlier) (jobs_taken-push jobs places place))

  -- it lies behind what was there, and that is of transfers at places below
  in_turn-next : HasWorked jobs taken old → LieInTurn jobs (taken ++ place ∷ []) (old.entries ++ inserted.added)
  in_turn-next worked i j before after less one other has has' is is' = by_place (Contains-append_cases old.entries inserted.added before has)
      (Contains-append_cases old.entries inserted.added after has')
    where
      ends : Contains old.entries before → before.start + before.size ≤ old.seen.tail
      ends = All-contains (λ (entry : Entry). entry.start + entry.size ≤ old.seen.tail) old.entries before
          (All-from_recursion _ old.entries (LieInOrder-ends 0 old.seen.tail old.entries worked.below))

      starts : Contains inserted.added after → old.seen.tail ≤ after.start
      starts = All-contains (λ (entry : Entry). old.seen.tail ≤ entry.start) inserted.added after
          (All-from_recursion _ inserted.added (LieInOrder-starts old.seen.tail new.seen.tail inserted.added inserted.within))

      last : (entry : Entry) → Contains inserted.added entry → txn_of entry.rec ≡ number_at jobs place
      last entry = All-contains (λ (entry : Entry). txn_of entry.rec ≡ number_at jobs place) inserted.added entry
          (All-from_recursion _ inserted.added added-own)

      -- an entry of before is at a place below
      lower : (entry : Entry) (k : ℕ) → Contains old.entries entry → txn_of entry.rec ≡ number_at jobs k → k < place
      lower entry k there number = ⊎_elim (λ low. absurd (omega (arith, low, number)))
          (λ of. omega (arith, below-next taken place of.0 above of.1, of.2, number))
          (All-contains (IsOwnEntry jobs taken) old.entries entry (All-from_recursion _ old.entries worked.own) there)

      -- and so at one of those before
      earlier : (k : ℕ) → k < place → Contains (taken ++ place ∷ []) k → Contains taken k
      earlier k low there = ⊎_elim (λ is. is) (λ same. absurd (omega (arith, low, same))) (Contains-push_cases taken place k there)

      by_place : Contains old.entries before ⊎ Contains inserted.added before → Contains old.entries after ⊎ Contains inserted.added after
          → before.start + before.size ≤ after.start
      by_place (inl first) (inl second) =
          worked.in_turn i j before after less (earlier i (lower before i first is) one)
          (earlier j (lower after j second is') other) first second is is'
      by_place (inl first) (inr second) = omega (arith, ends first, starts second)
      by_place (inr first) (inl second) = absurd (omega (arith, lower after j second is', last before first, is, less))
      by_place (inr first) (inr second) = absurd (omega (arith, less, last before first, last after second, is, is'))

  pub HasWorked-push : HasWorked jobs taken old → place < length jobs.script → HasWorked jobs (taken ++ place ∷ []) new
  HasWorked-push worked within = record {
    places = all-append (λ place. place < length jobs.script) taken (place ∷ []) worked.places (within, tt);
    rising = Rises-push taken place worked.rising above;
    earlier = worked.earlier;
    jobs_are = taken-next taken worked.earlier worked.jobs_are;
    numbers = worked.numbers;
    own = subst (AllByRecursion (IsOwnEntry jobs (taken ++ place ∷ []))) (sym inserted.entries)
        (all-append (IsOwnEntry jobs (taken ++ place ∷ [])) old.entries inserted.added
        (all-weaken (IsOwnEntry jobs taken) (IsOwnEntry jobs (taken ++ place ∷ [])) old.entries still worked.own)
        (all-weaken (λ (entry : Entry). txn_of entry.rec ≡ number_at jobs place) (IsOwnEntry jobs (taken ++ place ∷ [])) inserted.added
        (λ entry is. inr (place, Contains-push taken place, is)) added-own));
    below = subst (LieInOrder 0 new.seen.tail) (sym inserted.entries)
        (LieInOrder-append 0 old.seen.tail new.seen.tail old.entries inserted.added worked.below inserted.within);
    in_turn = subst (LieInTurn jobs (taken ++ place ∷ [])) (sym inserted.entries) (in_turn-next worked);
  }
    where
      still : (entry : Entry) → IsOwnEntry jobs taken entry → IsOwnEntry jobs (taken ++ place ∷ []) entry
      still entry (inl earlier) = inl earlier
      still entry (inr own) = inr (own.0, Contains-append_left taken (place ∷ []) own.0 own.1, own.2)

  pub HaveEnded-more : (places : List ℕ) → HaveEnded jobs places old → HaveEnded jobs places new
  HaveEnded-more places ended = all-weaken (λ place. HasEnd (number_at jobs place) old.entries)
      (λ place. HasEnd (number_at jobs place) new.entries) places
      (λ place ended. subst (HasEnd (number_at jobs place)) (sym inserted.entries)
      (HasEnd-append (number_at jobs place) old.entries inserted.added ended)) ended

  -- the records before are of other numbers
  before-other : HasWorked jobs taken old → AllByRecursion (λ (entry : Entry). txn_of entry.rec ≢ number_at jobs place) old.entries
  before-other worked = all-weaken (IsOwnEntry jobs taken)
      (λ (entry : Entry). txn_of entry.rec ≢ number_at jobs place) old.entries other worked.own
    where
      other : (entry : Entry) → IsOwnEntry jobs taken entry → txn_of entry.rec ≢ number_at jobs place
      other entry (inl earlier) is = absurd (omega (arith, earlier, is))
      other entry (inr own) is = absurd (omega (arith, below-next taken place own.0 above own.1, own.2, is))

  -- all records of its number are those inserted for it
  own_records-next : HasWorked jobs taken old → own_records (number_at jobs place) new.entries ≡ records_of inserted.added
  own_records-next worked = ap (own_records (number_at jobs place)) inserted.entries
      ∙ own_records-append (number_at jobs place) old.entries inserted.added
      ∙ (λ i. own_records-none (number_at jobs place) old.entries (before-other worked) i
      ++ own_records-all (number_at jobs place) inserted.added added-own i)

  -- where a record of it is left, none that was inserted is an end record
  no-end-added : rest ≢ [] → AllByRecursion (λ (entry : Entry). ends entry.rec ≡ false) inserted.added
  no-end-added some = records_of-all (λ rec. ends rec ≡ false) inserted.added
      (planned_records-front_no_end (number_at jobs place) (transfer_of (job_at jobs place)) inserted.last_commits inserted.balances
      (records_of inserted.added) rest inserted.plan some)

  -- and so its end record isn't there
  unended-next : HasWorked jobs taken old → rest ≢ [] → HasEnd (number_at jobs place) new.entries → ⊥
  unended-next worked some ended = All-contains IsNoEnd (old.entries ++ inserted.added) ended.end
      (All-from_recursion IsNoEnd (old.entries ++ inserted.added) (all-append IsNoEnd old.entries inserted.added
      (all-weaken (λ (entry : Entry). txn_of entry.rec ≢ number_at jobs place) IsNoEnd old.entries (λ entry other is on. other is)
      (before-other worked))
      (all-weaken (λ (entry : Entry). ends entry.rec ≡ false) IsNoEnd inserted.added (λ entry off is on. true≢false (sym on ∙ off))
      (no-end-added some))))
      (subst (λ l. Contains l ended.end) inserted.entries ended.contains) ended.number_is ended.is_end
    where
      IsNoEnd : Entry → Type 0
      IsNoEnd entry = txn_of entry.rec ≡ number_at jobs place → ends entry.rec ≡ true → ⊥

-- the transfer was run to its end
HasEnd-run : (number : ℕ) (job : Job) (wait : Bool) (row : Row) (old new : View) → HasRun number job wait row old new → HasEnd number new.entries
HasEnd-run number job wait row old new run = record {
  end = run.end;
  contains = subst (λ l. Contains l run.end) (sym (run.inserted.entries ∙ ap (λ l. old.entries ++ l) run.last))
      (Contains-append_right old.entries (run.before ++ run.end ∷ []) run.end (Contains-push run.before run.end));
  number_is = ap txn_of run.rec ∙ end_record-txn number (transfer_of job) (outcome_of row.answer);
  is_end = ap ends run.rec ∙ end_record-ends number (transfer_of job) (outcome_of row.answer);
}

pub HaveEnded-push : (jobs : NumberedJobs) (taken : List ℕ) (place : ℕ) (above : AllByRecursion (λ before. before < place) taken) (wait : Bool)
    (row : Row) (old new : View)
    → HasRun (number_at jobs place) (job_at jobs place) wait row old new → (places : List ℕ) → HaveEnded jobs places old
    → HaveEnded jobs (places ++ place ∷ []) new
HaveEnded-push jobs taken place above wait row old new run places ended = all-append
    (λ place. HasEnd (number_at jobs place) new.entries) places (place ∷ [])
    (HaveEnded-more jobs taken place above [] old new run.inserted places ended)
    (HasEnd-run (number_at jobs place) (job_at jobs place) wait row old new run, tt)

-- the transfer was cut off
pub HasCut-is_cut_by : (jobs : NumberedJobs) (taken : List ℕ) (place : ℕ) → AllByRecursion (λ before. before < place) taken → (wait : Bool) (cause : Cause)
    (old new : View) → HasWorked jobs taken old → HasCut (number_at jobs place)
    (job_at jobs place) wait cause old new → IsCutBy jobs place wait cause new
HasCut-is_cut_by jobs taken place above wait (Stop word) old new worked cut = (waits cut.0 cut.1 cut.2, cut.3, cut.4)
  where
    waits : (rest : List Rec) → HasInserted (number_at jobs place) (job_at jobs place) rest old new → (rest ≡ [] → wait ≡ true)
        → HasEnd (number_at jobs place) new.entries → wait ≡ true
    waits [] inserted none ended = none refl
    waits (rec ∷ rest) inserted none ended =
        absurd (unended-next jobs taken place above (rec ∷ rest) old new inserted worked (λ none. absurd (omega (arith, ap length none))) ended)
HasCut-is_cut_by jobs taken place above wait (LogEnd tail total) old new worked cut = record {
  balances = cut.2.balances;
  last_commits = cut.2.last_commits;
  before = old.books.given;
  given = cut.3;
  uncommitted = recursion_from_All (IsUncommittedAt tail) cut.3.back cut.4;
  next = cut.0;
  rest = cut.1;
  plan = ap (λ l. l ++ cut.0 ∷ cut.1) (own_records-next jobs taken place above (cut.0 ∷ cut.1) old new cut.2 worked) ∙ cut.2.plan;
  asked = cut.5;
  too_long = cut.6;
  tail_is = cut.7;
  seen = cut.8;
}

-- a cut is a cut of a worker that may wait
IsCutBy-may_wait : (jobs : NumberedJobs) (place : ℕ) (wait : Bool) (cause : Cause) (view : View) → IsCutBy jobs place wait cause view
    → IsCutBy jobs place true cause view
IsCutBy-may_wait jobs place wait (Stop word) view cut = (λ ended. refl, cut.1, cut.2)
IsCutBy-may_wait jobs place wait (LogEnd tail total) view cut = cut

pub Works-may_wait : (jobs : NumberedJobs) (before after : List ℕ) (wait : Bool) (worked : Worked) (view : View)
    → Works jobs before after wait worked view
    → Works jobs before after true worked view
Works-may_wait jobs before after wait worked.All view works = works
Works-may_wait jobs before after wait (worked.Cut cause) view works =
    (works.0, works.1, works.2, works.3, IsCutBy-may_wait jobs works.1 wait cause view works.4)

-- a worker that has done nothing yet
pub HasWorked-none : (jobs : NumberedJobs) (view : View) → view.entries ≡ [] → view.books.jobs ≡ [] → HasWorked jobs [] view
HasWorked-none jobs view no_entries no_jobs = record {
  places = tt;
  rising = tt;
  earlier = [];
  jobs_are = no_jobs;
  numbers = tt;
  own = subst (AllByRecursion (IsOwnEntry jobs [])) (sym no_entries) tt;
  below = subst (LieInOrder 0 view.seen.tail) (sym no_entries) (omega arith);
  in_turn = subst (LieInTurn jobs []) (sym no_entries) (λ i j before after less one. absurd (omega (arith, one.1)));
}
