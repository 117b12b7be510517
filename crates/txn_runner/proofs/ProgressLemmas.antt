-- A worker's progress, from the places `start` that it took before. `first` and `rows_first` are its seat's view and its rows then, `old` and
-- `rows_old` those before one transfer, `new` and `rows_new` those behind it.
use Rattle.std.proofs.Common.{◌≡◌, ◌∙◌, ℕ, ◌+◌, ◌≤◌, Bool, Option, None, Some, Result, Ok, Err, IfNone, IfSome, IfOk, IfErr, List, [], ◌∷◌, ◌++◌}
use Rattle.std.proofs.Common.{length, refl, sym, ap, subst, arith, length-append, append-nil, append_assoc}
use Rattle.log_record.specs.declared.rec.Rec.{Rec}
use Rattle.lock_core.specs.declared.job.Job.{Job}
use Rattle.log_rule.specs.declared.view.View.{View}
use Rattle.txn_jobs.specs.declared.cause.Cause.{Cause}
use Rattle.txn_jobs.specs.declared.cause.Cause.TheVariants.{Stop, LogEnd}
use Rattle.txn_jobs.specs.declared.cause.Worked.{Worked}
use Rattle.txn_jobs.specs.declared.cause.Worked.TheVariants.{All, Cut}
use Rattle.txn_jobs.specs.declared.rows.Row.{Row}
use Rattle.job_queue.specs.declared.rows.Rows.{Rows}
use Rattle.txn_jobs.specs.Rows.{IsTold}
use Rattle.job_queue.specs.Passes.{KeepsRows}
use Rattle.txn_making.specs.Holdings.{KeepsGiven}
use Rattle.txn_runner.specs.Running.{HasInserted, HasRun, HasCut}
use Rattle.txn_runner.specs.Places.{NumberedJobs, number_at, job_at, jobs_taken}
use Rattle.txn_runner.specs.Working.{rows_in, room_of, marks_in, EndsByMark, HasWorked, KeepsEntries, TakesJobs, Works, AddsRows}
use Rattle.txn_runner.proofs.RowLemmas.{AddsRows-push, AddsRows-cut}
use Rattle.txn_making.proofs.GivenLemmas.{KeepsGiven-same, KeepsGiven-trans}
use Rattle.txn_runner.proofs.PlaceLemmas.{jobs_taken-push}
use Rattle.txn_runner.proofs.WorkLemmas.{IsNextJob, IsNextJob-same_at_place, HasWorked-push, HaveEnded-push, HaveEnded-more, HasCut-is_cut_by}

-- it took the transfers at the places `taken`, those of before first; each of the others has its end record and its row
pub record Progress (jobs : NumberedJobs) (start taken : List ℕ) (wait : Bool) (rows_first rows : Rows) (first view : View) : Type 0 where
  pub worked : HasWorked jobs taken view
  pub kept : KeepsEntries first view
  pub given : KeepsGiven first view
  pub takes : TakesJobs jobs start taken first view
  pub works : Works jobs start taken wait All view
  pub adds : AddsRows jobs start taken wait All rows_first rows first view

-- before the first transfer
pub Progress-none : (jobs : NumberedJobs) (start : List ℕ) (wait : Bool) (rows : Rows) (view : View) → HasWorked jobs start view
    → Progress jobs start start wait rows rows view view
Progress-none jobs start wait rows view worked = record {
  worked = worked;
  kept = record { added = []; entries = sym (append-nil view.entries) };
  given = KeepsGiven-same view view refl;
  takes = record { taken = []; places = sym (append-nil start); jobs_are = refl };
  works = ([], sym (append-nil start), tt);
  adds = record {
    taken = [];
    places = sym (append-nil start);
    added = [];
    rows = sym
        (append-nil (rows_in rows));
    room = refl;
    tell = refl;
    each = refl;
  };
}

-- the rows are those of before
pub Progress-rows : (jobs : NumberedJobs) (start taken : List ℕ) (wait : Bool) (rows_first rows_old rows_new : Rows) (first view : View)
    → KeepsRows rows_old rows_new → Progress jobs start taken wait rows_first rows_old first view
    → Progress jobs start taken wait rows_first rows_new first view
Progress-rows jobs start taken wait rows_first rows_old rows_new first view kept progress = record {
  worked = progress.worked;
  kept = progress.kept;
  given = progress.given;
  takes = progress.takes;
  works = progress.works;
  adds = record {
    taken = progress.adds.taken;
    places = progress.adds.places;
    added = progress.adds.added;
    rows = kept.rows ∙ progress.adds.rows;
    room = kept.room ∙ progress.adds.room;
    tell = progress.adds.tell;
    each = progress.adds.each;
  };
}

-- the transfer taken last was cut off
pub record Stopped (jobs : NumberedJobs) (start taken : List ℕ) (wait : Bool) (rows_first rows : Rows) (first view : View)
    (ended : Worked) : Type 0 where
  pub worked : HasWorked jobs taken view
  pub kept : KeepsEntries first view
  pub given : KeepsGiven first view
  pub takes : TakesJobs jobs start taken first view
  pub works : Works jobs start taken wait ended view
  pub adds : AddsRows jobs start taken wait ended rows_first rows first view

-- the seat has seen no smaller LSNs
pub record SawNoLess (old new : View) : Type 0 where
  pub tail : old.seen.tail ≤ new.seen.tail
  pub durable : old.seen.durable ≤ new.seen.durable

still-kept : (number : ℕ) (job : Job) (rest : List Rec) (first old new : View) → KeepsEntries first old → HasInserted number job rest old new
    → KeepsEntries first new
still-kept number job rest first old new kept inserted = record {
  added = kept.added ++ inserted.added;
  entries = inserted.entries ∙ ap (λ l. l ++ inserted.added) kept.entries ∙ append_assoc first.entries kept.added inserted.added;
}

inserted-in : (number : ℕ) (job : Job) (wait : Bool) (cause : Cause) (old new : View) → HasCut number job wait cause old new
    → (rest : List Rec) × HasInserted number job rest old new
inserted-in number job wait (Stop word) old new cut = (cut.0, cut.1)
inserted-in number job wait (LogEnd tail total) old new cut = (cut.0 ∷ cut.1, cut.2)

-- one place more
longer : (start mid made : List ℕ) (last : ℕ) → mid ≡ start ++ made → mid ++ last ∷ [] ≡ start ++ (made ++ last ∷ [])
longer start mid made last is = ap (λ l. l ++ last ∷ []) is ∙ append_assoc start made (last ∷ [])

TakesJobs-next : (jobs : NumberedJobs) (start mid : List ℕ) (last : ℕ) (rest : List Rec) (first old new : View) → TakesJobs jobs start mid first old
    → HasInserted (number_at jobs last) (job_at jobs last) rest old new → TakesJobs jobs start (mid ++ last ∷ []) first new
TakesJobs-next jobs start mid last rest first old new takes inserted = record {
  taken = takes.taken ++ last ∷ [];
  places = longer start mid takes.taken last takes.places;
  jobs_are = inserted.jobs ∙ ap (λ l. record { number = number_at jobs last; job = job_at jobs last } ∷ l) takes.jobs_are
      ∙ sym (ap (λ l. l ++ first.books.jobs) (jobs_taken-push jobs takes.taken last));
}

module _ (jobs : NumberedJobs) (start mid : List ℕ) (last : ℕ) (wait : Bool) (rows_first rows_old rows_new : Rows) (first old new : View)
    (progress : Progress jobs start mid wait rows_first rows_old first old) (number : ℕ) (job : Job) (next : IsNextJob jobs mid last number job)
    (since : SawNoLess first old) (later : SawNoLess old new) (given : KeepsGiven old new) (room : room_of rows_new ≡ room_of rows_old) where
  -- one transfer more was run, and its row put
  pub Progress-push : (row : Row) → HasRun number job wait row old new → rows_in rows_new ≡ rows_in rows_old ++ row ∷ []
      → Progress jobs start (mid ++ last ∷ []) wait rows_first rows_new first new
  Progress-push row has_run rows = record {
    worked = HasWorked-push jobs mid last next.above [] old new run.inserted progress.worked next.within;
    kept = still-kept _ _ [] first old new progress.kept run.inserted;
    given = KeepsGiven-trans first old new progress.given given;
    takes = TakesJobs-next jobs start mid last [] first old new progress.takes run.inserted;
    works = (
      progress.works.0 ++ last ∷ [],
      longer start mid progress.works.0 last progress.works.1,
      HaveEnded-push jobs mid last next.above wait row old new run progress.works.0 progress.works.2,
    );
    adds = AddsRows-push jobs start mid last wait rows_first rows_old rows_new first old new progress.adds room row run progress.worked.below
        since.tail since.durable later.durable given rows;
  }
    where
      run : HasRun (number_at jobs last) (job_at jobs last) wait row old new
      run = IsNextJob-same_at_place jobs mid last number job next (λ n j. HasRun n j wait row old new) has_run

  -- one transfer more was taken, and cut off
  pub Stopped-cut : (cause : Cause) → HasCut number job wait cause old new → rows_in rows_new ≡ rows_in rows_old
      → Stopped jobs start (mid ++ last ∷ []) wait rows_first rows_new first new (Cut cause)
  Stopped-cut cause has_cut rows = record {
    worked = HasWorked-push jobs mid last next.above (inserted.0) old new inserted.1 progress.worked next.within;
    kept = still-kept _ _ (inserted.0) first old new progress.kept inserted.1;
    given = KeepsGiven-trans first old new progress.given given;
    takes = TakesJobs-next jobs start mid last (inserted.0) first old new progress.takes inserted.1;
    works = (
      progress.works.0,
      last,
      longer start mid progress.works.0 last progress.works.1,
      HaveEnded-more jobs mid last next.above (inserted.0) old new inserted.1 progress.works.0 progress.works.2,
      HasCut-is_cut_by jobs mid last next.above wait cause old new progress.worked cut,
    );
    adds = AddsRows-cut jobs start mid last wait rows_first rows_old rows_new first old new progress.adds room cause
        record { added = inserted.1.added; entries = inserted.1.entries; durable = later.durable; given = given } rows;
  }
    where
      cut : HasCut (number_at jobs last) (job_at jobs last) wait cause old new
      cut = IsNextJob-same_at_place jobs mid last number job next (λ n j. HasCut n j wait cause old new) has_cut

      inserted : (rest : List Rec) × HasInserted (number_at jobs last) (job_at jobs last) rest old new
      inserted = inserted-in (number_at jobs last) (job_at jobs last) wait cause old new cut

  -- as it was told: its row was put, or why it was cut off is how the worker ends
  pub Progress-told : (made : Result Row Cause) (told : Option Worked) → IsTold made told (rows_in rows_old) (rows_in rows_new)
      → IfOk made (λ row. HasRun number job wait row old new)
      → IfNone told (Progress jobs start (mid ++ last ∷ []) wait rows_first rows_new first new)
  Progress-told (Ok row) None put run = Progress-push row run put
  Progress-told (Ok row) (Some ended) put run = tt
  Progress-told (Err cause) None put run = absurd put
  Progress-told (Err cause) (Some ended) put run = tt

  pub Stopped-told : (made : Result Row Cause) (told : Option Worked) → IsTold made told (rows_in rows_old) (rows_in rows_new)
      → IfErr made (λ cause. HasCut number job wait cause old new)
      → IfSome told (Stopped jobs start (mid ++ last ∷ []) wait rows_first rows_new first new)
  Stopped-told (Ok row) None put cut = tt
  Stopped-told (Ok row) (Some ended) put cut = absurd put
  Stopped-told (Err cause) None put cut = tt
  Stopped-told (Err cause) (Some ended) put cut = subst (Stopped jobs start (mid ++ last ∷ []) wait rows_first rows_new first new) (sym put.0)
      (Stopped-cut cause cut put.1)

-- a seat that had no job has just those that it took
pub jobs-from_none : (jobs : NumberedJobs) (before taken : List ℕ) (old new : View) → before ≡ [] → old.books.jobs ≡ []
    → TakesJobs jobs before taken old new
    → new.books.jobs ≡ jobs_taken jobs taken
jobs-from_none jobs before taken old new none no_jobs takes = takes.jobs_are ∙ (ap (λ l. jobs_taken jobs takes.taken ++ l) no_jobs
    ∙ (append-nil _ ∙ ap (jobs_taken jobs) (sym (takes.places ∙ ap (λ l. l ++ takes.taken) none))))

-- there is room for the rows of the transfers that are left, as a row was put or none
pub IsTold-one_row_at_most : (made : Result Row Cause) (told : Option Worked) (old new : List Row) → IsTold made told old new → length new ≤ length old + 1
IsTold-one_row_at_most (Ok row) None old new put = omega (arith, ap length put, length-append old (row ∷ []))
IsTold-one_row_at_most (Ok row) (Some ended) old new put = absurd put
IsTold-one_row_at_most (Err cause) None old new put = absurd put
IsTold-one_row_at_most (Err cause) (Some ended) old new put = omega (arith, ap length put.1)

-- where a transfer was cut off, so was the worker, which may take its mark yet
pub EndsByMark-told : (made : Result Row Cause) (worked : Worked) (rows : Rows) (old new : List Row) → IsTold made (Some worked) old new
    → marks_in rows ≡ [] → EndsByMark worked rows
EndsByMark-told (Ok row) worked rows old new told none = absurd told
EndsByMark-told (Err cause) worked rows old new told none = subst (λ worked. EndsByMark worked rows) (sym told.0) none
