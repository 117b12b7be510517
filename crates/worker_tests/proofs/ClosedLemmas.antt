-- One worker, and one transfer.
use Rattle.std.proofs.Common.{◌≡◌, ℕ, ◌==◌, ◌+◌, ◌≤◌, Bool, true, false, if◌then◌else◌, None, List, [], ◌∷◌, ◌++◌, map, length, get_or, sym, ap, subst, ◌∙◌, arith, length-append}
use Rattle.lock_core.specs.declared.job.Job.{Job}
use Rattle.log_rule.specs.declared.view.TakenJob.{TakenJob}
use Rattle.log_rule.specs.declared.view.View.{View}
use Rattle.log_rule.specs.declared.view.Books.{Books}
use Rattle.log_rule.specs.declared.view.Constants.{Constants}
use Rattle.log_rule.specs.declared.view.Entry.{Entry}
use Rattle.log_table.specs.declared.closed.Closed.{Closed}
use Rattle.log_rule.specs.declared.start.Start.{Start}
use Rattle.lsn_space.specs.Tiling.{IsTiling}
use Rattle.log_rule.specs.Books.{task_of, times_taken}
use Rattle.log_rule.specs.ClosedLog.{IsGathered, IsLedger, HasLedger, history_of}
use Rattle.log_rule.specs.CrewViews.{takes_in}
use Rattle.log_table.specs.HiredWorkers.{KnowsHired}
use Rattle.log_rule.specs.Sound.{base_of}
use Rattle.worker_tests.specs.OneClosed.{ClosesOne}
use Rattle.txn_jobs.specs.declared.cause.Worked.{Worked}
use Rattle.txn_jobs.specs.declared.cause.Worked.TheVariants.{All, Cut}
use Rattle.job_queue.specs.declared.rows.Rows.{Rows}
use Rattle.job_queue.specs.Rule.{counted}
use Rattle.txn_runner.specs.Places.{NumberedJobs, number_at, job_at, jobs_taken, AreOfScript, Rises}
use Rattle.txn_runner.specs.Working.{EndsByMark, Works, marks_in, places_in}

module _ (jobs : NumberedJobs) (job : Job) (script : jobs.script ≡ job ∷ []) (first : jobs.first ≡ 1) where
  one : length jobs.script ≡ 1
  one = ap length script

  number-is : number_at jobs 0 ≡ 1
  number-is = omega (arith, first)

  job-is : job_at jobs 0 ≡ job
  job-is = ap (λ (l : List Job). get_or l 0 (record { legs = []; note = None })) script

  taken : jobs_taken jobs (0 ∷ []) ≡ record { number = 1; job = job } ∷ []
  taken i = record { number = number-is i; job = job-is i } ∷ []

  only-place : (places : List ℕ) → Rises places → AreOfScript jobs places → 1 ≤ length places → places ≡ 0 ∷ []
  only-place [] rises are some' = absurd (omega (arith, some'))
  only-place (place ∷ []) rises are some' = let is : place ≡ 0 = omega (arith, one, are.0) in ap (λ n. n ∷ []) is
  only-place (place ∷ next ∷ places) rises are some' = absurd (omega (arith, one, are.1.0, rises.0.0))

  -- the only worker of one job took it, whether it ended or was cut off
  pub one-job : (worked : Worked) (rows : Rows) (view : View) → Rises (places_in rows) → AreOfScript jobs (places_in rows)
      → EndsByMark worked rows → (1 ≤ length (marks_in rows) → places_in rows ≡ counted 0 (length jobs.script))
      → Works jobs [] (places_in rows) false worked view → jobs_taken jobs (places_in rows) ≡ record { number = 1; job = job } ∷ []
  one-job All rows view rises are mark all works = ap (jobs_taken jobs) (all mark ∙ ap (counted 0) one) ∙ taken
  one-job (Cut cause) rows view rises are mark all works =
      ap (jobs_taken jobs) (only-place (places_in rows) rises are (omega (arith, ap length works.2, length-append works.0 (works.1 ∷ [])))) ∙ taken

few : (b : Bool) → (if b then 1 else 0) + 0 ≤ 1
few true = omega arith
few false = omega arith

-- no number stands twice among the numbers of one job
pub one-taken : (number : ℕ) (job : TakenJob) → times_taken number (job ∷ []) ≤ 1
one-taken number job = few (job.number == number)

-- where the flusher's seat took in the seat of its only worker, the log starts where it did, and the one job of that worker was taken
module _ (key : Start) (flusher_seat other view : View) where
  starts-as : KnowsHired key 1 flusher_seat → view ≡ takes_in flusher_seat other → view.constants.start ≡ key.start
  starts-as knows takes = ap (λ (v : View). v.constants.start) takes ∙ ap (λ (c : Constants). c.start) knows.constants

  took-one : (job : Job) → KnowsHired key 1 flusher_seat → view ≡ takes_in flusher_seat other
      → other.books.jobs ≡ record { number = 1; job = job } ∷ [] → view.books.jobs ≡ record { number = 1; job = job } ∷ []
  took-one job knows takes taken = ap (λ (v : View). v.books.jobs) takes
      ∙ (ap (λ (b : Books). b.jobs ++ other.books.jobs) knows.books ∙ taken)

-- the table is closed once the flusher's seat took in the seat of its only worker, which took one job
pub closes-one : (start : ℕ) (accounts : List (ℕ × ℕ)) (key : Start) (job : Job) (flusher_seat other view : View) (closed : Closed) → key.start ≡ start
    → key.accounts.rows ≡ accounts → KnowsHired key 1 flusher_seat → view ≡ takes_in flusher_seat other → other.books.jobs ≡ record { number = 1; job = job } ∷ []
    → IsGathered closed.tail view → closed.exposed ≡ closed.tail → HasLedger (base_of key) view closed.accounts.rows → ClosesOne start accounts 1 job closed
closes-one start accounts key job flusher_seat other view closed start_is rows_are knows takes taken gathered released ledger =
    let starts = starts-as key flusher_seat other view knows takes ∙ start_is in
    let jobs = took-one key flusher_seat other view job knows takes taken in record {
      key = key;
      start_is = start_is;
      rows_are = rows_are;
      entries = view.entries;
      tiles = subst (λ (n : ℕ). IsTiling (λ (entry : Entry). entry.start) (λ (entry : Entry). entry.size) n view.entries closed.tail) starts gathered.tiles;
      spelled = gathered.spelled;
      released = released;
      ledger = subst (λ (l : List TakenJob). IsLedger (base_of key) (history_of (base_of key) view.entries) (map task_of l) closed.accounts.rows) jobs
          (ledger.ledger (λ number. subst (λ (l : List TakenJob). times_taken number l ≤ 1) (sym jobs) (one-taken number (record { number = 1; job = job }))));
    }
