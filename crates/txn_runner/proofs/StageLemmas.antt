-- The stages of one transfer, one after another, and what they come to.
use Rattle.std.proofs.Common.{◌≡◌, ℕ, ◌≤◌, Bool, true, List, [], map, All, IfOk, IfErr, OnErr, Ok, Err, Result, refl, sym, ap, ◌∙◌, subst, arith}
use Rattle.std.specs.List.{AllByRecursion}
use Rattle.std.specs.List.Sorted.{IsStrictlyIncreasing}
use Rattle.std.proofs.lemmas.Result.{IfOk-weaker, IfErr-weaker}
use Rattle.log_record.specs.declared.rec.Placed.{Placed}
use Rattle.lock_core.specs.Transactions.{recs_of, has_commit}
use Rattle.lock_core.specs.declared.job.Job.{Job}
use Rattle.log_table.specs.declared.table.Seat.{Seat}
use Rattle.log_rule.specs.declared.view.Books.{Books}
use Rattle.log_rule.specs.declared.view.Entry.{Entry}
use Rattle.log_rule.specs.declared.view.TakenJob.{TakenJob}
use Rattle.log_rule.specs.declared.view.View.{View}
use Rattle.log_rule.specs.AccountViews.{took_job}
use Rattle.log_rule.specs.Books.{balance_taken, taking_job, IsNote}
use Rattle.log_rule.specs.May.{HasBegunNothing, MayTakeJob}
use Rattle.log_table.specs.Seats.{Becomes, view_of}
use Rattle.ring_buffer.specs.Calls.{IsReady, IsSameWorker, HasEntries}
use Rattle.ring_buffer.proofs.TwoCalls.{IsSameWorker-trans}
use Rattle.txn_jobs.specs.declared.cause.Cause.{Cause}
use Rattle.txn_parts.specs.declared.taken_account.TakenAccount.{TakenAccount}
use Rattle.txn_jobs.specs.declared.rows.Row.{Row}
use Rattle.txn_parts.specs.declared.ended.TransferEnd.{TransferEnd}
use Rattle.txn_jobs.specs.Accounts.{HasAccountsOf, IsAccountOf}
use Rattle.txn_making.specs.Endings.{EndsTransfer}
use Rattle.txn_making.specs.Holdings.{taken_of, given_behind, holding_all, with_held, HoldsAll, KeepsBooks, KeepsGiven, ReturnsAll, TakesAll}
use Rattle.txn_making.specs.Inserts.{Adds, IsCutOff, StopsFor}
use Rattle.txn_runner.specs.Running.{GaveBack, HasRun, HasCut}
use Rattle.txn_runner.specs.Stages.{HasTakenJob, HasNextJob, MayMakeTransfer, TakesAccounts, MayEndTransfer, GivesAll, LetsGo, IsRowOf, HasRunTaken, HasCutTaken, MakesTaken, IsCutEarly}
use Rattle.txn_runner.proofs.Composing.{Keeps, IsGivenFrom, TakesAll-may_make_transfer, IsKnown-paid, HoldsAll-paid, GaveBack-given_behind}
use Rattle.txn_runner.proofs.Composing.{has-inserted, IsGivenFrom-uncommitted, HasCut-rest_left, HasCut-waiting, HasCut-none_inserted}
use Rattle.txn_runner.proofs.Composing.{EndsTransfer-has_run, StopsFor-with_held}
use Rattle.txn_parts.specs.Stops.{HasSeen}
use Rattle.txn_making.proofs.Trying.{Becomes-has_entries}
use Rattle.txn_making.proofs.GivenLemmas.{KeepsGiven-same, KeepsGiven-trans}
use Rattle.txn_making.proofs.Held.{given_behind-append}

-- the job is taken
module _ (number : ℕ) (job : Job) (first second : Seat) where
  abbrev pub IsTaken : Type 0
  IsTaken = HasEntries first second (view_of first).entries (taking_job (record { number = number; job = job }) (view_of first).books)

  pub took_job-is_taken : (word : ℕ) → IsReady (view_of first) → Becomes first second (took_job number job word (view_of first)) → IsTaken
  took_job-is_taken word ready becomes =
      Becomes-has_entries first second _ _ ready.rests.idle becomes (omega arith) (omega arith) (omega arith) (omega arith)

  pub IsTaken-has_taken_job : IsTaken → HasTakenJob number job (view_of first) (view_of second)
  IsTaken-has_taken_job taken = record {
    entries = taken.entries_are;
    grows = taken.same.grows;
    jobs = ap (λ (books : Books). books.jobs) taken.books_are;
    last = ap (λ (books : Books). books.last) taken.books_are;
    given = ap (λ (books : Books). books.given) taken.books_are;
    none = ap (λ (books : Books). books.placed) taken.books_are;
  }

  pub IsTaken-has_next_job : (accounts : ℕ) → MayTakeJob accounts number job (view_of first) → IsTaken → HasNextJob accounts number job (view_of second).books
  IsTaken-has_next_job accounts may taken = record {
    last = (IsTaken-has_taken_job taken).last;
    allowed = may.allowed;
    none_held = ap (λ (books : Books). books.held) taken.books_are ∙ may.none_held;
    none = (IsTaken-has_taken_job taken).none;
  }

-- what the seat made since `second` it made since `first`, where it gave nothing back between
lets-go-since : (first second third : Seat) → IsSameWorker first second → (view_of second).contended ≡ (view_of first).contended
    → (view_of second).books.given ≡ (view_of first).books.given → LetsGo second third → LetsGo first third
lets-go-since first second third same contended given made = record {
  same = IsSameWorker-trans first second third same made.same;
  idle = made.idle;
  contended = made.contended ∙ contended;
  none_held = made.none_held;
  given = KeepsGiven-trans (view_of first) (view_of second) (view_of third) (KeepsGiven-same (view_of first) (view_of second) given) made.given;
}

-- The transfer was taken as the seat's job, and was made since or cut off.
module _ (number : ℕ) (job : Job) (first second third : Seat) (taken : IsTaken number job first second) where
  pub IsTaken-lets_go : LetsGo second third → LetsGo first third
  IsTaken-lets_go = lets-go-since first second third taken.same taken.contended (IsTaken-has_taken_job number job first second taken).given

  module _ (wait : Bool) (result : Result Row Cause) where
    pub HasRunTaken-has_run : IfOk result (HasRunTaken number job wait (view_of second) (view_of third))
        → IfOk result (λ row. HasRun number job wait row (view_of first) (view_of third))
    HasRunTaken-has_run = IfOk-weaker result (HasRunTaken number job wait (view_of second) (view_of third))
        (λ row. HasRun number job wait row (view_of first) (view_of third)) (λ row run. run (view_of first) (IsTaken-has_taken_job number job first second taken))

    pub HasCutTaken-has_cut : IfErr result (HasCutTaken number job wait (view_of second) (view_of third))
        → IfErr result (λ cause. HasCut number job wait cause (view_of first) (view_of third))
    HasCutTaken-has_cut = IfErr-weaker result (HasCutTaken number job wait (view_of second) (view_of third))
        (λ cause. HasCut number job wait cause (view_of first) (view_of third)) (λ cause cut. cut (view_of first) (IsTaken-has_taken_job number job first second taken))

-- The job is the seat's next. Its accounts are taken then, but for a cut.
module _ (accounts number : ℕ) (job : Job) (first : Seat) (next : HasNextJob accounts number job (view_of first).books) where
  pub begins-nothing : HasBegunNothing (view_of first)
  begins-nothing = record {
    some_job = omega (arith, ap (λ (taken : TakenJob). taken.number) next.last, next.allowed.number.0);
    only_note = subst (AllByRecursion (λ (entry : Placed). IsNote entry.rec)) (sym next.none) tt;
  }

  pub StopsFor-has_cut_taken : (cause : Cause) → StopsFor cause [] (view_of first) → (wait : Bool)
      → HasCutTaken number job wait (view_of first) (view_of first) cause
  StopsFor-has_cut_taken cause stops wait origin taken = HasCut-none_inserted number job wait cause origin (view_of first) (view_of first) taken
      record { entries = refl; grows = omega arith; jobs = refl } stops

  module _ {T : Type 0} (second : Seat) where
    pub KeepsBooks-lets_go : (result : Result T Cause) → OnErr result (KeepsBooks first second)
        → OnErr result (KeepsGiven (view_of first) (view_of second)) → OnErr result (LetsGo first second)
    KeepsBooks-lets_go (Ok done) kept given = tt
    KeepsBooks-lets_go (Err cause) kept given = record {
      same = kept.same;
      idle = kept.idle;
      contended = kept.contended;
      none_held = ap (λ (books : Books). books.held) kept.books ∙ next.none_held;
      given = given;
    }

    pub KeepsBooks-cut_early : (result : Result T Cause) → OnErr result (KeepsBooks first second)
        → IfErr result (λ cause. StopsFor cause [] (view_of second))
        → IfErr result (IsCutEarly number job (view_of first) (view_of second))
    KeepsBooks-cut_early (Ok done) kept stops = tt
    KeepsBooks-cut_early (Err cause) kept stops = λ wait origin taken. HasCut-none_inserted number job wait cause origin (view_of first) (view_of second) taken
        record { entries = kept.entries; grows = kept.same.grows; jobs = ap (λ (books : Books). books.jobs) kept.books } stops

  -- the job is the seat's last still
  still-taken : (holdings : List TakenAccount) (second : Seat)
      → HasEntries first second (view_of first).entries (holding_all holdings (view_of first).books)
      → (origin : View) → HasTakenJob number job origin (view_of first) → HasTakenJob number job origin (view_of second)
  still-taken holdings second kept origin taken = record {
    entries = kept.entries_are ∙ taken.entries;
    grows = omega (arith, taken.grows, kept.same.grows);
    jobs = ap (λ (books : Books). books.jobs) kept.books_are ∙ taken.jobs;
    last = ap (λ (books : Books). books.last) kept.books_are ∙ taken.last;
    given = ap (λ (books : Books). books.given) kept.books_are ∙ taken.given;
    none = ap (λ (books : Books). books.placed) kept.books_are ∙ taken.none;
  }

  -- the accounts are held then
  pub takes-accounts : (list slice : List ℕ) (holdings : List TakenAccount) (second : Seat) → slice ≡ list → IsStrictlyIncreasing list
      → All (IsAccountOf job.legs) list → All (HasAccountsOf list) job.legs → TakesAll slice holdings first second
      → TakesAccounts accounts number job holdings first second
  takes-accounts list slice holdings second same rising only all takes = record {
    same = takes.entries.same;
    idle = takes.entries.idle;
    contended = takes.entries.contended;
    given = ap (λ (books : Books). books.given) takes.entries.books_are;
    taken = still-taken holdings second takes.entries;
    may = TakesAll-may_make_transfer accounts number job list slice holdings first second same rising only next.allowed takes all next.last next.none;
    runs = takes.runs;
  }

-- The transfer was made from `second` to `third`, as far as it came: all its accounts are held still.
module _ (accounts number : ℕ) (job : Job) (holdings paid : List TakenAccount) (second third : Seat)
    (may : MayMakeTransfer accounts number job holdings (view_of second).books) (same : map taken_of paid ≡ map taken_of holdings) where
  pub Adds-holds_all : (added : List Entry) → Adds added second third → HoldsAll paid (view_of third).books
  Adds-holds_all added adds = HoldsAll-paid accounts number job holdings paid (view_of second).books may same (view_of third).books
      (ap (λ (books : Books). books.held) adds.entries.books_are)

  pub EndsTransfer-may_end : (ended : TransferEnd) → EndsTransfer number job ended paid second third → MayEndTransfer accounts ended paid (view_of third).books
  EndsTransfer-may_end ended ends = record {
    is_last = ends.is_last;
    has_ended = ends.has_ended;
    all = Adds-holds_all _ ends.adds;
    known = IsKnown-paid accounts number job holdings paid (view_of second).books may same;
    values = ends.back;
  }

-- the accounts went back
pub ReturnsAll-gives_all : (back : List TakenAccount) (first second : Seat) → IsReady (view_of first) → ReturnsAll back first second
    → GivesAll back first second
ReturnsAll-gives_all back first second ready becomes =
    let kept = Becomes-has_entries first second _ _ ready.rests.idle becomes (omega arith) (omega arith) (omega arith) (omega arith) in record {
      same = kept.same;
      idle = kept.idle;
      contended = kept.contended;
      entries = kept.entries_are;
      from = view_of first;
      from_books = refl;
      from_tail = sym (ap (λ m. m.0.seen.tail) becomes.me);
      from_durable = sym (ap (λ m. m.0.seen.durable) becomes.me);
      books = kept.books_are;
    }

-- after a call that left the entries and the books as they were
pub GivesAll-after_unchanged : (back : List TakenAccount) (first second third : Seat) → HasEntries first second (view_of first).entries (view_of first).books
    → GivesAll back second third → GivesAll back first third
GivesAll-after_unchanged back first second third kept gives = record {
  same = IsSameWorker-trans first second third kept.same gives.same;
  idle = gives.idle;
  contended = gives.contended ∙ kept.contended;
  entries = gives.entries ∙ kept.entries_are;
  from = gives.from;
  from_tail = gives.from_tail;
  from_durable = gives.from_durable;
  from_books = gives.from_books ∙ kept.books_are;
  books = gives.books ∙ ap (λ (books : Books). record books { held = []; given = given_behind gives.from back books.given }) kept.books_are;
}

-- what was seen just before is seen still
module _ (wait : Bool) (end : ℕ) (back : List TakenAccount) (first second : Seat) (becomes : Becomes first second (with_held [] back (view_of first))) where
  pub HasSeen-given_back : (result : Result ℕ Cause) → IfOk result (HasSeen end wait (view_of first)) → IfOk result (HasSeen end wait (view_of second))
  HasSeen-given_back (Ok seen) saw = record { durable = saw.durable ∙ sym (ap (λ m. m.0.seen.durable) becomes.me); waited = saw.waited }
  HasSeen-given_back (Err cause) saw = tt

  pub StopsFor-given_back : (result : Result ℕ Cause) → IfErr result (λ cause. StopsFor cause [] (view_of first))
      → IfErr result (λ cause. StopsFor cause [] (view_of second))
  StopsFor-given_back (Ok seen) stopped = tt
  StopsFor-given_back (Err cause) stopped = StopsFor-with_held cause [] [] back first second becomes stopped

-- Its accounts went back then.
module _ (accounts number : ℕ) (job : Job) (wait : Bool) (holdings paid : List TakenAccount) (second third fourth : Seat)
    (may : MayMakeTransfer accounts number job holdings (view_of second).books) (same : map taken_of paid ≡ map taken_of holdings)
    (gives : GivesAll paid third fourth) where
  keeps : Keeps (view_of third) (view_of fourth)
  keeps = record { entries = gives.entries; grows = gives.same.grows; jobs = ap (λ (books : Books). books.jobs) gives.books }

  given-since : (added : List Entry) → Adds added second third → KeepsGiven (view_of second) (view_of fourth)
  given-since added adds = record {
    back = given_behind gives.from paid [];
    given_are = ap (λ (books : Books). books.given) gives.books
        ∙ ap (λ (books : Books). given_behind gives.from paid books.given) adds.entries.books_are
        ∙ given_behind-append gives.from paid (view_of second).books.given;
  }

  pub GivesAll-lets_go : (added : List Entry) → Adds added second third → LetsGo second fourth
  GivesAll-lets_go added adds = record {
    same = IsSameWorker-trans second third fourth adds.entries.same gives.same;
    idle = gives.idle;
    contended = gives.contended ∙ adds.entries.contended;
    none_held = ap (λ (books : Books). books.held) gives.books;
    given = given-since added adds;
  }

  went-back : (added : List Entry) → Adds added second third → (first : View) → HasTakenJob number job first (view_of second)
      → (gave : GaveBack number job (balance_taken (view_of second).books.held) first.books.given (view_of fourth))
      × All (IsGivenFrom gives.from) gave.back
  went-back added adds first taken = GaveBack-given_behind accounts number job holdings paid (view_of second).books may same gives.from
      (view_of fourth) first.books.given
      (ap (λ (books : Books). books.last.number) (gives.from_books ∙ adds.entries.books_are) ∙ ap (λ (job : TakenJob). job.number) taken.last)
      (ap (λ (books : Books). books.given) gives.books
      ∙ ap (given_behind gives.from paid) (ap (λ (books : Books). books.given) adds.entries.books_are ∙ taken.given))

  -- it was cut off
  pub IsCutOff-has_cut_taken : (cause : Cause) (added : List Entry) → Adds added second third → (cut : IsCutOff (view_of third) cause) → StopsFor cause cut.rest (view_of fourth)
      → HasCutTaken number job wait (view_of second) (view_of fourth) cause
  IsCutOff-has_cut_taken cause added adds cut stops first taken =
      let gave = went-back added adds first taken in
      HasCut-rest_left number job wait cause cut.rest first (view_of fourth)
      (has-inserted number job cut.rest first (view_of fourth) second third added taken adds cut.left keeps) gave.0
      (IsGivenFrom-uncommitted gives.from (view_of fourth) gave.0.back gave.1 gives.from_tail
      (ap (λ (books : Books). has_commit (recs_of books.placed)) gives.from_books ∙ cut.uncommitted))
      cut.some stops

  module _ (ended : TransferEnd) (ends : EndsTransfer number job ended paid second third) where
    -- it ran
    pub IsRowOf-has_run_taken : (result : Result Row Cause) → IfOk result (IsRowOf number ended wait (view_of fourth))
        → IfOk result (HasRunTaken number job wait (view_of second) (view_of fourth))
    IsRowOf-has_run_taken (Ok row) told = λ first taken.
        let gave = went-back _ ends.adds first taken in
        subst (λ row. HasRun number job wait row first (view_of fourth)) (sym told.row_is)
        (EndsTransfer-has_run number job wait ended (view_of fourth).seen.durable paid first (view_of fourth) second third taken ends keeps refl
        (λ on. subst (λ row. ended.end ≤ row.seen) told.row_is (told.waited on)) gave.0
        (λ k d within. (gave.1 k d within).durable ∙ gives.from_durable))
    IsRowOf-has_run_taken (Err cause) told = tt

    -- the worker waited for the disk, and was stopped
    pub HasCutTaken-waiting : (result : Result Row Cause) → OnErr result (wait ≡ true) → IfErr result (λ cause. StopsFor cause [] (view_of fourth))
        → IfErr result (HasCutTaken number job wait (view_of second) (view_of fourth))
    HasCutTaken-waiting (Ok row) waits cut = tt
    HasCutTaken-waiting (Err cause) waits cut = λ first taken. HasCut-waiting number job wait cause first (view_of fourth)
        (has-inserted number job [] first (view_of fourth) second third _ taken ends.adds ends.left keeps) waits cut

-- its accounts were taken, and it is made or cut off
pub TakesAccounts-makes_taken : (accounts number : ℕ) (job : Job) (holdings : List TakenAccount) (first second third : Seat)
    → TakesAccounts accounts number job holdings first second → (wait : Bool) (result : Result Row Cause)
    → MakesTaken number job wait result second third → MakesTaken number job wait result first third
TakesAccounts-makes_taken accounts number job holdings first second third takes wait result made = record {
  let_go = lets-go-since first second third takes.same takes.contended takes.given made.let_go;
  run = IfOk-weaker result (HasRunTaken number job wait (view_of second) (view_of third))
      (HasRunTaken number job wait (view_of first) (view_of third)) (λ row run origin taken. run origin (takes.taken origin taken)) made.run;
  cut = IfErr-weaker result (HasCutTaken number job wait (view_of second) (view_of third))
      (HasCutTaken number job wait (view_of first) (view_of third)) (λ cause cut origin taken. cut origin (takes.taken origin taken)) made.cut;
}
