-- One transfer, from its first account to its last: what the seat's steps come to.
use Rattle.std.proofs.Common.{◌≡◌, ◌≢◌, inl, inr, ℕ, ◌+◌, ◌<◌, ◌≤◌, Bool, true, false, List, [], ◌∷◌, ◌++◌, map, All, refl, sym, ap, ◌∙◌, subst, arith, append-nil}
use Rattle.std.specs.List.{AllByRecursion}
use Rattle.std.specs.List.Sorted.{IsStrictlyIncreasing}
use Rattle.std.proofs.lemmas.List.Elements.{All-from_recursion, recursion_from_All}
use Rattle.log_record.specs.declared.rec.Rec.{Rec}
use Rattle.log_record.specs.LogList.{size_of}
use Rattle.lock_core.specs.Alone.{planned_records, IsAllowedLeg}
use Rattle.lock_core.specs.Transactions.{recs_of, in_order, has_commit}
use Rattle.lock_core.specs.declared.job.Job.{Job}
use Rattle.early_locks.specs.declared.taken.Taken.{Taken}
use Rattle.early_locks.specs.Locks.{HoldsTaken, held_of, given_at}
use Rattle.log_table.specs.declared.table.Seat.{Seat}
use Rattle.log_rule.specs.declared.view.Books.{Books}
use Rattle.log_rule.specs.declared.view.Entry.{Entry}
use Rattle.log_rule.specs.declared.view.Given.{Given}
use Rattle.log_rule.specs.declared.view.Taken.{Taken as TakenHere}
use Rattle.log_rule.specs.declared.view.View.{View}
use Rattle.log_rule.specs.Accounts.{MayBeTaken}
use Rattle.log_rule.specs.Books.{balance_taken, last_commit_taken}
use Rattle.lock_core.specs.Transfers.{transfer_of}
use Rattle.log_rule.specs.ClosedLog.{records_of}
use Rattle.log_table.specs.Seats.{Becomes, view_of}
use Rattle.ring_buffer.specs.Calls.{entry_of}
use Rattle.txn_jobs.specs.declared.cause.Cause.{Cause}
use Rattle.txn_jobs.specs.declared.cause.Cause.TheVariants.{Stop, LogEnd}
use Rattle.txn_parts.specs.declared.taken_account.TakenAccount.{TakenAccount}
use Rattle.txn_jobs.specs.declared.rows.Answer.{Answer}
use Rattle.txn_jobs.specs.declared.rows.Answer.TheVariants as answer
use Rattle.txn_parts.specs.declared.ended.TransferEnd.{TransferEnd}
use Rattle.txn_jobs.specs.Accounts.{HasAccountsOf, IsAccountOf}
use Rattle.txn_making.specs.Endings.{EndsTransfer}
use Rattle.txn_making.specs.Holdings.{account_of, taken_of, IsKnown, held_behind, given_behind, holding_all, AreDistinct, HoldsAll, TakesAll, with_held}
use Rattle.txn_making.specs.Inserts.{Adds, IsLeft, StopsFor}
use Rattle.txn_making.specs.Legs.{AreHeld, HoldsJob, last_record}
use Rattle.txn_runner.specs.Running.{LieInOrder, GaveBack, HasInserted, IsUncommittedAt, HasRun, HasCut}
use Rattle.txn_making.proofs.Adding.{LieInOrder-weaken_to, LieInOrder-weaken_from, in_order-placed_behind}
use Rattle.txn_making.proofs.Gaining.{IsKnown-all}
use Rattle.txn_runner.proofs.PlanLemmas.{planned_records-not_empty}
use Rattle.txn_runner.specs.Stages.{HasTakenJob, MayMakeTransfer}
use Rattle.txn_making.proofs.Held.{IsStrictlyIncreasing-distinct, AreDistinct-same, given_behind-contains, given_behind-all, given_behind-append}
use Rattle.txn_making.proofs.Held.{map_account_of-same, all_taken-same, HoldsTaken-held_behind, HoldsTaken-first}

-- every account of a job that the table allows is one of the table's
pub IsAccountOf-below : (accounts : ℕ) (legs : List (ℕ × ℕ × ℕ)) (list : List ℕ) → AllByRecursion (IsAllowedLeg accounts) legs
    → All (IsAccountOf legs) list
    → All (λ account. account < accounts) list
IsAccountOf-below accounts legs list allowed only k d within = known (only k d within)
  where
    known : {account : ℕ} → IsAccountOf legs account → account < accounts
    known (j, leg, inside, is, side) = let a = subst (IsAllowedLeg accounts) is
        (All-from_recursion (IsAllowedLeg accounts) legs allowed j leg inside) in
        elim side [ inl pays ↦ subst (λ n. n < accounts) pays a.payer | inr receives ↦ subst (λ n. n < accounts) receives a.payee ]

-- each account that was taken is held with its values
all-held : (books : Books) (holdings : List TakenAccount) (held : List TakenHere) → AreDistinct holdings
    → AllByRecursion (λ (holding : TakenAccount). HoldsTaken holding.taken (record books { held = held_behind holdings held })) holdings
all-held books [] held apart = tt
all-held books (holding ∷ holdings) held apart = (
  HoldsTaken-held_behind books holdings (held_of holding.taken ∷ held) holding.taken apart.0 (HoldsTaken-first books holding held),
  all-held books holdings (held_of holding.taken ∷ held) apart.1,
)

-- a seat with this view gave the account back
pub record IsGivenFrom (view : View) (given : Given) : Type 0 where
  pub tail : given.tail ≡ view.seen.tail
  pub durable : given.durable ≡ view.seen.durable
  pub committed : given.committed ≡ has_commit (recs_of view.books.placed)

-- The accounts of the job were listed, and taken.
module _ (accounts number : ℕ) (job : Job) (list slice : List ℕ) (holdings : List TakenAccount) (old new : Seat) (same-list : slice ≡ list)
    (rising : IsStrictlyIncreasing list) (only : All (IsAccountOf job.legs) list) (allowed : MayBeTaken accounts (record { number = number; job = job }))
    (takes : TakesAll slice holdings old new) where
  listed : map account_of holdings ≡ list
  listed = takes.accounts_are ∙ same-list

  are-held : AreHeld holdings (view_of new).books
  are-held = subst (AreHeld holdings) (sym takes.entries.books_are)
      (All-from_recursion (λ (holding : TakenAccount). HoldsTaken holding.taken (holding_all holdings (view_of old).books)) holdings
      (all-held (view_of old).books holdings [] (IsStrictlyIncreasing-distinct holdings (subst IsStrictlyIncreasing (sym listed) rising))))

  -- the job may be run
  pub TakesAll-holds_job : All (HasAccountsOf list) job.legs → (view_of old).books.last ≡ record { number = number; job = job }
      → HoldsJob accounts number job holdings (view_of new).books
  TakesAll-holds_job all last = record {
    last = ap (λ (books : Books). books.last) takes.entries.books_are ∙ last;
    allowed = allowed;
    all = subst (λ xs. All (HasAccountsOf xs) job.legs) (sym listed) all;
    only = subst (All (IsAccountOf job.legs)) (sym listed) only;
    taken = are-held;
  }

  -- and its transfer made
  pub TakesAll-may_make_transfer : All (HasAccountsOf list) job.legs → (view_of old).books.last ≡ record { number = number; job = job }
      → (view_of old).books.placed ≡ [] → MayMakeTransfer accounts number job holdings (view_of new).books
  TakesAll-may_make_transfer all last none = record {
    holds = TakesAll-holds_job all last;
    all = record {
      distinct = IsStrictlyIncreasing-distinct holdings (subst IsStrictlyIncreasing (sym listed) rising);
      held = ap (λ (books : Books). books.held) takes.entries.books_are;
    };
    known = IsKnown-all accounts holdings list listed (IsAccountOf-below accounts job.legs list allowed.job.legs.each only);
    unchanged = takes.unchanged;
    none = ap (λ (books : Books). books.placed) takes.entries.books_are ∙ none;
  }

-- the accounts are held, and have other balances now
module _ (accounts number : ℕ) (job : Job) (holdings paid : List TakenAccount) (books : Books)
    (may : MayMakeTransfer accounts number job holdings books) (same : map taken_of paid ≡ map taken_of holdings) where
  -- they are still the table's accounts
  pub IsKnown-paid : All (IsKnown accounts) paid
  IsKnown-paid = all_taken-same holdings paid same (λ taken. taken.account < accounts) may.known

  -- and all that is held
  pub HoldsAll-paid : (later : Books) → later.held ≡ books.held → HoldsAll paid later
  HoldsAll-paid later held = record {
    distinct = AreDistinct-same holdings paid same may.all.distinct;
    held = held ∙ may.all.held ∙ behind holdings [] ∙ ap (λ (list : List Taken). onto list []) (sym same) ∙ sym (behind paid []);
  }
    where
      onto : List Taken → List TakenHere → List TakenHere
      onto [] held = held
      onto (taken ∷ list) held = onto list (held_of taken ∷ held)

      behind : (holdings : List TakenAccount) (held : List TakenHere) → held_behind holdings held ≡ onto (map taken_of holdings) held
      behind [] held = refl
      behind (holding ∷ holdings) held = behind holdings (held_of holding.taken ∷ held)

  -- each taken with the balance that is known of it
  still-as : All (λ (holding : TakenAccount). balance_taken books.held holding.taken.account ≡ holding.taken.balance) paid
  still-as = all_taken-same holdings paid same (λ taken. balance_taken books.held taken.account ≡ taken.balance)
      (λ k d within. (may.holds.taken k d within).balance)

  -- a seat with this view gave them back
  pub GaveBack-given_behind : (from view : View) (before : List Given) → from.books.last.number ≡ number
      → view.books.given ≡ given_behind from paid before
      → (gave : GaveBack number job (balance_taken books.held) before view) × All (IsGivenFrom from) gave.back
  GaveBack-given_behind from view before own given = (
    record {
      back = given_behind from paid [];
      given_are = given ∙ given_behind-append from paid before;
      own = said (λ one. one.txn ≡ number) (λ k d within. own);
      taken_as = said (λ one. balance_taken books.held one.account ≡ one.balance) still-as;
      each = λ k d within. let both = all k d within in (given_behind-contains from paid [] _ both.0, given_behind-contains from paid [] _ both.1);
    },
    said (IsGivenFrom from) (λ k d within. record { tail = refl; durable = refl; committed = refl }),
  )
    where
      said : (P : Given → Type 0) → All (λ (holding : TakenAccount). P (given_at from holding.taken)) paid → All P (given_behind from paid [])
      said P all = given_behind-all from P paid []
          (recursion_from_All (λ (holding : TakenAccount). P (given_at from holding.taken)) paid all) (All-from_recursion P [] tt)

      all : All (HasAccountsOf (map account_of paid)) job.legs
      all = subst (λ xs. All (HasAccountsOf xs) job.legs) (sym (map_account_of-same holdings paid same)) may.holds.all

-- the entries and jobs stay
pub record Keeps (old new : View) : Type 0 where
  pub entries : new.entries ≡ old.entries
  pub grows : old.seen.tail ≤ new.seen.tail
  pub jobs : new.books.jobs ≡ old.books.jobs

module _ (number : ℕ) (job : Job) (rest : List Rec) (first last : View) (second third : Seat) (added : List Entry)
    (taken : HasTakenJob number job first (view_of second))
    (adds : Adds added second third) (left : IsLeft rest (view_of third).books) (keeps : Keeps (view_of third) last) where
  abbrev held : List TakenHere
  held = (view_of second).books.held

  pub entries-append_added : last.entries ≡ first.entries ++ added
  entries-append_added = keeps.entries ∙ adds.entries.entries_are ∙ (λ i. taken.entries i ++ added)

  pub added-lie_in_order : LieInOrder first.seen.tail last.seen.tail added
  added-lie_in_order = LieInOrder-weaken_to _ _ _ added keeps.grows (LieInOrder-weaken_from _ _ _ added taken.grows adds.within)

  pub books_jobs-first : last.books.jobs ≡ record { number = number; job = job } ∷ first.books.jobs
  books_jobs-first = keeps.jobs ∙ ap (λ (b : Books). b.jobs) adds.entries.books_are ∙ taken.jobs

  pub added-planned_records : records_of added ++ rest ≡ planned_records number (transfer_of job) (last_commit_taken held) (balance_taken held)
  added-planned_records = sym (in_order-placed_behind added (view_of second).books.placed rest
      ∙ (λ i. in_order (recs_of (taken.none i)) (records_of added ++ rest)))
      ∙ subst (IsLeft rest) adds.entries.books_are left
      ∙ (λ i. planned_records (taken.last i).number (transfer_of (taken.last i).job) (last_commit_taken held) (balance_taken held))

  -- of the records of the transfer, run alone on the balances and last Commits as they were taken, all but the rest are inserted
  abbrev pub has-inserted : HasInserted number job rest first last
  has-inserted = record {
    balances = balance_taken held;
    last_commits = last_commit_taken held;
    added = added;
    entries = entries-append_added;
    within = added-lie_in_order;
    plan = added-planned_records;
    jobs = books_jobs-first;
  }

stops-held : (cause : Cause) (rest : List Rec) (held : List TakenHere) (back : List TakenAccount) (view : View) → StopsFor cause rest view
    → StopsFor cause rest (with_held held back view)
stops-held (Stop word) rest list back view stops = stops
stops-held (LogEnd tail total) [] list back view stops = stops
stops-held (LogEnd tail total) (next ∷ rest) list back view stops = stops

pub StopsFor-with_held : (cause : Cause) (rest : List Rec) (held : List TakenHere) (back : List TakenAccount) (first second : Seat)
    → Becomes first second (with_held held back (view_of first))
    → StopsFor cause rest (view_of first) → StopsFor cause rest (view_of second)
StopsFor-with_held cause rest held back first second becomes stops =
    subst (StopsFor cause rest) (sym (ap (λ m. m.0) becomes.me)) (stops-held cause rest held back (view_of first) stops)

-- the accounts were given back by a seat that saw this tail, and had placed no Commit
pub IsGivenFrom-uncommitted : (from new : View) (back : List Given) → All (IsGivenFrom from) back → from.seen.tail ≡ new.seen.tail
    → has_commit (recs_of from.books.placed) ≡ false → All (IsUncommittedAt new.seen.tail) back
IsGivenFrom-uncommitted from new back all same none k d within = let one = all k d within in (one.committed ∙ none, one.tail ∙ same)

pub HasCut-rest_left : (number : ℕ) (job : Job) (wait : Bool) (cause : Cause) (rest : List Rec) (old new : View) (inserted : HasInserted number job rest old new)
    → (gave : GaveBack number job inserted.balances old.books.given new) → All (IsUncommittedAt new.seen.tail) gave.back
    → rest ≢ [] → StopsFor cause rest new → HasCut number job wait cause old new
HasCut-rest_left number job wait (Stop word) rest old new inserted gave none some stops = (rest, inserted, λ none. absurd (some none), stops.0, stops.1)
HasCut-rest_left number job wait (LogEnd tail total) [] old new inserted gave none some stops = absurd stops
HasCut-rest_left number job wait (LogEnd tail total) (next ∷ rest) old new inserted gave none some stops =
    (next, rest, inserted, gave, subst (λ t. All (IsUncommittedAt t) gave.back) (sym stops.2) none, stops.0, stops.1, stops.2, stops.3)

-- no record is left, but the worker waits
pub HasCut-waiting : (number : ℕ) (job : Job) (wait : Bool) (cause : Cause) (old new : View) → HasInserted number job [] old new → wait ≡ true
    → StopsFor cause [] new → HasCut number job wait cause old new
HasCut-waiting number job wait (Stop word) old new inserted waits stops = ([], inserted, λ none. waits, stops.0, stops.1)
HasCut-waiting number job wait (LogEnd tail total) old new inserted waits stops = absurd stops

-- the transfer is cut off before its first record
pub HasCut-none_inserted : (number : ℕ) (job : Job) (wait : Bool) (cause : Cause) (old mid new : View) → HasTakenJob number job old mid → Keeps mid new
    → StopsFor cause [] new → HasCut number job wait cause old new
HasCut-none_inserted number job wait (Stop word) old mid new taken keeps stops = (
  planned_records number (transfer_of job) (λ _. 0) (λ _. 0),
  record {
    balances = λ _. 0;
    last_commits = λ _. 0;
    added = [];
    entries = keeps.entries ∙ taken.entries ∙ sym (append-nil old.entries);
    within = omega (arith, taken.grows, keeps.grows);
    plan = refl;
    jobs = keeps.jobs ∙ taken.jobs;
  },
  λ none. absurd (planned_records-not_empty number (transfer_of job) (λ _. 0) (λ _. 0) none),
  stops.0,
  stops.1,
)
HasCut-none_inserted number job wait (LogEnd tail total) old mid new taken keeps stops = absurd stops

one-unit : (number : ℕ) (job : Job) (answer : Answer) → size_of (last_record number job answer) ≡ 1
one-unit number job answer.Done = refl
one-unit number job (answer.Short leg) = refl
one-unit number job (answer.Over leg) = refl

lie-last : (from to : ℕ) (entries : List Entry) (entry : Entry) → LieInOrder from to (entries ++ entry ∷ []) → from ≤ entry.start
lie-last from to [] entry lie = lie.0
lie-last from to (other ∷ entries) entry lie = let after = lie-last (other.start + other.size) to entries entry lie.1 in
    omega (arith, lie.0, after)

pub EndsTransfer-has_run : (number : ℕ) (job : Job) (wait : Bool) (ended : TransferEnd) (seen : ℕ) (holdings : List TakenAccount) (first last : View) (second third : Seat)
    → HasTakenJob number job first (view_of second) → EndsTransfer number job ended holdings second third → Keeps (view_of third) last
    → seen ≡ last.seen.durable → (wait ≡ true → ended.end ≤ seen)
    → (gave : GaveBack number job (balance_taken (view_of second).books.held) first.books.given last)
    → All (λ (one : Given). one.durable ≡ seen) gave.back
    → HasRun number job wait (record { txn = number; answer = ended.answer; end = ended.end; seen = seen }) first last
EndsTransfer-has_run number job wait ended seen holdings first last second third taken ends keeps durable waited gave at_seen = record {
  inserted = has-inserted number job [] first last second third (ends.before ++ end ∷ []) taken ends.adds ends.left keeps;
  txn = refl;
  outcome = ends.outcome;
  before = ends.before;
  end = end;
  last = refl;
  rec = refl;
  end_is = ends.end_is;
  above = omega (arith, taken.grows, lie-last _ _ ends.before end ends.adds.within, ends.end_is, one-unit number job ended.answer);
  seen = durable;
  waited = waited;
  given = gave;
  at_seen = at_seen;
}
  where
    end : Entry
    end = entry_of ends.start (last_record number job ended.answer)
