-- What a worker did stands once it has ended.
use Rattle.std.proofs.Common.{◌≡◌, ℕ, Bool, true, List, [], IsSomeAnd, Option, None, Some, ap, subst, ◌∙◌}
use Rattle.std.specs.Option.{unwrap_or}
use Rattle.log_table.specs.declared.table.Seat.{Seat}
use Rattle.log_table.specs.declared.table.LogTable.{LogTable}
use Rattle.log_rule.specs.declared.view.Role.TheVariants.{Ended}
use Rattle.log_rule.specs.declared.view.View.{View}
use Rattle.log_rule.specs.CrewViews.{retired}
use Rattle.log_table.specs.Seats.{Becomes, IsOf, view_of}
use Rattle.txn_jobs.specs.declared.cause.Cause.{Cause}
use Rattle.txn_jobs.specs.declared.cause.Cause.TheVariants.{Stop, LogEnd}
use Rattle.txn_jobs.specs.declared.cause.Worked.{Worked}
use Rattle.txn_jobs.specs.declared.cause.Worked.TheVariants.{All, Cut}
use Rattle.job_queue.specs.declared.queue.Queue.{Queue}
use Rattle.txn_runner.specs.Places.{NumberedJobs, jobs_taken}
use Rattle.txn_runner.specs.Working.{HasWorked, IsCutBy, TakesJobs, Works}
use Rattle.txn_runner.proofs.ProgressLemmas.{jobs-from_none}
use Rattle.txn_runner.proofs.WorkLemmas.{Works-may_wait}
use Rattle.cli_workers.specs.declared.workers.Worker.{Worker}
use Rattle.cli_threads.specs.Gathering.{worked_of}
use Rattle.cli_threads.specs.Workers.{HasServed, IsDone}

-- what is known of a worker that is done
pub IsDone-has_served : (table : LogTable) (queue : Queue) (wait : Bool) (worker : Worker) → IsDone table queue wait worker
    → HasServed table queue wait worker (worked_of worker)
IsDone-has_served table queue wait worker done = by_case worker.worked done
  where
    by_case : (worked : Option Worked) → IsSomeAnd worked (HasServed table queue wait worker)
        → HasServed table queue wait worker (unwrap_or worked All)
    by_case None done = absurd done
    by_case (Some worked) done = done

-- a seat that left is of the table that it was of
module _ (old new : Seat) (left : Becomes old new (retired (view_of old))) where
  pub left-view_retired : view_of new ≡ retired (view_of old)
  left-view_retired = ap (λ me. me.0) left.me

  pub left-role_ended : (view_of new).standing.role ≡ Ended
  left-role_ended = ap (λ (view : View). view.standing.role) left-view_retired

  pub IsOf-left : (table : LogTable) → IsOf table old → IsOf table new
  IsOf-left table of = record {
    table_is = left.table_is ∙ of.table_is;
    no_slots = ap (λ me. me.1) left.me ∙ of.no_slots;
    ring = ap (λ (view : View). view.constants.ring) left-view_retired ∙ of.ring;
    slots = ap (λ (view : View). view.constants.slots) left-view_retired ∙ of.slots;
  }

module _ (jobs : NumberedJobs) where
  HasWorked-retired : (taken : List ℕ) (view : View) → HasWorked jobs taken view → HasWorked jobs taken (retired view)
  HasWorked-retired taken view has = record {
    places = has.places;
    rising = has.rising;
    earlier = has.earlier;
    jobs_are = has.jobs_are;
    numbers = has.numbers;
    own = has.own;
    below = has.below;
    in_turn = has.in_turn;
  }

  IsCutBy-retired : (place : ℕ) (cause : Cause) (view : View) → IsCutBy jobs place true cause view
      → IsCutBy jobs place true cause (retired view)
  IsCutBy-retired place (Stop word) view is = is
  IsCutBy-retired place (LogEnd tail total) view is = record {
    balances = is.balances;
    last_commits = is.last_commits;
    before = is.before;
    given = record {
      back = is.given.back;
      given_are = is.given.given_are;
      own = is.given.own;
      taken_as = is.given.taken_as;
      each = is.given.each;
    };
    uncommitted = is.uncommitted;
    next = is.next;
    rest = is.rest;
    plan = is.plan;
    asked = is.asked;
    too_long = is.too_long;
    tail_is = is.tail_is;
    seen = is.seen;
  }

  Works-retired : (before after : List ℕ) (worked : Worked) (view : View) → Works jobs before after true worked view
      → Works jobs before after true worked (retired view)
  Works-retired before after All view works = works
  Works-retired before after (Cut cause) view works = (works.0, works.1, works.2, works.3, IsCutBy-retired works.1 cause view works.4)

  -- what is said of a worker that has ended, but for its seat
  pub record HasDone (taken : List ℕ) (worked : Worked) (view : View) : Type 0 where
    pub jobs_are : view.books.jobs ≡ jobs_taken jobs taken
    pub has : HasWorked jobs taken view
    pub works : Works jobs [] taken true worked view

  -- a worker that took no transfer before did its work, and left
  pub HasDone-left : (before taken : List ℕ) (wait : Bool) (worked : Worked) (old new : View) → before ≡ [] → old.books.jobs ≡ []
      → HasWorked jobs taken new
      → TakesJobs jobs before taken old new → Works jobs before taken wait worked new → HasDone taken worked (retired new)
  HasDone-left before taken wait worked old new none no_jobs has takes works = record {
    jobs_are = jobs-from_none jobs before taken old new none no_jobs takes;
    has = HasWorked-retired taken new has;
    works = Works-retired [] taken worked new (Works-may_wait jobs [] taken wait worked new
        (subst (λ l. Works jobs l taken wait worked new) none works));
  }
