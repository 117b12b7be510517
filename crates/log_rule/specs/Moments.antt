-- What the rule says of one moment, and what follows for the records that were sent by then, or read to be sent.
use Rattle.std.specs.Prelude.{◌≡◌, ℕ, List, [], ◌∷◌, ◌++◌, map}
use mathlib.Core.Option.{some}
use lib.ListN.{get_elem?}
use Rattle.log_record.specs.declared.rec.Rec.{Rec}
use Rattle.log_record.specs.declared.rec.Placed.{Placed}
use Rattle.log_record.specs.LogList.{AreUnitsOf}
use Rattle.lock_core.specs.History.{history_from}
use Rattle.lock_core.specs.Lawful.{IsLawful}
use Rattle.lock_core.specs.Serial.{IsPartlySerialAfter}
use Rattle.lock_core.specs.Soundness.{IsSoundAfter}
use Rattle.lock_core.specs.Sums.{BaseState, as_opening}
use Rattle.log_rule.specs.declared.start.Start.{Start}
use Rattle.log_rule.specs.declared.view.Books.{Books}
use Rattle.log_rule.specs.declared.view.TakenJob.{TakenJob}
use Rattle.log_rule.specs.declared.view.View.{View}
use Rattle.log_rule.specs.Accounts.{HasDistinctJobs}
use Rattle.log_rule.specs.Books.{task_of}
use Rattle.log_rule.specs.Log.{Log}
use Rattle.log_rule.specs.FirstAccounts.{HasAccounts}
use Rattle.log_rule.specs.Sound.{IsSound}
use Rattle.log_rule.specs.Words.{Words}

-- The key's accounts are in range. There are words, views of all seats and a log of which the rule holds for a table made with the key,
-- and the view of the seat with this number is this one.
pub record HoldsAtOnce (key : Start) (seat : ℕ) (view : View) : Type 0 where
  pub accounts : HasAccounts key
  pub words : Words
  pub views : List View
  pub log : Log
  pub rule : IsSound key words views log
  pub own : get_elem? views seat ≡ some view

-- the books of these seats, and all jobs that they took
abbrev pub books_of_all : List View → List Books
books_of_all views = map (λ (view : View). view.books) views

abbrev pub jobs_of_all : List View → List TakenJob
jobs_of_all [] = []
jobs_of_all (view ∷ views) = view.books.jobs ++ jobs_of_all views

-- The list is lawful behind the base state: each Commit stands behind those whose accounts it took over, no balance is outside its
-- range, and nothing was made or lost. Each of these jobs is run whole in it or cut short, and it has no other transactions.
pub record RunsLawfully (base : BaseState) (jobs : List TakenJob) (h : List Placed) : Type 0 where
  pub lawful : IsLawful (as_opening base) h
  pub sound : IsSoundAfter (as_opening base) [] h
  pub serial : IsPartlySerialAfter base (map task_of jobs) h

-- The units spell these records. Where no job number stands twice in the books of these seats, their list runs the jobs lawfully.
pub record SpellLawfully (base : BaseState) (views : List View) (units : List ℕ) : Type 0 where
  pub records : List Rec
  pub spelled : AreUnitsOf units records
  pub lawful : HasDistinctJobs (books_of_all views) → RunsLawfully base (jobs_of_all views) (history_from base.end [] records)
