-- A worker's rows, and one more behind them. `old` and `new` are its seat's view before and after the transfer that it tells.
use Rattle.std.proofs.Common.{◌≡◌, ◌∙◌, ℕ, ◌+◌, ◌<◌, ◌≤◌, Bool, List, [], ◌∷◌, ◌++◌, length, map, Contains, refl, sym, ap, subst, arith, length-append, append_assoc}
use Rattle.std.proofs.lemmas.List.Elements.{Contains-append_left, Contains-append_right, Contains-push, All-contains, All-from_recursion, recursion_from_All}
use Rattle.lsn_space.proofs.TilingLemmas.{all-weaken}
use Rattle.lock_core.specs.Alone.{end_record}
use Rattle.log_rule.specs.declared.view.Entry.{Entry}
use Rattle.log_rule.specs.declared.view.Given.{Given}
use Rattle.log_rule.specs.declared.view.View.{View}
use Rattle.lock_core.specs.Transfers.{transfer_of}
use Rattle.txn_jobs.specs.declared.cause.Cause.{Cause}
use Rattle.txn_jobs.specs.declared.cause.Worked.TheVariants.{All, Cut}
use Rattle.txn_jobs.specs.declared.rows.Row.{Row}
use Rattle.job_queue.specs.declared.rows.Rows.{Rows}
use Rattle.txn_making.specs.Holdings.{KeepsGiven}
use Rattle.txn_runner.specs.Running.{outcome_of, LieInOrder, account_given, HasRun}
use Rattle.txn_runner.specs.Places.{NumberedJobs, number_at, job_at}
use Rattle.txn_runner.specs.Working.{rows_in, room_of, IsGivenAt, AreGivenAt, TellsEnd, AreRowsOf, AddsRows}
use Rattle.txn_runner.proofs.EntryLemmas.{LieInOrder-ends}
use Rattle.txn_making.proofs.Held.{account_given-found}

-- the view has more entries, has seen no smaller durable LSN, and has more accounts given back
pub record Goes (old new : View) : Type 0 where
  pub added : List Entry
  pub entries : new.entries ≡ old.entries ++ added
  pub durable : old.seen.durable ≤ new.seen.durable
  pub given : KeepsGiven old new

module _ (jobs : NumberedJobs) (wait : Bool) (old : View) where
  -- what a row tells lies below what the seat saw last
  row-ends : (place : ℕ) (row : Row) → LieInOrder 0 old.seen.tail old.entries → TellsEnd jobs place wait old row → row.end ≤ old.seen.tail
  row-ends place row order tells = omega (
    arith,
    tells.end_is,
    All-contains (λ (entry : Entry). entry.start + entry.size ≤ old.seen.tail) old.entries tells.end
        (All-from_recursion (λ (entry : Entry). entry.start + entry.size ≤ old.seen.tail) old.entries (LieInOrder-ends 0 old.seen.tail old.entries order))
        tells.contains,
  )

module _ (jobs : NumberedJobs) (wait : Bool) (old new : View) (goes : Goes old new) where
  IsGivenAt-still : (number durable account : ℕ) → IsGivenAt number durable old.books.given account → IsGivenAt number durable new.books.given account
  IsGivenAt-still number durable account at = record {
    back = at.back;
    contains = subst (λ l. Contains l at.back) (sym goes.given.given_are)
        (Contains-append_right goes.given.back old.books.given at.back at.contains);
    txn = at.txn;
    account_is = at.account_is;
    durable_is = at.durable_is;
  }

  TellsEnd-still : (place : ℕ) (row : Row) → TellsEnd jobs place wait old row → TellsEnd jobs place wait new row
  TellsEnd-still place row tells = record {
    txn = tells.txn;
    end = tells.end;
    contains = subst (λ l. Contains l tells.end) (sym goes.entries) (Contains-append_left old.entries goes.added tells.end tells.contains);
    rec = tells.rec;
    end_is = tells.end_is;
    seen = omega (arith, tells.seen, goes.durable);
    waited = tells.waited;
    gave = all-weaken (AreGivenAt row.txn row.seen old.books.given) (AreGivenAt row.txn row.seen new.books.given) (job_at jobs place).legs
        (λ leg both. (IsGivenAt-still row.txn row.seen leg.0 both.0, IsGivenAt-still row.txn row.seen leg.1 both.1)) tells.gave;
  }

  AreRowsOf-still : (places : List ℕ) (above since : ℕ) (rows : List Row) → AreRowsOf jobs places wait old above since rows
      → AreRowsOf jobs places wait new above since rows
  AreRowsOf-still [] above since rows tell = tell
  AreRowsOf-still (place ∷ places) above since [] tell = tt
  AreRowsOf-still (place ∷ places) above since (row ∷ rows) tell =
      (TellsEnd-still place row tell.0, tell.1, tell.2, AreRowsOf-still places row.end row.seen rows tell.3)

  -- where one more is taken, the rows are those of before
  AreRowsOf-longer : (places : List ℕ) (last : ℕ) (above since : ℕ) (rows : List Row) → AreRowsOf jobs places wait new above since rows
      → AreRowsOf jobs (places ++ last ∷ []) wait new above since rows
  AreRowsOf-longer [] last above since [] tell = tt
  AreRowsOf-longer [] last above since (row ∷ rows) tell = absurd (omega (arith, ap length tell))
  AreRowsOf-longer (place ∷ places) last above since [] tell = tt
  AreRowsOf-longer (place ∷ places) last above since (row ∷ rows) tell =
      (tell.0, tell.1, tell.2, AreRowsOf-longer places last row.end row.seen rows tell.3)

  -- a transfer was run behind those before
  module _ (order : LieInOrder 0 old.seen.tail old.entries) (row : Row) (above_tail : old.seen.tail < row.end)
      (since_durable : old.seen.durable ≤ row.seen) where
    -- its row stands behind theirs
    AreRowsOf-push : (last above since : ℕ) (places : List ℕ) (rows : List Row) → length rows ≡ length places → above ≤ old.seen.tail
        → since ≤ old.seen.durable → TellsEnd jobs last wait new row → AreRowsOf jobs places wait old above since rows
        → AreRowsOf jobs (places ++ last ∷ []) wait new above since (rows ++ row ∷ [])
    AreRowsOf-push last above since [] [] count below saw tells tell = (tells, omega arith, omega arith, refl)
    AreRowsOf-push last above since [] (other ∷ rows) count below saw tells tell = absurd (omega (arith, count))
    AreRowsOf-push last above since (place ∷ places) [] count below saw tells tell = absurd (omega (arith, count))
    AreRowsOf-push last above since (place ∷ places) (other ∷ rows) count below saw tells tell = (
      TellsEnd-still place other tell.0,
      tell.1,
      tell.2,
      AreRowsOf-push last other.end other.seen places rows (omega (arith, count))
          (row-ends jobs wait old place other order tell.0) tell.0.seen tells tell.3,
    )

TellsEnd-run : (jobs : NumberedJobs) (place : ℕ) (wait : Bool) (row : Row) (old new : View)
    → HasRun (number_at jobs place) (job_at jobs place) wait row old new → TellsEnd jobs place wait new row
TellsEnd-run jobs place wait row old new run = record {
  txn = run.txn;
  end = run.end;
  contains = subst (λ l. Contains l run.end) (sym (run.inserted.entries ∙ ap (λ l. old.entries ++ l) run.last))
      (Contains-append_right old.entries (run.before ++ run.end ∷ []) run.end (Contains-push run.before run.end));
  rec = run.rec ∙ ap (λ n. end_record n (transfer_of (job_at jobs place)) (outcome_of row.answer)) (sym run.txn);
  end_is = run.end_is;
  seen = omega (arith, run.seen);
  waited = run.waited;
  gave = recursion_from_All (AreGivenAt row.txn row.seen new.books.given) (job_at jobs place).legs
      (λ i d within. let both = run.given.each i d within in (at _ both.0, at _ both.1));
}
  where
    at : (account : ℕ) → Contains (map account_given run.given.back) account → IsGivenAt row.txn row.seen new.books.given account
    at account has = let one = account_given-found run.given.back account has in record {
      back = one.0;
      contains = subst (λ l. Contains l one.0) (sym run.given.given_are) (Contains-append_left run.given.back old.books.given one.0 one.1);
      txn = All-contains (λ (given : Given). given.txn ≡ number_at jobs place) run.given.back one.0 run.given.own one.1 ∙ sym run.txn;
      account_is = one.2;
      durable_is = All-contains (λ (given : Given). given.durable ≡ row.seen) run.given.back one.0 run.at_seen one.1;
    }

-- one more transfer was taken, at the place `last`, behind those at the places `mid`
module _ (jobs : NumberedJobs) (start mid : List ℕ) (last : ℕ) (wait : Bool) (rows_first rows_old rows_new : Rows) (first old new : View)
    (adds : AddsRows jobs start mid wait All rows_first rows_old first old) (room : room_of rows_new ≡ room_of rows_old) where
  grows : mid ++ last ∷ [] ≡ start ++ (adds.taken ++ last ∷ [])
  grows = ap (λ l. l ++ last ∷ []) adds.places ∙ append_assoc start adds.taken (last ∷ [])

  -- its row was put
  pub AddsRows-push : (row : Row) → HasRun (number_at jobs last) (job_at jobs last) wait row old new
      → LieInOrder 0 old.seen.tail old.entries → first.seen.tail ≤ old.seen.tail → first.seen.durable ≤ old.seen.durable
      → old.seen.durable ≤ new.seen.durable → KeepsGiven old new → rows_in rows_new ≡ rows_in rows_old ++ row ∷ []
      → AddsRows jobs start (mid ++ last ∷ []) wait All rows_first rows_new first new
  AddsRows-push row run order tails durables durable given rows = record {
    taken = adds.taken ++ last ∷ [];
    places = grows;
    added = adds.added ++ row ∷ [];
    rows = rows ∙ ap (λ l. l ++ row ∷ []) adds.rows ∙ append_assoc (rows_in rows_first) adds.added (row ∷ []);
    room = room ∙ adds.room;
    tell = AreRowsOf-push jobs wait old new goes order row run.above (omega (arith, run.seen, durable)) last first.seen.tail first.seen.durable
        adds.taken adds.added adds.each tails durables (TellsEnd-run jobs last wait row old new run) adds.tell;
    each = omega (arith, length-append adds.added (row ∷ []), length-append adds.taken (last ∷ []), adds.each);
  }
    where
      goes : Goes old new
      goes = record { added = run.inserted.added; entries = run.inserted.entries; durable = durable; given = given }

  -- it was cut off
  pub AddsRows-cut : (cause : Cause) → Goes old new → rows_in rows_new ≡ rows_in rows_old
      → AddsRows jobs start (mid ++ last ∷ []) wait (Cut cause) rows_first rows_new first new
  AddsRows-cut cause goes rows = record {
    taken = adds.taken ++ last ∷ [];
    places = grows;
    added = adds.added;
    rows = rows ∙ adds.rows;
    room = room ∙ adds.room;
    tell = AreRowsOf-longer jobs wait old new goes adds.taken last first.seen.tail first.seen.durable adds.added
        (AreRowsOf-still jobs wait old new goes adds.taken first.seen.tail first.seen.durable adds.added adds.tell);
    each = omega (arith, length-append adds.taken (last ∷ []), adds.each);
  }
