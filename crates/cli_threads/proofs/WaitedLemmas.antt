-- The accounts of a worker that waits went back once the ends were durable, also once other seats are taken in.
use Rattle.std.proofs.Common.{◌≡◌, ◌∙◌, ℕ, zero, suc, ◌+◌, Bool, true, List, [], ◌∷◌, ◌++◌, length, map, take, sym, ap, subst, arith, Contains, refl}
use Rattle.std.proofs.lemmas.List.{take_all}
use Rattle.std.proofs.lemmas.List.Elements.{Contains-append_left, Contains-append_right}
use mathlib.Core.Option.{some, some-injective, some-ne-none}
use lib.ListN.{get_elem?}
use Rattle.lsn_space.proofs.TilingLemmas.{all-weaken as all-fewer}
use Rattle.lock_core.specs.Records.{txn_of, ends}
use Rattle.log_table.specs.declared.table.LogTable.{LogTable}
use Rattle.log_rule.specs.declared.view.Entry.{Entry}
use Rattle.log_rule.specs.declared.view.Given.{Given}
use Rattle.log_rule.specs.declared.view.View.{View}
use Rattle.log_rule.specs.CrewViews.{takes_in}
use Rattle.txn_jobs.specs.declared.cause.Worked.{Worked}
use Rattle.txn_jobs.specs.declared.cause.Worked.TheVariants.{All, Cut}
use Rattle.txn_jobs.specs.declared.rows.Row.{Row}
use Rattle.job_queue.specs.declared.queue.Queue.{Queue}
use Rattle.job_queue.specs.declared.rows.Rows.{Rows}
use Rattle.lock_core.specs.Transfers.{transfer_of}
use Rattle.txn_runner.specs.Running.{outcome_of}
use Rattle.txn_runner.specs.Places.{NumberedJobs, number_at, job_at}
use Rattle.txn_runner.specs.Working.{AddsRows, AreRowsOf, AreGivenAt, EachHasRow, IsGivenAt, TellsEnd, jobs_of}
use Rattle.txn_runner.proofs.PlanLemmas.{end_record-txn, end_record-ends}
use Rattle.cli_workers.specs.declared.workers.Worker.{Worker}
use Rattle.cli_threads.specs.Gathering.{share_of, takes_all, view_in}
use Rattle.cli_threads.specs.Shares.{Share}
use Rattle.cli_threads.specs.Waiting.{HasWaited, HaveWaited, IsGivenFrom, AreGivenFrom, made_of}
use Rattle.cli_workers.specs.Workers.{Numbered}
use Rattle.cli_threads.specs.Workers.{IsDoneAs}
use Rattle.cli_threads.proofs.MergedEntries.{contains-merged_left, contains-merged_right}
use Rattle.cli_threads.proofs.ServedLemmas.{IsDone-has_served}

module _ (jobs : NumberedJobs) where
  -- a row of a worker that waits tells it
  HasWaited-row : (place : ℕ) (view : View) (row : Row) → TellsEnd jobs place true view row → HasWaited jobs place view.entries view.books.given
  HasWaited-row place view row tells = record {
    end = tells.end;
    contains = tells.contains;
    number_is = ap txn_of tells.rec ∙ end_record-txn row.txn (transfer_of (job_at jobs place)) (outcome_of row.answer) ∙ tells.txn;
    is_end = ap ends tells.rec ∙ end_record-ends row.txn (transfer_of (job_at jobs place)) (outcome_of row.answer);
    gave = all-fewer (AreGivenAt row.txn row.seen view.books.given)
        (AreGivenFrom (number_at jobs place) (tells.end.start + tells.end.size) view.books.given) (job_at jobs place).legs
        (λ leg both. (from leg.0 both.0, from leg.1 both.1)) tells.gave;
  }
    where
      from : (account : ℕ) → IsGivenAt row.txn row.seen view.books.given account
          → IsGivenFrom (number_at jobs place) (tells.end.start + tells.end.size) view.books.given account
      from account at = record {
        back = at.back;
        contains = at.contains;
        txn = at.txn ∙ tells.txn;
        account_is = at.account_is;
        durable = let waited = tells.waited refl in omega (arith, waited, tells.end_is, at.durable_is);
      }

  -- so do all rows of those that they tell
  HaveWaited-told : (places : List ℕ) (above since : ℕ) (view : View) (rows : List Row) → AreRowsOf jobs places true view above since rows
      → HaveWaited jobs (take (length rows) places) view.entries view.books.given
  HaveWaited-told [] above since view [] tell = tt
  HaveWaited-told [] above since view (row ∷ rows) tell = tt
  HaveWaited-told (place ∷ places) above since view [] tell = tt
  HaveWaited-told (place ∷ places) above since view (row ∷ rows) tell =
      (HasWaited-row place view row tell.0, HaveWaited-told places row.end row.seen view rows tell.3)

  -- as many transfers were made as there are rows
  made-rows : (taken : List ℕ) (worked : Worked) (rows : List Row) → EachHasRow taken worked rows
      → take (length rows) taken ≡ made_of taken worked
  made-rows taken All rows each = take_all (length rows) taken (omega (arith, each))
  made-rows taken (Cut cause) rows each = ap (λ n. take n taken) (omega (arith, each))

  pub HaveWaited-worked : (start taken : List ℕ) (wait : Bool) (worked : Worked) (before after : Rows) (old new : View)
      → AddsRows jobs start taken wait worked before after old new → start ≡ [] → wait ≡ true
      → HaveWaited jobs (made_of taken worked) new.entries new.books.given
  HaveWaited-worked start taken wait worked before after old new adds none waits =
      let same : adds.taken ≡ taken = sym (adds.places ∙ ap (λ l. l ++ adds.taken) none) in
      let tell = subst (λ w. AreRowsOf jobs adds.taken w new old.seen.tail old.seen.durable adds.added) waits adds.tell in
      subst (λ l. HaveWaited jobs (made_of l worked) new.entries new.books.given) same
      (subst (λ l. HaveWaited jobs l new.entries new.books.given) (made-rows adds.taken worked adds.added adds.each)
      (HaveWaited-told adds.taken old.seen.tail old.seen.durable new adds.added tell))

  -- it stays so where there are more entries, and more was given back
  HasWaited-among : (xs ys : List Entry) (old new : List Given) → ((e : Entry) → Contains xs e → Contains ys e)
      → ((b : Given) → Contains old b → Contains new b) → (place : ℕ) → HasWaited jobs place xs old → HasWaited jobs place ys new
  HasWaited-among xs ys old new entries given place has = record {
    end = has.end;
    contains = entries has.end has.contains;
    number_is = has.number_is;
    is_end = has.is_end;
    gave = all-fewer (AreGivenFrom (number_at jobs place) (has.end.start + has.end.size) old)
        (AreGivenFrom (number_at jobs place) (has.end.start + has.end.size) new) (job_at jobs place).legs
        (λ leg both. (more leg.0 both.0, more leg.1 both.1)) has.gave;
  }
    where
      more : (account : ℕ) → IsGivenFrom (number_at jobs place) (has.end.start + has.end.size) old account
          → IsGivenFrom (number_at jobs place) (has.end.start + has.end.size) new account
      more account at = record {
        back = at.back;
        contains = given at.back at.contains;
        txn = at.txn;
        account_is = at.account_is;
        durable = at.durable;
      }

  HaveWaited-keeps : (places : List ℕ) (view other : View) → HaveWaited jobs places view.entries view.books.given
      → HaveWaited jobs places (takes_in view other).entries (takes_in view other).books.given
  HaveWaited-keeps places view other have =
      all-fewer (λ place. HasWaited jobs place view.entries view.books.given)
      (λ place. HasWaited jobs place (takes_in view other).entries (takes_in view other).books.given) places
      (HasWaited-among view.entries (takes_in view other).entries view.books.given (takes_in view other).books.given
      (contains-merged_left view.entries other.entries) (Contains-append_left view.books.given other.books.given)) have

  HaveWaited-taken : (places : List ℕ) (view own : View) → HaveWaited jobs places own.entries own.books.given
      → HaveWaited jobs places (takes_in view own).entries (takes_in view own).books.given
  HaveWaited-taken places view own have =
      all-fewer (λ place. HasWaited jobs place own.entries own.books.given)
      (λ place. HasWaited jobs place (takes_in view own).entries (takes_in view own).books.given) places
      (HasWaited-among own.entries (takes_in view own).entries own.books.given (takes_in view own).books.given
      (contains-merged_right view.entries own.entries) (Contains-append_right view.books.given own.books.given)) have

  HaveWaited-keeps_all : (places : List ℕ) (view : View) (others : List View) → HaveWaited jobs places view.entries view.books.given
      → HaveWaited jobs places (takes_all view others).entries (takes_all view others).books.given
  HaveWaited-keeps_all places view [] have = have
  HaveWaited-keeps_all places view (other ∷ others) have =
      HaveWaited-keeps_all places (takes_in view other) others (HaveWaited-keeps places view other have)

-- once the seats of all workers are taken in, it is so with each of them
pub HaveWaited-all : (table : LogTable) (queue : Queue) (wait : Bool) (number : ℕ) (workers : List Worker)
    → Numbered (IsDoneAs table queue wait) number workers → (view : View) → wait ≡ true → (i : ℕ) (share : Share)
    → get_elem? (map share_of workers) i ≡ some share
    → HaveWaited (jobs_of queue) (made_of share.taken share.worked) (takes_all view (map view_in workers)).entries
    (takes_all view (map view_in workers)).books.given
HaveWaited-all table queue wait number [] done view waits i share at = absurd (some-ne-none share (sym at))
HaveWaited-all table queue wait number (worker ∷ workers) done view waits zero share at =
    let jobs = jobs_of queue in
    let all = takes_all view (map view_in (worker ∷ workers)) in
    subst (λ (s : Share). HaveWaited jobs (made_of s.taken s.worked) all.entries all.books.given)
    (some-injective (share_of worker) share at)
    (HaveWaited-keeps_all jobs _ (takes_in view (view_in worker)) (map view_in workers)
    (HaveWaited-taken jobs _ view (view_in worker) ((IsDone-has_served table queue wait worker done.0.1).waited waits)))
HaveWaited-all table queue wait number (worker ∷ workers) done view waits (suc i) share at =
    HaveWaited-all table queue wait (number + 1) workers done.1 (takes_in view (view_in worker)) waits i share at
