-- The workers' shares, once the flusher's seat took in their seats.
use Rattle.std.proofs.Common.{◌≡◌, ◌≢◌, ◌⊎◌, ◌∙◌, inl, inr, ℕ, zero, suc, ◌+◌, ◌≤◌, List, [], ◌∷◌, ◌++◌, length, map, sym, ap, subst, arith, append_assoc, append-nil, Contains, Bool, true}
use Rattle.std.proofs.lemmas.List.{length-map}
use Rattle.std.proofs.lemmas.List.Elements.{All-contains, All-from_recursion, Contains-append_left, Contains-append_right, Contains-push, recursion_from_All}
use Rattle.std.specs.List.{AllByRecursion}
use mathlib.Core.Option.{some, some-injective, some-ne-none}
use lib.ListN.{get_elem?}
use Rattle.lsn_space.proofs.TilingLemmas.{all-weaken}
use Rattle.log_record.specs.LogList.{size_of}
use Rattle.log_record.proofs.SpellingLemmas.{size_of-positive}
use Rattle.lock_core.specs.Records.{txn_of}
use Rattle.log_table.specs.declared.table.LogTable.{LogTable}
use Rattle.log_rule.specs.declared.view.Entry.{Entry}
use Rattle.log_rule.specs.declared.view.Given.{Given}
use Rattle.log_rule.specs.declared.view.View.{View}
use Rattle.log_rule.specs.ClosedLog.{IsGathered}
use Rattle.log_rule.specs.Log.{IsFull, IsSpelled}
use Rattle.log_rule.specs.Sound.{HasReadStop}
use Rattle.log_rule.specs.CrewViews.{takes_in}
use Rattle.txn_jobs.specs.declared.cause.Cause.{Cause}
use Rattle.txn_jobs.specs.declared.cause.Cause.TheVariants.{Stop, LogEnd}
use Rattle.txn_jobs.specs.declared.cause.Worked.{Worked}
use Rattle.txn_jobs.specs.declared.cause.Worked.TheVariants.{All, Cut}
use Rattle.job_queue.specs.declared.queue.Queue.{Queue}
use Rattle.txn_runner.specs.Running.{account_given, IsTotalFor, IsTotalOfSeat, IsHeard, IsUncommittedAt}
use Rattle.ring_buffer.proofs.TotalLemmas.{IsTotalFor-weaker}
use Rattle.txn_runner.specs.Places.{NumberedJobs, number_at, job_at, jobs_taken}
use Rattle.txn_runner.specs.Working.{EndsLog, HasEnd, HaveEnded, IsCutBy, LieInTurn, Works, jobs_of, places_in}
use Rattle.txn_runner.proofs.EntryLemmas.{LieInOrder-ends}
use Rattle.txn_making.proofs.Held.{account_given-found}
use Rattle.txn_runner.proofs.WorkLemmas.{IsOwnEntry}
use Rattle.cli_workers.specs.declared.workers.Worker.{Worker}
use Rattle.cli_threads.specs.Gathering.{AreFront, all_marks, all_places, share_of, takes_all, view_in, worked_of}
use Rattle.cli_threads.specs.Shares.{Share, all_taken, IsGivenUncommitted, AreGivenUncommitted, CameTo, HasGathered, HasShare, WasCutBy}
use Rattle.cli_workers.specs.Workers.{Numbered}
use Rattle.cli_threads.specs.Workers.{AreDone, HasServed, IsDoneAs}
use Rattle.cli_threads.proofs.ServedLemmas.{IsDone-has_served}
use Rattle.cli_threads.proofs.TakenPlaces.{Apart, AreOnce, worked_all-front_whole, front-once, once-apart, once-append_second, AreFront-shared_out}
use Rattle.cli_threads.proofs.MergedEntries.{all-merged, merged_entries-all_split, contains-merged_left, contains-merged_right}
use Rattle.cli_threads.proofs.MergedEntries.{contains-merged_either, LieInOrder-rises, own_records-merged_left, own_records-merged_right}

-- what was asked for, by a seat that another takes in, whose table has such a ring and so many slots too
asked-first : (view other : View) (size total : ℕ) → IsTotalOfSeat view size total → IsTotalOfSeat (takes_in view other) size total
asked-first view other size total asked = IsTotalFor-weaker view.constants.ring view.constants.slots (IsHeard view.seen.refusals)
    (IsHeard (takes_in view other).seen.refusals) size total
    (Contains-append_left view.seen.refusals other.seen.refusals (record { size = size; total = total })) asked

asked-second : (view other : View) (size total : ℕ) → other.constants.ring ≡ view.constants.ring → other.constants.slots ≡ view.constants.slots
    → IsTotalOfSeat other size total → IsTotalOfSeat (takes_in view other) size total
asked-second view other size total ring slots asked =
    subst (λ (made : ℕ × ℕ). IsTotalFor made.0 made.1 (IsHeard (takes_in view other).seen.refusals) size total) (λ i. (ring i, slots i))
    (IsTotalFor-weaker other.constants.ring other.constants.slots (IsHeard other.seen.refusals) (IsHeard (takes_in view other).seen.refusals) size total
    (Contains-append_right view.seen.refusals other.seen.refusals (record { size = size; total = total })) asked)

HasEnd-of : (number : ℕ) (xs ys : List Entry) → ((e : Entry) → Contains xs e → Contains ys e) → HasEnd number xs → HasEnd number ys
HasEnd-of number xs ys among has =
    record { end = has.end; contains = among has.end has.contains; number_is = has.number_is; is_end = has.is_end }

-- ---- entries of other places

module _ (jobs : NumberedJobs) where
  -- the entry is of no transfer at these places
  abbrev IsElsewhere : List ℕ → Entry → Type 0
  IsElsewhere places entry = (place : ℕ) → Contains places place → txn_of entry.rec ≢ number_at jobs place

  -- and so is each of these
  abbrev LieElsewhere : List ℕ → List Entry → Type 0
  LieElsewhere places entries = AllByRecursion (IsElsewhere places) entries

  -- so it is with fewer places
  LieElsewhere-fewer : (places fewer : List ℕ) → ((place : ℕ) → Contains fewer place → Contains places place) → (entries : List Entry)
      → LieElsewhere places entries → LieElsewhere fewer entries
  LieElsewhere-fewer places fewer among entries lie = all-weaken (IsElsewhere places) (IsElsewhere fewer) entries
      (λ entry elsewhere place has. elsewhere place (among place has)) lie

  -- entries of one worker lie at no other's places
  own-elsewhere : (mine others : List ℕ) → Apart others mine → (entry : Entry) → IsOwnEntry jobs mine entry → IsElsewhere others entry
  own-elsewhere mine others apart entry (inl earlier) place has same = absurd (omega (arith, earlier, same))
  own-elsewhere mine others apart entry (inr own) place has same =
      apart place has (subst (Contains mine) (omega (arith, own.2, same)) own.1)

  LieElsewhere-own : (mine others : List ℕ) → Apart others mine → (entries : List Entry) → AllByRecursion (IsOwnEntry jobs mine) entries
      → LieElsewhere others entries
  LieElsewhere-own mine others apart entries own =
      all-weaken (IsOwnEntry jobs mine) (IsElsewhere others) entries (own-elsewhere mine others apart) own

module _ (queue : Queue) (crew : ℕ) where
  abbrev jobs : NumberedJobs
  jobs = jobs_of queue

  -- what is said of a share stays true once the seat of another worker is taken in, which took other places
  module _ (table : LogTable) {wait : Bool} (view : View) (other : Worker) (two : crew ≢ 1)
      (done : HasServed table queue wait other (worked_of other)) where
    abbrev after : View
    after = takes_in view (view_in other)

    abbrev others : List ℕ
    others = places_in other.rows

    HaveEnded-keeps : (places : List ℕ) → HaveEnded jobs places view → HaveEnded jobs places after
    HaveEnded-keeps places ended = all-weaken (λ place. HasEnd (number_at jobs place) view.entries)
        (λ place. HasEnd (number_at jobs place) after.entries) places
        (λ place. HasEnd-of (number_at jobs place) view.entries after.entries (contains-merged_left view.entries (view_in other).entries)) ended

    gave-keeps : (number tail balance account : ℕ) → IsGivenUncommitted number tail balance view.books.given account
        → IsGivenUncommitted number tail balance after.books.given account
    gave-keeps number tail balance account is = record {
      back = is.back;
      contains = Contains-append_left view.books.given (view_in other).books.given is.back is.contains;
      txn = is.txn;
      account_is = is.account_is;
      uncommitted = is.uncommitted;
      tail_is = is.tail_is;
      balance_is = is.balance_is;
    }

    module _ (taken : List ℕ) (apart : Apart taken others) where
      -- the other's entries are at none of these places
      theirs : LieElsewhere jobs taken (view_in other).entries
      theirs = LieElsewhere-own jobs others taken apart (view_in other).entries done.has.own

      WasCutBy-keeps : (place : ℕ) (cause : Cause) → Contains taken place → WasCutBy jobs crew place cause view
          → WasCutBy jobs crew place cause after
      WasCutBy-keeps place (Stop word) has was = was
      WasCutBy-keeps place (LogEnd tail total) has was = record {
        balances = was.balances;
        last_commits = was.last_commits;
        gave = all-weaken (AreGivenUncommitted (number_at jobs place) tail was.balances view.books.given)
            (AreGivenUncommitted (number_at jobs place) tail was.balances after.books.given) (job_at jobs place).legs
            (λ leg both. (gave-keeps _ _ _ _ both.0, gave-keeps _ _ _ _ both.1)) was.gave;
        next = was.next;
        rest = was.rest;
        plan = ap (λ l. l ++ was.next ∷ was.rest) (own_records-merged_left (number_at jobs place) view.entries (view_in other).entries
            (all-weaken (IsElsewhere jobs taken) (λ (entry : Entry). txn_of entry.rec ≢ number_at jobs place) (view_in other).entries
            (λ entry elsewhere. elsewhere place has) theirs)) ∙ was.plan;
        asked = asked-first view (view_in other) (size_of was.next) total was.asked;
        too_long = was.too_long;
        seen = Contains-append_left view.seen.lsns (view_in other).seen.lsns tail was.seen;
        alone = λ one. absurd (two one);
      }

      CameTo-keeps : (worked : Worked) → CameTo jobs crew taken worked view → CameTo jobs crew taken worked after
      CameTo-keeps All came = HaveEnded-keeps taken came
      CameTo-keeps (Cut cause) came = (
        came.0,
        came.1,
        came.2,
        HaveEnded-keeps came.0 came.3,
        WasCutBy-keeps came.1 cause (subst (λ l. Contains l came.1) (sym came.2) (Contains-push came.0 came.1)) came.4,
      )

      -- an entry at one of these places is none of the other's
      stays : (place : ℕ) (entry : Entry) → Contains taken place → Contains after.entries entry → txn_of entry.rec ≡ number_at jobs place
          → Contains view.entries entry
      stays place entry mine has is = by_place (contains-merged_either view.entries (view_in other).entries entry has)
        where
          by_place : Contains view.entries entry ⊎ Contains (view_in other).entries entry → Contains view.entries entry
          by_place (inl own) = own
          by_place (inr there) = absurd (All-contains (IsElsewhere jobs taken) (view_in other).entries entry
              (All-from_recursion (IsElsewhere jobs taken) (view_in other).entries theirs) there place mine is)

      in_turn-keeps : LieInTurn jobs taken view.entries → LieInTurn jobs taken after.entries
      in_turn-keeps turn i j first second less mine mine' has has' is is' =
          turn i j first second less mine mine' (stays i first mine has is) (stays j second mine' has' is') is is'

    pub HasShare-takes_in_other : (share : Share) → Apart share.taken others → HasShare jobs crew share view → HasShare jobs crew share after
    HasShare-takes_in_other share apart has = record {
      places = has.places;
      came_to = CameTo-keeps share.taken apart share.worked has.came_to;
      in_turn = in_turn-keeps share.taken apart has.in_turn;
    }

  -- the share of a worker whose seat is taken in
  module _ (table : LogTable) {wait : Bool} (view : View) (worker : Worker)
      (done : HasServed table queue wait worker (worked_of worker)) (lacks : LieElsewhere jobs (places_in worker.rows) view.entries)
      (first : crew ≡ 1 → view.entries ≡ [])
      (sized : AllByRecursion (λ (entry : Entry). 1 ≤ entry.size) (view_in worker).entries)
      (stop : HasReadStop view.sending.stop (view_in worker))
      (ring : view.constants.ring ≡ table.ring) (slots : view.constants.slots ≡ table.slots) where
    abbrev own : View
    own = view_in worker

    abbrev taken_in' : View
    taken_in' = takes_in view own

    abbrev mine : List ℕ
    mine = places_in worker.rows

    HaveEnded-taken : (places : List ℕ) → HaveEnded jobs places own → HaveEnded jobs places taken_in'
    HaveEnded-taken places ended = all-weaken (λ place. HasEnd (number_at jobs place) own.entries)
        (λ place. HasEnd (number_at jobs place) taken_in'.entries) places
        (λ place. HasEnd-of (number_at jobs place) own.entries taken_in'.entries (contains-merged_right view.entries own.entries)) ended

    alone-ends : (tail : ℕ) → tail ≡ own.seen.tail → crew ≡ 1
        → AllByRecursion (λ (entry : Entry). entry.start + entry.size ≤ tail) taken_in'.entries
    alone-ends tail is one = all-merged _ view.entries own.entries
        (subst (AllByRecursion (λ (entry : Entry). entry.start + entry.size ≤ tail)) (sym (first one)) tt)
        (subst (λ n. AllByRecursion (λ (entry : Entry). entry.start + entry.size ≤ n) own.entries) (sym is)
        (LieInOrder-ends 0 own.seen.tail own.entries done.has.below))

    gave-taken : (place tail total : ℕ) (ends : EndsLog jobs place tail total own) (account : ℕ)
        → Contains (map account_given ends.given.back) account
        → IsGivenUncommitted (number_at jobs place) tail (ends.balances account) taken_in'.books.given account
    gave-taken place tail total ends account has =
        let one = account_given-found ends.given.back account has in
        let last = All-contains (IsUncommittedAt tail) ends.given.back one.0 (All-from_recursion (IsUncommittedAt tail) ends.given.back ends.uncommitted) one.1 in
        record {
          back = one.0;
          contains = Contains-append_right view.books.given own.books.given one.0 (subst (λ l. Contains l one.0) (sym ends.given.given_are)
              (Contains-append_left ends.given.back ends.before one.0 one.1));
          txn = All-contains (λ (given : Given). given.txn ≡ number_at jobs place) ends.given.back one.0 ends.given.own one.1;
          account_is = one.2;
          uncommitted = last.0;
          tail_is = last.1;
          balance_is = sym (All-contains (λ (given : Given). ends.balances given.account ≡ given.balance) ends.given.back one.0 ends.given.taken_as one.1)
              ∙ ap ends.balances one.2;
        }

    WasCutBy-taken : (place : ℕ) (cause : Cause) → Contains mine place → IsCutBy jobs place true cause own
        → WasCutBy jobs crew place cause taken_in'
    WasCutBy-taken place (Stop word) has cut = (cut.1, by_stop stop)
      where
        by_stop : HasReadStop view.sending.stop own → view.sending.stop ≡ word
        by_stop (inl none) = absurd (cut.1 (sym cut.2 ∙ none))
        by_stop (inr same) = sym same ∙ cut.2
    WasCutBy-taken place (LogEnd tail total) has cut = record {
      balances = cut.balances;
      last_commits = cut.last_commits;
      gave = recursion_from_All (AreGivenUncommitted (number_at jobs place) tail cut.balances taken_in'.books.given)
          (job_at jobs place).legs
          (λ i d within. let both = cut.given.each i d within in
          (gave-taken place tail total cut _ both.0, gave-taken place tail total cut _ both.1));
      next = cut.next;
      rest = cut.rest;
      plan = ap (λ l. l ++ cut.next ∷ cut.rest) (own_records-merged_right (number_at jobs place) view.entries own.entries
          (all-weaken (IsElsewhere jobs mine) (λ (entry : Entry). txn_of entry.rec ≢ number_at jobs place) view.entries
          (λ entry elsewhere. elsewhere place has) lacks)
          (LieInOrder-rises 0 own.seen.tail own.entries done.has.below sized)) ∙ cut.plan;
      asked = asked-second view own (size_of cut.next) total (done.seat.ring ∙ sym ring) (done.seat.slots ∙ sym slots) cut.asked;
      too_long = cut.too_long;
      seen = Contains-append_right view.seen.lsns own.seen.lsns tail cut.seen;
      alone = alone-ends tail cut.tail_is;
    }

    CameTo-taken : (worked : Worked) → Works jobs [] mine true worked own → CameTo jobs crew mine worked taken_in'
    CameTo-taken All works = subst (λ places. HaveEnded jobs places taken_in') (sym works.1) (HaveEnded-taken works.0 works.2)
    CameTo-taken (Cut cause) works = (
      works.0,
      works.1,
      works.2,
      HaveEnded-taken works.0 works.3,
      WasCutBy-taken works.1 cause (subst (λ l. Contains l works.1) (sym works.2) (Contains-push works.0 works.1)) works.4,
    )

    -- an entry at one of its places is one that it brings
    brought : (place : ℕ) (entry : Entry) → Contains mine place → Contains taken_in'.entries entry → txn_of entry.rec ≡ number_at jobs place
        → Contains own.entries entry
    brought place entry at has is = by_place (contains-merged_either view.entries own.entries entry has)
      where
        by_place : Contains view.entries entry ⊎ Contains own.entries entry → Contains own.entries entry
        by_place (inl before) = absurd (All-contains (IsElsewhere jobs mine) view.entries entry
            (All-from_recursion (IsElsewhere jobs mine) view.entries lacks) before place at is)
        by_place (inr brings) = brings

    in_turn-taken : LieInTurn jobs mine taken_in'.entries
    in_turn-taken i j first second less at at' has has' is is' =
        done.has.in_turn i j first second less at at' (brought i first at has is) (brought j second at' has' is') is is'

    pub HasShare-takes_in_own : HasShare jobs crew (share_of worker) taken_in'
    HasShare-takes_in_own = record {
      places = done.has.places;
      came_to = CameTo-taken (worked_of worker) done.works;
      in_turn = in_turn-taken;
    }

  -- the next worker's seat brings no entry of those that are left
  LieElsewhere-next : (table : LogTable) {wait : Bool} (view : View) (worker : Worker) (rest : List ℕ)
      → HasServed table queue wait worker (worked_of worker) → AreOnce (places_in worker.rows ++ rest)
      → LieElsewhere jobs (places_in worker.rows ++ rest) view.entries → LieElsewhere jobs rest (takes_in view (view_in worker)).entries
  LieElsewhere-next table view worker rest done once lacks =
      let mine = places_in worker.rows in
      all-merged (IsElsewhere jobs rest) view.entries (view_in worker).entries
      (LieElsewhere-fewer jobs (mine ++ rest) rest (λ place. Contains-append_right mine rest place) view.entries lacks)
      (LieElsewhere-own jobs mine rest (λ place left own. once-apart mine rest once place own left) (view_in worker).entries done.has.own)

  module _ (table : LogTable) (wait : Bool) where
    abbrev AreDoneFrom : ℕ → List Worker → Type 0
    AreDoneFrom number workers = Numbered (IsDoneAs table queue wait) number workers

    HasShare-keeps_all : (number : ℕ) (workers : List Worker) → AreDoneFrom number workers → 1 ≤ number → number + length workers ≤ crew
        → (view : View) (share : Share) → Apart share.taken (all_places workers) → HasShare jobs crew share view
        → HasShare jobs crew share (takes_all view (map view_in workers))
    HasShare-keeps_all number [] done later few view share apart has = has
    HasShare-keeps_all number (other ∷ others) done later few view share apart has =
        let mine = places_in other.rows in
        HasShare-keeps_all (number + 1) others done.1 (omega (arith, later)) (omega (arith, few)) (takes_in view (view_in other)) share
        (λ place one two. apart place one (Contains-append_right mine (all_places others) place two))
        (HasShare-takes_in_other table view other (λ one. absurd (omega (arith, one, later, few))) (IsDone-has_served table queue wait other done.0.1) share
        (λ place one two. apart place one (Contains-append_left mine (all_places others) place two)) has)

    HasShare-all : (number : ℕ) (workers : List Worker) → AreDoneFrom number workers → number + length workers ≤ crew
        → AreOnce (all_places workers) → (view : View) → LieElsewhere jobs (all_places workers) view.entries
        → (number ≡ 0 → view.entries ≡ [])
        → AllByRecursion (λ (worker : Worker). AllByRecursion (λ (entry : Entry). 1 ≤ entry.size) (view_in worker).entries) workers
        → AllByRecursion (HasReadStop view.sending.stop) (map view_in workers)
        → view.constants.ring ≡ table.ring → view.constants.slots ≡ table.slots
        → (i : ℕ) (share : Share) → get_elem? (map share_of workers) i ≡ some share
        → HasShare jobs crew share (takes_all view (map view_in workers))
    HasShare-all number [] done few once view lacks first sized stops ring slots i share at = absurd (some-ne-none share (sym at))
    HasShare-all number (worker ∷ workers) done few once view lacks first sized stops ring slots zero share at =
        let mine = places_in worker.rows in
        let rest = all_places workers in
        let taken = HasShare-takes_in_own table view worker (IsDone-has_served table queue wait worker done.0.1)
        (LieElsewhere-fewer jobs (mine ++ rest) mine (λ place. Contains-append_left mine rest place) view.entries lacks)
        (λ one. first (omega (arith, one, few))) sized.0 stops.0 ring slots in
        subst (λ s. HasShare jobs crew s (takes_all view (map view_in (worker ∷ workers)))) (some-injective (share_of worker) share at)
        (HasShare-keeps_all (number + 1) workers done.1 (omega arith) (omega (arith, few)) (takes_in view (view_in worker))
        (share_of worker) (once-apart mine rest once) taken)
    HasShare-all number (worker ∷ workers) done few once view lacks first sized stops ring slots (suc i) share at =
        let mine = places_in worker.rows in
        let rest = all_places workers in
        let lacks_next = LieElsewhere-next table view worker rest (IsDone-has_served table queue wait worker done.0.1) once lacks in
        HasShare-all (number + 1) workers done.1 (omega (arith, few)) (once-append_second mine rest once) (takes_in view (view_in worker))
        lacks_next (λ none. absurd (omega (arith, none))) sized.1 stops.1 ring slots i share at

    jobs-all : (number : ℕ) (workers : List Worker) → AreDoneFrom number workers → (view : View)
        → (takes_all view (map view_in workers)).books.jobs ≡ view.books.jobs ++ all_taken jobs (map share_of workers)
    jobs-all number [] done view = sym (append-nil view.books.jobs)
    jobs-all number (worker ∷ workers) done view =
        jobs-all (number + 1) workers done.1 (takes_in view (view_in worker))
        ∙ (ap (λ l. (view.books.jobs ++ l) ++ all_taken jobs (map share_of workers)) (IsDone-has_served table queue wait worker done.0.1).jobs_are
        ∙ append_assoc view.books.jobs (jobs_taken jobs (share_of worker).taken) (all_taken jobs (map share_of workers)))

-- what holds of all entries in the end holds of each worker's
all-each : (P : Entry → Type 0) (view : View) (workers : List Worker) → AllByRecursion P (takes_all view (map view_in workers)).entries
    → AllByRecursion P view.entries × AllByRecursion (λ (worker : Worker). AllByRecursion P (view_in worker).entries) workers
all-each P view [] all = (all, tt)
all-each P view (worker ∷ workers) all =
    let rest = all-each P (takes_in view (view_in worker)) workers all in
    let both = merged_entries-all_split P view.entries (view_in worker).entries rest.0 in (both.0, (both.1, rest.1))

-- an entry that is filled with its record's units has some
pub full_entries-positive_size : (entries : List Entry) → AllByRecursion IsFull entries → AllByRecursion IsSpelled entries
    → AllByRecursion (λ (entry : Entry). 1 ≤ entry.size) entries
full_entries-positive_size [] full spelled = tt
full_entries-positive_size (entry ∷ entries) full spelled =
    (omega (arith, full.0, ap length spelled.0.units, size_of-positive entry.rec), full_entries-positive_size entries full.1 spelled.1)

-- Once the flusher's seat took in the seats of all workers, each done, and nothing before them, it has their shares, of a front of the script.
pub HasGathered-all : (table : LogTable) (queue : Queue) (wait : Bool) (workers : List Worker) → AreDone table queue wait workers
    → 1 ≤ length workers → (front : AreFront (length queue.script) (all_places workers) (all_marks workers))
    → (view : View) → view.entries ≡ [] → view.books.jobs ≡ [] → AllByRecursion (HasReadStop view.sending.stop) (map view_in workers)
    → view.constants.ring ≡ table.ring → view.constants.slots ≡ table.slots
    → (lsn : ℕ) → IsGathered lsn (takes_all view (map view_in workers))
    → HasGathered (jobs_of queue) front.front (map share_of workers) (takes_all view (map view_in workers))
HasGathered-all table queue wait workers done someone front view no_entries no_jobs stops ring slots lsn gathered =
    let all = takes_all view (map view_in workers) in
    let jobs = jobs_of queue in
    let crew = length (map share_of workers) in
    let count : crew ≡ length workers = length-map workers share_of in
    let sizes = all-each (λ (entry : Entry). 1 ≤ entry.size) view workers (full_entries-positive_size all.entries gathered.full gathered.spelled) in
    record {
      someone = omega (arith, someone, count);
      taken = jobs-all queue crew table wait 0 workers done view ∙ ap (λ l. l ++ all_taken jobs (map share_of workers)) no_jobs;
      each = HasShare-all queue crew table wait 0 workers done (omega (arith, count))
          (front-once (length queue.script) (all_places workers) (all_marks workers) front) view
          (subst (LieElsewhere jobs (all_places workers)) (sym no_entries) tt) (λ none. no_entries) sizes.1 stops ring slots;
      sharing = AreFront-shared_out table queue wait workers done front;
      all = worked_all-front_whole table queue wait workers done front;
    }
