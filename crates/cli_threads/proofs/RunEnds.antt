-- Which transfers of a run ended, place by place. `later` is the history after the opened list.
use Rattle.std.proofs.Common.{◌≡◌, inl, inr, ◌<◌, ◌≤◌, ℕ, zero, suc, ◌+◌, ◌*◌, true, false, List, [], ◌∷◌, ◌++◌, length, refl, ap, ◌∙◌, sym, subst, arith, Contains, append_assoc}
use Rattle.std.specs.List.{AllByRecursion}
use Rattle.std.proofs.lemmas.List.Elements.{All-contains, All-from_recursion}
use mathlib.Core.Logic.{dite}
use mathlib.Core.Option.{some, some-injective, some-ne-none}
use native.Mathlib.Decide.{dec_lt}
use lib.ListN.{get_elem?}
use Rattle.lsn_space.specs.Tiling.{IsTiling}
use Rattle.lsn_space.proofs.TilingLemmas.{all-weaken}
use Rattle.log_record.specs.declared.rec.Rec.{Rec}
use Rattle.log_record.specs.declared.rec.Placed.{Placed}
use Rattle.log_record.specs.LogList.{size_of, end_of}
use Rattle.log_record.proofs.LogListLemmas.{front_is_boundary, end_of-append}
use Rattle.lock_core.specs.Alone.{outcome_alone}
use Rattle.lock_core.specs.Records.{without_prev}
use Rattle.lock_core.specs.Serial.{NumberedTransfer}
use Rattle.lock_core.specs.Transactions.{own_records_of, has_end, all_without_prev, in_order}
use Rattle.lock_core.proofs.NextRecords.{own_records_of-history_from, contains_end-has_end, outcome_records-front_unended, planned_next-outcome_next, size-without_prev}
use Rattle.log_rule.specs.declared.view.Entry.{Entry}
use Rattle.log_rule.specs.declared.view.Given.{Given}
use Rattle.log_rule.specs.declared.view.View.{View}
use Rattle.lock_core.specs.Transfers.{transfer_of}
use Rattle.log_rule.specs.ClosedLog.{records_of, IsGathered}
use Rattle.log_rule.specs.Log.{IsEntryBoundary}
use Rattle.log_rule.specs.Members.{IsRefusalOf}
use Rattle.job_queue.specs.Takings.{same, times}
use Rattle.job_queue.proofs.Counting.{once_below-le_one, same-refl, times-push}
use Rattle.txn_jobs.specs.declared.cause.Cause.TheVariants.{Stop, LogEnd}
use Rattle.txn_jobs.specs.declared.cause.Worked.{Worked}
use Rattle.txn_jobs.specs.declared.cause.Worked.TheVariants.{All, Cut}
use Rattle.txn_runner.specs.Places.{NumberedJobs, number_at, job_at}
use Rattle.txn_runner.specs.Running.{IsTotalOfSeat}
use Rattle.txn_runner.specs.Working.{HasEnd, HaveEnded, own_records}
use Rattle.cli_threads.specs.RunStops.{EndsAs, FoundNoRoom, WasCutForRoom, IsTotalAmong, HadBalance, HadBalances, HasNextOf, StopsAtLogEnd}
use Rattle.cli_threads.specs.Shares.{Share, CameTo, IsGivenUncommitted, AreGivenUncommitted, EndsLogAt, HasGathered, sharing_of}
use Rattle.cli_threads.proofs.CutPlaces.{HasCuts, EachCuts-has_first_cut}
use Rattle.cli_threads.proofs.PlaceTimes.{times_positive-contains, times-concat_member, times-concat_le}
use Rattle.log_recovery.specs.Opened.{OpenedList, list_end, placed, with_records, opening_left}
use Rattle.log_recovery.proofs.OpenedLemmas.{list_end-more}
use Rattle.cli_threads.proofs.RunHistory.{later_of, own_records_of-later}
use Rattle.cli_threads.proofs.RunRecords.{tiling-end, boundary-front}
use Rattle.cli_threads.proofs.RunPlaces.{tasks_of, numbered-all, share-at, inside_front-taken, taken-inside_front}

-- the record of an entry is among the records
pub contains-records_of : (entries : List Entry) (entry : Entry) → Contains entries entry → Contains (records_of entries) entry.rec
contains-records_of [] entry (i, inside, is) = absurd (omega arith)
contains-records_of (first ∷ entries) entry (zero, inside, is) = (0, omega arith, ap (λ (e : Entry). e.rec) is)
contains-records_of (first ∷ entries) entry (suc i, inside, is) =
    let rest = contains-records_of entries entry (i, omega arith, is) in (suc rest.0, let more = rest.1 in omega arith, rest.2)

module _ (opened : OpenedList) (jobs : NumberedJobs) (view : View) (below : (opening_left opened).txn < jobs.first) where
  abbrev list : List Rec
  list = records_of view.entries

  abbrev later : List Placed
  later = later_of opened (records_of view.entries)

  -- the whole list has of a transfer what follows the opened list
  own-later : (n : ℕ) → jobs.first ≤ n → own_records_of n (placed (with_records opened list)) ≡ own_records_of n later
  own-later n high = own_records_of-later opened list n (omega (arith, below, high))

  has_end-later : (n : ℕ) → HasEnd n view.entries → has_end (own_records_of n later) ≡ true
  has_end-later n ended = contains_end-has_end n (list_end opened) list ended.end.rec
      (contains-records_of view.entries ended.end ended.contains) ended.number_is ended.is_end

  ends-as : (place : ℕ) → HasEnd (number_at jobs place) view.entries → EndsAs jobs place (placed (with_records opened list)) true
  ends-as place ended = ap has_end (own-later (number_at jobs place) (omega arith)) ∙ has_end-later (number_at jobs place) ended

  -- of places whose transfers all ended each one did
  ended-in : (places : List ℕ) → HaveEnded jobs places view → (place : ℕ) → 1 ≤ times place places
      → HasEnd (number_at jobs place) view.entries
  ended-in places ended place has = All-contains (λ place. HasEnd (number_at jobs place) view.entries) places place
      (All-from_recursion (λ place. HasEnd (number_at jobs place) view.entries) places ended) (times_positive-contains place places has)

  -- ---- what comes next

  -- each account that was given back uncommitted had its balance in a front of the list
  abbrev HadIt : Given → Type 0
  HadIt given = given.committed ≡ false → HadBalance (with_records opened list) given.tail given.account given.balance

  abbrev HadThem : Type 0
  HadThem = AllByRecursion HadIt view.books.given

  had-it : HadThem → (number tail balance account : ℕ) → IsGivenUncommitted number tail balance view.books.given account
      → HadBalance (with_records opened list) tail account balance
  had-it had number tail balance account is =
      subst (λ (one : ℕ × ℕ × ℕ). HadBalance (with_records opened list) one.0 one.1 one.2) (λ i. (is.tail_is i, is.account_is i, is.balance_is i))
      (All-contains HadIt view.books.given is.back (All-from_recursion HadIt view.books.given had) is.contains is.uncommitted)

  -- what comes next of the transfer that was cut off
  next-of : HadThem → (workers place tail total : ℕ) → (ends : EndsLogAt jobs workers place tail total view)
      → HasNextOf (with_records opened list) jobs place tail (size_of ends.next)
  next-of had workers place tail total ends =
      let n : ℕ = number_at jobs place in
      let transfer = transfer_of (job_at jobs place) in
      let plan : in_order (own_records_of n later) (ends.next ∷ ends.rest) ≡ own_records n view.entries ++ ends.next ∷ ends.rest =
      own_records_of-history_from n (list_end opened) [] list (ends.next ∷ ends.rest) in
      record {
        balances = ends.balances;
        each = all-weaken (AreGivenUncommitted n tail ends.balances view.books.given) (HadBalances (with_records opened list) tail ends.balances)
            (job_at jobs place).legs
            (λ leg both. (had-it had n tail (ends.balances leg.0) leg.0 both.0, had-it had n tail (ends.balances leg.1) leg.1 both.1))
            ends.gave;
        next = without_prev ends.next;
        rest = all_without_prev ends.rest;
        plan = ap (λ records. in_order (all_without_prev records) (without_prev ends.next ∷ all_without_prev ends.rest))
            (own-later n (omega arith))
            ∙ planned_next-outcome_next n transfer ends.last_commits ends.balances (own_records_of n later) ends.rest ends.next (plan ∙ ends.plan);
        size = sym (size-without_prev ends.next);
      }

  -- ---- where the log ended

  tail-front : (lsn tail : ℕ) → IsGathered lsn view → view.constants.start ≡ list_end opened → Contains view.seen.lsns tail
      → (front rest : List Rec) × (list ≡ front ++ rest) × (tail ≡ list_end (with_records opened front))
  tail-front lsn tail gathered start seen =
      let found = boundary-front tail view.constants.start view.entries gathered.full gathered.spelled
      (All-contains (IsEntryBoundary view.constants.start view.entries) view.seen.lsns tail
      (All-from_recursion (IsEntryBoundary view.constants.start view.entries) view.seen.lsns gathered.seen) seen) in
      (found.0, found.1, found.2, omega (arith, found.3, start, list_end-more opened found.0))

  -- all entries end at the tail or below it
  tiled-below : (from to tail : ℕ) (entries : List Entry)
      → IsTiling (λ (entry : Entry). entry.start) (λ (entry : Entry). entry.size) from entries to
      → AllByRecursion (λ (entry : Entry). entry.start + entry.size ≤ tail) entries → from ≤ tail → to ≤ tail
  tiled-below from to tail [] tiles all low = omega (arith, tiles)
  tiled-below from to tail (entry ∷ entries) tiles all low =
      tiled-below (from + entry.size) to tail entries tiles.1 all.1 (let start = tiles.0 in let end = all.0 in omega arith)

  -- of one worker the entries end at that tail
  alone : (lsn tail : ℕ) → IsGathered lsn view → view.constants.start ≡ list_end opened → lsn ≡ view.constants.start + end_of list
      → (front rest : List Rec) × (list ≡ front ++ rest) × (tail ≡ list_end (with_records opened front))
      → AllByRecursion (λ (entry : Entry). entry.start + entry.size ≤ tail) view.entries → tail ≡ list_end (with_records opened list)
  alone lsn tail whole start end front all =
      let whole_size = list_end-more opened list in
      let front_size = list_end-more opened front.0 in
      let list_size = ap end_of front.2 ∙ end_of-append front.0 front.1 in
      let high = tiled-below view.constants.start lsn tail view.entries whole.tiles all (omega (arith, front.3, start, front_size)) in
      omega (arith, front.3, start, end, high, whole_size, front_size, list_size)

  -- each group of whose refusal a worker heard was one of so many workers
  abbrev HeardThem : ℕ → Type 0
  HeardThem workers = AllByRecursion (IsRefusalOf workers) view.seen.refusals

  -- a worker asked for no more than a group of all of them could
  asked-among : (workers : ℕ) → 1 ≤ workers → HeardThem workers → (size total : ℕ) → IsTotalOfSeat view size total
      → IsTotalAmong view.constants.ring view.constants.slots workers size total
  asked-among workers someone heard size total (inl own) = inl own
  asked-among workers someone heard size total (inr group) =
      let most : total + 26 ≤ size + 26 * workers =
      (All-contains (IsRefusalOf workers) view.seen.refusals (record { size = size; total = total })
      (All-from_recursion (IsRefusalOf workers) view.seen.refusals heard) group.known).most in
      let within = group.within in
      dite (dec_lt 1 workers) (λ more. inr (record { grouped = group.grouped; within = within; few = group.few; known = (more, most) }))
      (λ one. inl (omega arith))

  -- what the transfer at this place, which was cut off, found
  no-room : (workers : ℕ) → 1 ≤ workers → HadThem → HeardThem workers → (lsn : ℕ) → IsGathered lsn view
      → view.constants.start ≡ list_end opened → (place tail total : ℕ) → EndsLogAt jobs workers place tail total view
      → FoundNoRoom (with_records opened list) jobs workers view.constants.ring view.constants.slots place tail total
  no-room workers someone had heard lsn whole start place tail total ends =
      let front = tail-front lsn tail whole start ends.seen in
      let end = tiling-end view.constants.start lsn view.entries whole.full whole.spelled whole.tiles in
      record {
        too_long = ends.too_long;
        boundary = (
          end_of (opened.records ++ front.0),
          front.3,
          front_is_boundary (opened.records ++ list) (end_of (opened.records ++ front.0))
              (opened.records ++ front.0, front.1, ap (λ l. opened.records ++ l) front.2 ∙ sym (append_assoc opened.records front.0 front.1), refl),
        );
        alone = λ one. alone lsn tail whole start end front (ends.alone one);
        units = size_of ends.next;
        next = next-of had workers place tail total ends;
        asked = asked-among workers someone heard (size_of ends.next) total ends.asked;
      }

  module _ (front : ℕ) (shares : List Share) (gathered : HasGathered jobs front shares view) where
    -- what the worker came to, where that is known
    came : (worker : ℕ) (share : Share) → get_elem? shares worker ≡ some share → (worked : Worked) → share.worked ≡ worked
        → CameTo jobs (length shares) share.taken worked view
    came worker share at worked is =
        subst (λ (w : Worked). CameTo jobs (length shares) share.taken w view) is (gathered.each worker share at).came_to

    -- where no worker was cut off, each transfer ended
    pub worked_all-has_end : AllByRecursion (λ (share : Share). share.worked ≡ All) shares
        → AllByRecursion (λ (task : NumberedTransfer). has_end (own_records_of task.number later) ≡ true) (tasks_of jobs)
    worked_all-has_end all = numbered-all (λ (task : NumberedTransfer). has_end (own_records_of task.number later) ≡ true) jobs.first jobs.script
        (λ place inside.
        let first = share-at shares 0 gathered.someone in
        let whole = gathered.all 0 first.0 first.1 (worked-all shares 0 first.0 all first.1) in
        let taken = inside_front-taken jobs front shares gathered.sharing place (omega (arith, inside, whole)) in
        let found = times-concat_member (λ (share : Share). share.taken) place shares taken in
        has_end-later (number_at jobs place)
        (ended-in found.1.taken (came found.0 found.1 found.2 All (worked-all shares found.0 found.1 all found.2)) place found.3))
      where
        worked-all : (some_shares : List Share) (i : ℕ) (share : Share) → AllByRecursion (λ (share : Share). share.worked ≡ All) some_shares
            → get_elem? some_shares i ≡ some share → share.worked ≡ All
        worked-all [] i share all at = absurd (some-ne-none share (sym at))
        worked-all (first ∷ others) zero share all at = subst (λ (share : Share). share.worked ≡ All) (some-injective first share at) all.0
        worked-all (first ∷ others) (suc i) share all at = worked-all others i share all.1 at

    -- a stop word that a worker read is one that was stored
    pub no_stop_word-no_stop_cut : view.sending.stop ≡ 0 → (worker word : ℕ) (share : Share) → get_elem? shares worker ≡ some share
        → share.worked ≡ Cut (Stop word) → ⊥
    no_stop_word-no_stop_cut no_stop worker word share at is =
        let reason = (came worker share at (Cut (Stop word)) is).4 in reason.0 (sym reason.1 ∙ no_stop)

    module _ (had : HadThem) (heard : HeardThem (length shares)) (lsn : ℕ) (whole : IsGathered lsn view)
        (start : view.constants.start ≡ list_end opened) (no_stop : view.sending.stop ≡ 0) where
      abbrev FoundNone : ℕ → ℕ → ℕ → ℕ → Type 0
      FoundNone workers tail total place =
          FoundNoRoom (with_records opened list) jobs workers view.constants.ring view.constants.slots place tail total

      abbrev WasCut : ℕ → ℕ → Type 0
      WasCut workers place = WasCutForRoom (with_records opened list) jobs front workers view.constants.ring view.constants.slots place

      abbrev Ends : ℕ → Type 0
      Ends place = EndsAs jobs place (placed (with_records opened list)) true

      abbrev IsLeftOver : Type 0
      IsLeftOver = front < length jobs.script

      abbrev CutsOf : Share → List ℕ → Type 0
      CutsOf share own = HasCuts (WasCut (length shares)) Ends IsLeftOver 1 share.taken own

      -- the transfer at this place was begun, and did not end
      was-cut : (worker place tail total : ℕ) (share : Share) → get_elem? shares worker ≡ some share → 1 ≤ times place share.taken
          → FoundNone (length shares) tail total place → WasCut (length shares) place
      was-cut worker place tail total share at has found =
          let n : ℕ = number_at jobs place in
          let transfer = transfer_of (job_at jobs place) in
          record {
            inside = taken-inside_front jobs front shares gathered.sharing place
                (omega (arith, has, times-concat_le (λ (share : Share). share.taken) place shares worker share at));
            unended = outcome_records-front_unended n transfer (outcome_alone transfer found.next.balances) (own_records_of n (placed (with_records opened list)))
                found.next.rest found.next.next found.next.plan;
            tail = tail;
            total = total;
            no_room = found;
          }

      -- a worker that came to the end of the log was cut off in the transfer that it took last
      last-cut : (worker tail total : ℕ) (share : Share) → get_elem? shares worker ≡ some share → share.worked ≡ Cut (LogEnd tail total)
          → (place : ℕ) × CutsOf share (place ∷ []) × FoundNone (length shares) tail total place
      last-cut worker tail total share at is = (
        place,
        record {
          most = omega arith;
          just = λ left. refl;
          within = λ other. omega (arith, parts other);
          all_cut = (was-cut worker place tail total share at (omega (arith, parts place, same-refl place)) found, tt);
          ended = λ other has none. ends-as other (ended-in made came_to.3 other (omega (arith, has, none, parts other)));
        },
        found,
      )
        where
          came_to : CameTo jobs (length shares) share.taken (Cut (LogEnd tail total)) view
          came_to = came worker share at (Cut (LogEnd tail total)) is

          made : List ℕ
          made = came_to.0

          place : ℕ
          place = came_to.1

          parts : (other : ℕ) → times other share.taken ≡ times other made + same other place
          parts other = ap (times other) came_to.2 ∙ times-push other made place

          found : FoundNone (length shares) tail total place
          found = no-room (length shares) gathered.someone had heard lsn whole start place tail total came_to.4

      each-cuts : (worker : ℕ) (share : Share) → get_elem? shares worker ≡ some share → (worked : Worked) → share.worked ≡ worked
          → (own : List ℕ) × CutsOf share own
      each-cuts worker share at All is = (
        [],
        record {
          most = omega arith;
          just = λ left. absurd (omega (arith, left, gathered.all worker share at is));
          within = λ place. omega arith;
          all_cut = tt;
          ended = λ place has none. ends-as place (ended-in share.taken (came worker share at All is) place has);
        },
      )
      each-cuts worker share at (Cut (Stop word)) is = absurd (no_stop_word-no_stop_cut no_stop worker word share at is)
      each-cuts worker share at (Cut (LogEnd tail total)) is = let last = last-cut worker tail total share at is in (last.0 ∷ [], last.1)

      pub log_end_cut-stops_at_log_end : (worker tail total : ℕ) (share : Share) → get_elem? shares worker ≡ some share → share.worked ≡ Cut (LogEnd tail total)
          → StopsAtLogEnd opened jobs (sharing_of front shares) list view.constants.ring view.constants.slots tail total
      log_end_cut-stops_at_log_end worker tail total share at is =
          let last = last-cut worker tail total share at is in
          let found = EachCuts-has_first_cut (WasCut (length shares)) Ends IsLeftOver (λ (share : Share). share.taken)
          (FoundNone (length shares) tail total) shares (λ other share at. each-cuts other share at share.worked refl)
          worker share at last.0 last.1 last.2 in
          let count = gathered.sharing.count in
          record {
            cut = found.cut;
            others = found.others;
            once = λ place. omega (arith, found.cuts.within place, gathered.sharing.once place, once_below-le_one place front);
            no_room = subst (λ n. FoundNone n tail total found.cut) (sym count) found.first;
            all_cut = subst (λ n. AllByRecursion (WasCut n) (found.cut ∷ found.others)) (sym count) found.cuts.all_cut;
            ended = λ place inside none. found.cuts.ended place (inside_front-taken jobs front shares gathered.sharing place inside) none;
            most = omega (arith, found.cuts.most, count);
            just = λ left. omega (arith, found.cuts.just left, count);
          }
