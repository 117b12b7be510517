-- In each front of a run's list the transfers of each worker come one behind another, and none comes that no worker took.
use Rattle.std.proofs.Common.{◌≡◌, ◌≢◌, ◌⊎◌, inl, inr, ⊎_elim, ◌<◌, ◌≤◌, ℕ, zero, suc, ◌+◌, List, [], ◌∷◌, ◌++◌, length, map, refl, ap, ◌∙◌, sym, subst, arith, Contains}
use Rattle.std.specs.List.{AllByRecursion}
use Rattle.std.proofs.lemmas.List.Elements.{All-contains, All-from_recursion, Contains-append_cases, Contains-append_left, Contains-append_right, Contains-push_cases}
use mathlib.Core.Logic.{dite}
use mathlib.Core.Option.{some}
use native.Mathlib.Decide.{ℕ_discrete}
use lib.ListN.{get_elem?}
use Rattle.lsn_space.specs.Tiling.{IsTiling}
use Rattle.log_record.specs.declared.rec.Rec.{Rec}
use Rattle.lock_core.specs.Records.{txn_of}
use Rattle.lock_core.specs.Serial.{HasNoOthers}
use Rattle.lock_core.specs.Sums.{greatest_txn}
use Rattle.lock_core.specs.Transactions.{of_transaction, recs_of, own_records_of, has_end}
use Rattle.lock_core.proofs.Apart.{of_transaction-front_none}
use Rattle.lock_core.proofs.ListLemmas.{all-split}
use Rattle.lock_core.proofs.NextRecords.{contains_end-has_end}
use Rattle.log_recovery.specs.Opened.{OpenedList, list_end, placed, with_records, opening_left}
use Rattle.log_rule.specs.declared.view.Entry.{Entry}
use Rattle.log_rule.specs.declared.view.View.{View}
use Rattle.log_rule.specs.Books.{task_of}
use Rattle.log_rule.specs.ClosedLog.{records_of, IsGathered}
use Rattle.txn_jobs.specs.declared.cause.Worked.{Worked}
use Rattle.txn_jobs.specs.declared.cause.Worked.TheVariants.{All, Cut}
use Rattle.txn_runner.specs.Running.{LieInOrder}
use Rattle.txn_runner.specs.Places.{NumberedJobs, number_at, Rises}
use Rattle.txn_runner.specs.Working.{HasEnd}
use Rattle.txn_runner.proofs.EntryLemmas.{LieInOrder-starts}
use Rattle.cli_threads.specs.Run.{ComeInTurn, HasNoneBehind}
use Rattle.cli_threads.specs.Shares.{Share, CameTo, HasShare, all_taken, sharing_of, HasGathered}
use Rattle.cli_threads.specs.Sharing.{Sharing}
use Rattle.cli_threads.proofs.GatheredShares.{full_entries-positive_size}
use Rattle.cli_threads.proofs.RunEnds.{contains-records_of}
use Rattle.cli_threads.proofs.RunHistory.{later_of, later-append, own_records_of-later, of_transaction-pushed_others}
use Rattle.cli_threads.proofs.RunPlaces.{behind_front-not_taken}

-- the last of places that rise is above those before it
rises-last : (made : List ℕ) (place : ℕ) → Rises (made ++ place ∷ []) → AllByRecursion (λ before. before < place) made
rises-last [] place rises = tt
rises-last (first ∷ made) place rises =
    let above = (all-split (λ other. first < other) made (place ∷ []) rises.0).1 in (above.0, rises-last made place rises.1)

-- the list of places is a worker's
share-of : (shares : List Share) (places : List ℕ) → Contains (map (λ (share : Share). share.taken) shares) places
    → (worker : ℕ) × (share : Share) × (get_elem? shares worker ≡ some share) × (share.taken ≡ places)
share-of [] places (i, inside, is) = absurd (omega arith)
share-of (share ∷ shares) places (zero, inside, is) = (0, share, refl, is)
share-of (share ∷ shares) places (suc i, inside, is) =
    let rest = share-of shares places (i, omega arith, is) in (suc rest.0, rest.1, rest.2, rest.3)

-- entries that tile a part of the log lie in order
tiling-in_order : (from to : ℕ) (entries : List Entry)
    → IsTiling (λ (entry : Entry). entry.start) (λ (entry : Entry). entry.size) from entries to → LieInOrder from to entries
tiling-in_order from to [] tiles = omega (arith, tiles)
tiling-in_order from to (entry ∷ entries) tiles = (
  omega (arith, tiles.0),
  subst (λ n. LieInOrder n to entries) (omega (arith, tiles.0)) (tiling-in_order (from + entry.size) to entries tiles.1),
)

-- of entries in order each of the first ends below each of the others
in_order-behind : (from to : ℕ) (xs ys : List Entry) → LieInOrder from to (xs ++ ys) → (x y : Entry) → Contains xs x → Contains ys y
    → x.start + x.size ≤ y.start
in_order-behind from to [] ys order x y (i, inside, is) later = absurd (omega arith)
in_order-behind from to (first ∷ xs) ys order x y (zero, inside, is) later =
    subst (λ (e : Entry). e.start + e.size ≤ y.start) is
    (All-contains (λ (e : Entry). first.start + first.size ≤ e.start) (xs ++ ys) y
    (All-from_recursion _ (xs ++ ys) (LieInOrder-starts (first.start + first.size) to (xs ++ ys) order.1))
    (Contains-append_right xs ys y later))
in_order-behind from to (first ∷ xs) ys order x y (suc i, inside, is) later =
    in_order-behind (first.start + first.size) to xs ys order.1 x y (i, omega arith, is) later

-- the entries of the first records
record AreFirst (entries : List Entry) (front : List Rec) : Type 0 where
  first : List Entry
  others : List Entry
  whole : entries ≡ first ++ others
  records : records_of first ≡ front

are-first : (entries : List Entry) (front rest : List Rec) → records_of entries ≡ front ++ rest → AreFirst entries front
are-first entries [] rest is = record { first = []; others = entries; whole = refl; records = refl }
are-first [] (rec ∷ front) rest is = absurd (omega (arith, ap length is))
are-first (entry ∷ entries) (rec ∷ front) rest is =
    let more = are-first entries front rest (same-tail entry.rec rec (records_of entries) (front ++ rest) is) in
    record {
      first = entry ∷ more.first;
      others = more.others;
      whole = ap (λ l. entry ∷ l) more.whole;
      records = λ i. same-head entry.rec rec (records_of entries) (front ++ rest) is i ∷ more.records i;
    }
  where
    same-head : (x y : Rec) (xs ys : List Rec) → x ∷ xs ≡ y ∷ ys → x ≡ y
    same-head x y xs ys same = cc

    same-tail : (x y : Rec) (xs ys : List Rec) → x ∷ xs ≡ y ∷ ys → xs ≡ ys
    same-tail x y xs ys same = cc

-- an entry of the number, or none
one-of : (n : ℕ) (entries : List Entry)
    → ((entry : Entry) × Contains entries entry × (txn_of entry.rec ≡ n))
    ⊎ AllByRecursion (λ (rec : Rec). txn_of rec ≢ n) (records_of entries)
one-of n [] = inr tt
one-of n (entry ∷ entries) = dite (ℕ_discrete (txn_of entry.rec) n)
    (λ same. inl (entry, (0, omega arith, refl), same))
    (λ other. ⊎_elim (λ found. inl (found.0, Contains-append_right (entry ∷ []) entries found.0 found.1, found.2))
    (λ none. inr (other, none)) (one-of n entries))

module _ (opened : OpenedList) (jobs : NumberedJobs) (view : View) (below : (opening_left opened).txn < jobs.first)
    (front : ℕ) (shares : List Share) (gathered : HasGathered jobs front shares view)
    (others : HasNoOthers (map task_of (all_taken jobs shares)) (later_of opened (records_of view.entries)))
    (lsn : ℕ) (whole : IsGathered lsn view) where
  abbrev sharing : Sharing
  sharing = sharing_of front shares

  -- of the transfers that a worker took each before another has its end record
  ended-before : (taken : List ℕ) (worked : Worked) → Rises taken → CameTo jobs (length shares) taken worked view
      → (i j : ℕ) → Contains taken i → Contains taken j → i < j → HasEnd (number_at jobs i) view.entries
  ended-before taken All rises came i j has has' less = All-contains (λ place. HasEnd (number_at jobs place) view.entries) taken i
      (All-from_recursion (λ place. HasEnd (number_at jobs place) view.entries) taken came) has
  ended-before taken (Cut cause) rises came i j has has' less = ⊎_elim
      (λ before. All-contains (λ place. HasEnd (number_at jobs place) view.entries) came.0 i
      (All-from_recursion (λ place. HasEnd (number_at jobs place) view.entries) came.0 came.3) before)
      (λ last. absurd (omega (arith, less, last, most)))
      (Contains-push_cases came.0 came.1 i (subst (λ l. Contains l i) came.2 has))
    where
      most : j ≤ came.1
      most = ⊎_elim
          (λ before.
          let low = All-contains (λ place. place < came.1) came.0 j
          (All-from_recursion (λ place. place < came.1) came.0 (rises-last came.0 came.1 (subst Rises came.2 rises))) before in
          omega (arith, low))
          (λ last. omega (arith, last))
          (Contains-push_cases came.0 came.1 j (subst (λ l. Contains l j) came.2 has'))

  module _ (records rest : List Rec) (splits : records_of view.entries ≡ records ++ rest) where
    abbrev parts : AreFirst view.entries records
    parts = are-first view.entries records rest splits

    number-high : (place : ℕ) → greatest_txn (placed opened) < number_at jobs place
    number-high place = omega (arith, below)

    -- a transfer behind those that were taken has no record
    pub front-none_behind : HasNoneBehind jobs sharing (placed (with_records opened records))
    front-none_behind place behind =
        own_records_of-later opened records (number_at jobs place) (number-high place)
        ∙ ap recs_of (of_transaction-front_none (number_at jobs place) (later-append opened records rest).0 (later_of opened records)
        (ap (of_transaction (number_at jobs place)) (sym (later-append opened records rest).1)
        ∙ ap (λ l. of_transaction (number_at jobs place) (later_of opened l)) (sym splits)
        ∙ others (number_at jobs place) (behind_front-not_taken jobs front shares gathered.sharing place behind)))

    -- a transfer with a record has an entry there
    has-entry : (place : ℕ) → own_records_of (number_at jobs place) (placed (with_records opened records)) ≢ []
        → (entry : Entry) × Contains parts.first entry × (txn_of entry.rec ≡ number_at jobs place)
    has-entry place recorded = ⊎_elim (λ found. found)
        (λ none. absurd (recorded (own_records_of-later opened records n (number-high place)
        ∙ ap recs_of (of_transaction-pushed_others n (list_end opened) [] records
        (subst (AllByRecursion (λ (rec : Rec). txn_of rec ≢ n)) parts.records none) refl))))
        (one-of n parts.first)
      where
        n : ℕ
        n = number_at jobs place

    -- an entry that does not lie behind one of the front is in it
    in-front : (entry other : Entry) → Contains view.entries entry → Contains parts.first other → entry.start + entry.size ≤ other.start
        → Contains parts.first entry
    in-front entry other has before ends =
        by_place (Contains-append_cases parts.first parts.others entry (subst (λ l. Contains l entry) parts.whole has))
      where
        by_place : Contains parts.first entry ⊎ Contains parts.others entry → Contains parts.first entry
        by_place (inl is) = is
        by_place (inr later) = absurd (omega (
          arith,
          ends,
          in_order-behind view.constants.start lsn parts.first parts.others
              (subst (LieInOrder view.constants.start lsn) parts.whole
              (tiling-in_order view.constants.start lsn view.entries whole.tiles)) other entry before later,
          All-contains (λ (e : Entry). 1 ≤ e.size) view.entries entry
              (All-from_recursion _ view.entries (full_entries-positive_size view.entries whole.full whole.spelled)) has,
        ))

    pub front-in_turn : ComeInTurn jobs sharing (placed (with_records opened records))
    front-in_turn places i j is-list has has' less recorded =
        let found = share-of shares places is-list in
        let share : HasShare jobs (length shares) found.1 view = gathered.each found.0 found.1 found.2 in
        let first = subst (λ l. Contains l i) (sym found.3) has in
        let second = subst (λ l. Contains l j) (sym found.3) has' in
        let rises = All-contains Rises sharing.taken places (All-from_recursion Rises sharing.taken gathered.sharing.rise) is-list in
        let ended = ended-before found.1.taken found.1.worked (subst Rises (sym found.3) rises) share.came_to i j first second less in
        let entry = has-entry j recorded in
        let before = share.in_turn i j ended.end entry.0 less first second ended.contains
        (subst (λ l. Contains l entry.0) (sym parts.whole) (Contains-append_left parts.first parts.others entry.0 entry.1))
        ended.number_is entry.2 in
        ap has_end (own_records_of-later opened records (number_at jobs i) (number-high i))
        ∙ contains_end-has_end (number_at jobs i) (list_end opened) records ended.end.rec
        (subst (λ l. Contains l ended.end.rec) parts.records (contains-records_of parts.first ended.end
        (in-front ended.end entry.0 ended.contains entry.1 before))) ended.number_is ended.is_end
