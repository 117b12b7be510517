-- The store of a mark by the last of a group to release: the machine's Mark. The group's range is released, of which nothing remains.
use Rattle.std.proofs.Common.{◌≡◌, ◌≢◌, inl, inr, ⊎_elim, ℕ, ◌+◌, ◌/◌, ◌%◌, ◌<◌, ◌≤◌, cond, true, false, true≢false, List, [], ◌∷◌, ◌++◌, length, map}
use Rattle.std.proofs.Common.{set, Some, sym, refl, ap, ◌∙◌, subst, le_refl, arith, append-nil, eq-eqb, ne_eqb}
use Rattle.std.specs.List.{AllByRecursion, find}
use Rattle.std.specs.Option.{IsSomeAnd}
use mathlib.Core.Logic.{dite}
use mathlib.Core.Option.{some}
use native.Mathlib.Decide.{ℕ_discrete}
use lib.ListN.{get_elem?}
use Rattle.lsn_space.specs.Tiling.{IsTilingBoundary}
use Rattle.lsn_space.proofs.TilingLemmas.{all-weaken, all-both, boundary-from}
use Rattle.ring_core.specs.RingLog.{IsFull as IsFilled, is_at, released_at}
use Rattle.ring_core.specs.State.{base_in, worked_on}
use Rattle.slot_core.specs.State.{InRing, Works, SlotState, task_of, ring_stage}
use Rattle.slot_core.specs.Machine.{after_mark}
use Rattle.log_rule.specs.declared.start.Start.{Start}
use Rattle.log_rule.specs.declared.group_view.After.{After}
use Rattle.log_rule.specs.declared.group_view.After.TheVariants.{Reopens}
use Rattle.log_rule.specs.declared.view.Call.TheVariants.{Idle, Emptying, Marked}
use Rattle.log_rule.specs.declared.view.Entry.{Entry}
use Rattle.log_rule.specs.declared.view.Role.TheVariants.{Active}
use Rattle.log_rule.specs.declared.view.View.{View}
use Rattle.log_rule.specs.Events.{reservation_of, task_in, slots_of, Leads, IsStep, marks}
use Rattle.log_rule.specs.GroupViews.{follow_up}
use Rattle.table_layout.specs.Layout.{Mark}
use Rattle.log_rule.specs.Log.{Part, Owed, Released, LogRange, Claim, Log, ranges_of, owed, owes, is_owed_by, claim_of, parts_of, unreleased_in}
use Rattle.log_rule.specs.Log.{filled_in, is_released, IsFull, IsFullIfReleased, IsReleased, IsAtWork, CountsRemaining, Tiles, Laid, EndsWithPart}
use Rattle.log_rule.specs.Log.{IsRangeBoundary}
use Rattle.log_rule.specs.Marks.{FirstEnds, IsCurrentMark, HasReleaseMarks, HasTrueMark, HasTrueEnds}
use Rattle.log_rule.specs.MarkViews.{marked}
use Rattle.log_rule.specs.May.{MayMark, MayMarkRun, MayMarkGroup}
use Rattle.log_rule.specs.Members.{LoadsForGroup, AwaitsPlace, HasTotalOfWorkers, HasSeenLast}
use Rattle.log_rule.specs.Roles.{is_active}
use Rattle.log_rule.specs.Slots.{pieces_at, is_shared_at, shared, phase_at}
use Rattle.log_rule.specs.Sound.{HasSeenBoundaries, HasContiguousReservations, SendsIfFlusher, StoresStop, HasReadStop, LookedIfQuiet}
use Rattle.log_rule.specs.Sound.{HasWorkingOwner, HasConstants, RestsUnlessActive, OwnsIfWorker, HoldsIfActive, IsSound}
use Rattle.log_rule.specs.Views.{run_in, entries_in, books_in, claims_in, counted}
use Rattle.log_rule.specs.Words.{Words, put}
use Rattle.log_rule.proofs.Boundaries.{range_size, part_size, boundary-append, boundary-start_le, boundary-end, range_boundary-part_boundary, boundary-mid_replaced}
use Rattle.log_rule.proofs.Carriers.{carrier-set_carrying, first_ends-mid_replaced, true_ends-log_changes}
use Rattle.log_rule.proofs.Filling.{put-at, put-other}
use Rattle.log_rule.proofs.AccountsKept.{same_books-keeps_accounts}
use Rattle.log_rule.proofs.Lists.{Last, all-mid_replaced, all-middle, picked-append, picked-mid_replaced, picked-last}
use Rattle.log_rule.proofs.Loads.{all-tile}
use Rattle.log_rule.proofs.Marking.{run_mark-step}
use Rattle.log_rule.proofs.Members.{KeepsView, one_step_more-keeps_seen, seen_in_group-more, keeps-view}
use Rattle.log_rule.proofs.OwnedParts.{duty-owed, owed-unreleased}
use Rattle.log_rule.proofs.RangeLists.{append-assoc_four, tiles-le, tiles-split, tiles-same_base_size, unreleased_in_none-all_released}
use Rattle.log_rule.proofs.RangeLists.{filled_inside-starting_within, filled_inside-starting_elsewhere, filled_in-apart}
use Rattle.log_rule.proofs.Roles.{crew-set_same, rests_if_quiet-set}
use Rattle.log_rule.proofs.Sharing.{shared-mid_replaced_unshared, sound_slot-same_shared}
use Rattle.log_rule.proofs.MachineShown.{hands_of-set, task_of-hands_of, find-reservation_at_base, reservation_of-range_changed, released_at-others}
use Rattle.log_rule.proofs.SlotLeading.{is_active-role_active}
use Rattle.log_rule.proofs.TrueMarks.{true_mark-store, current_mark-store}
use Rattle.log_rule.proofs.ViewChanges.{each_view-set_weaken, each_view-set, each_seat-set_weaken, each_seat-at}

-- ---- a range of which nothing remains is filled

-- the part is full where it starts in the `size` units from `base` on
abbrev IsFullIn : ℕ → ℕ → Part → Type 0
IsFullIn base size p = base ≤ p.entry.start → p.entry.start < base + size → IsFull p.entry

-- from a start within the range on
filled-up : (base size from to : ℕ) (parts : List Part) → Laid from parts to → base ≤ from → IsTilingBoundary part_size from parts (base + size)
    → AllByRecursion (IsFullIn base size) parts → filled_in base size parts + from ≡ base + size
filled-up base size from to [] laid above ends full = omega (arith, ends)
filled-up base size from to (p ∷ ps) laid above ends full = ⊎_elim
    (λ (here : base + size ≡ from). omega (arith, here, filled_in-apart from to base size (p ∷ ps) laid (inr (omega (arith, here)))))
    (λ later.
    let behind : from + p.entry.size ≤ base + size = boundary-start_le part_size (from + p.entry.size) (base + size) ps later in
    let whole : length p.entry.units ≡ p.entry.size = full.0 (omega (arith, laid.0, above)) (omega (arith, laid.0, laid.1, behind)) in
    let counted = filled_inside-starting_within base size p.entry (omega (arith, laid.0, above)) (omega (arith, laid.0, laid.1, behind)) in
    omega (arith, whole, counted, filled-up base size (from + p.entry.size) to ps laid.2 (omega (arith, above)) later full.1)) ends

-- and from one before it
pub filled_in-full : (base size from to : ℕ) (parts : List Part) → Laid from parts to → IsTilingBoundary part_size from parts base
    → IsTilingBoundary part_size from parts (base + size) → AllByRecursion (IsFullIn base size) parts → filled_in base size parts ≡ size
filled_in-full base size from to [] laid begins ends full = omega (arith, begins, ends)
filled_in-full base size from to (p ∷ ps) laid begins ends full = ⊎_elim
    (λ (here : base ≡ from). omega (arith, here, filled-up base size from to (p ∷ ps) laid (omega (arith, here)) ends full))
    (λ later.
    let low : from + p.entry.size ≤ base = boundary-start_le part_size (from + p.entry.size) base ps later in
    let none = filled_inside-starting_elsewhere base size p.entry (inl (omega (arith, laid.0, laid.1, low))) in
    omega (
      arith,
      none,
      filled_in-full base size (from + p.entry.size) to ps laid.2 later (⊎_elim
          (λ (here : base + size ≡ from). absurd (omega (arith, here, low, laid.1))) (λ more. more) ends) full.1,
    )) begins

module _ (key : Start) (words : Words) (views : List View) (me : ℕ) (v : View) (slot base total : ℕ) (log : Log) (s : IsSound key words views log)
    (at : get_elem? views me ≡ some v) (emptying : v.call ≡ Emptying slot base total) where
  abbrev new : View
  new = record v { seen = counted v.seen; call = Marked (Reopens slot) }

  abbrev mark' : ℕ → ℕ
  mark' = put words.mark (base % key.ring) (base + total)

  mine : HasWorkingOwner log.groups log.parts log.ahead me v
  mine = each_seat-at (HasWorkingOwner log.groups log.parts log.ahead) views me v at s.owners

  abbrev claimed : Claim
  claimed = record { base = base; size = total; remaining = 0 }

  held : Last (owes me) claim_of log.ahead [] claimed
  held = picked-last (owes me) claim_of log.ahead [] claimed (mine.owes ∙ ap claims_in emptying)

  abbrev range : LogRange
  range = held.here

  abbrev front : List LogRange
  front = log.flushed ++ (log.exposed ++ held.before)

  abbrev now : LogRange
  now = record { base = range.base; size = range.size; remaining = 0; duty = Released }

  abbrev after : Log
  after = record {
    parts = log.parts;
    flushed = log.flushed;
    exposed = log.exposed;
    ahead = held.before ++ now ∷ held.behind;
    groups = log.groups;
  }

  base-is : range.base ≡ base
  base-is = ap (λ (c : Claim). c.base) held.is

  size-is : range.size ≡ total
  size-is = ap (λ (c : Claim). c.size) held.is

  remaining-is : range.remaining ≡ 0
  remaining-is = ap (λ (c : Claim). c.remaining) held.is

  duty-is : range.duty ≡ Owed me
  duty-is = duty-owed me range.duty held.passes

  unreleased : IsReleased range → ⊥
  unreleased = owed-unreleased me range.duty duty-is

  tiles : Tiles (key.ring / 4) words.exposed (held.before ++ range ∷ held.behind) words.tail
  tiles = subst (λ l. Tiles (key.ring / 4) words.exposed l words.tail) held.split s.contiguous.to_tail

  were : ranges_of log ≡ front ++ range ∷ held.behind
  were = ap (λ l. log.flushed ++ (log.exposed ++ l)) held.split ∙ append-assoc_four log.flushed log.exposed held.before (range ∷ held.behind)

  are : front ++ now ∷ held.behind ≡ ranges_of after
  are = sym (append-assoc_four log.flushed log.exposed held.before (now ∷ held.behind))

  all-tiles : Tiles (key.ring / 4) key.start (front ++ range ∷ held.behind) words.tail
  all-tiles = subst (λ l. Tiles (key.ring / 4) key.start l words.tail) were (all-tile _ _ _ _ _ log s.contiguous)

  above_exposed : words.exposed ≤ base
  above_exposed = let h = tiles-split _ _ _ held.before held.behind range tiles in omega (arith, tiles-le _ _ _ held.before h.0, base-is)

  above_durable : words.durable ≤ base
  above_durable = omega (arith, above_exposed, tiles-le _ _ _ log.exposed s.contiguous.to_exposed)

  below_tail : base + total ≤ words.tail
  below_tail = let h = tiles-split _ _ _ held.before held.behind range tiles in omega (arith, tiles-le _ _ _ held.behind h.3, base-is, size-is)

  -- no boundary changes, only what is released
  still : (x : ℕ) → IsRangeBoundary key.start (ranges_of log) x → IsRangeBoundary key.start (ranges_of after) x
  still x b = subst (λ l. IsRangeBoundary key.start l x) are
      (boundary-mid_replaced range_size key.start x front held.behind range now refl (subst (λ l. IsRangeBoundary key.start l x) were b))

  counts : AllByRecursion (CountsRemaining log.parts) (held.before ++ range ∷ held.behind)
  counts = subst (AllByRecursion (CountsRemaining log.parts)) held.split s.contiguous.remaining

  none-remain : unreleased_in range.base range.size log.parts ≡ 0
  none-remain = all-middle (CountsRemaining log.parts) held.before held.behind range counts ∙ remaining-is

  ends-with : AllByRecursion (EndsWithPart key.start log.parts) (front ++ range ∷ held.behind)
  ends-with = subst (AllByRecursion (EndsWithPart key.start log.parts)) were s.contiguous.aligned

  contiguous : HasContiguousReservations key.start key.ring words.tail words.exposed words.durable after
  contiguous = record {
    to_durable = s.contiguous.to_durable;
    to_exposed = s.contiguous.to_exposed;
    to_tail = tiles-same_base_size _ _ _ held.before held.behind range now refl refl tiles;
    parts = s.contiguous.parts;
    remaining = all-mid_replaced (CountsRemaining log.parts) held.before held.behind range now none-remain counts;
    aligned = subst (AllByRecursion (EndsWithPart key.start log.parts)) are (all-mid_replaced (EndsWithPart key.start log.parts) front held.behind range now
        (all-middle (EndsWithPart key.start log.parts) front held.behind range ends-with) ends-with);
  }

  sends : (z : View) → SendsIfFlusher key.start words.exposed words.durable log z → SendsIfFlusher key.start words.exposed words.durable after z
  sends z old f = let o = old f in record {
    sent_to = o.sent_to;
    read_to = o.read_to;
    loaded_seen = o.loaded_seen;
    boundary = still z.sending.exposed o.boundary;
    sent_agrees = o.sent_agrees;
    read_agrees = o.read_agrees;
  }

  -- the seat owes nothing more, and the others what they did
  owes-none : owed me after.ahead ≡ []
  owes-none = picked-append (owes me) claim_of held.before (now ∷ held.behind) ∙ (λ i. held.told_before i ++ held.none_behind i)

  owe-same : (j : ℕ) → j ≢ me → owed j after.ahead ≡ owed j log.ahead
  owe-same j differ = picked-mid_replaced (owes j) claim_of held.before held.behind range now (sym off) (λ e. absurd (true≢false (sym e ∙ off)))
      ∙ ap (owed j) (sym held.split)
    where
      off : owes j range ≡ false
      off = ap (is_owed_by j) duty-is ∙ ne_eqb me j (λ e. differ (sym e))

  stored : mark' ≡ put words.mark (range.base % key.ring) (range.base + range.size)
  stored = λ i. put words.mark (sym base-is i % key.ring) (sym base-is i + sym size-is i)

  release-marks : HasReleaseMarks key.ring words.tail words.exposed mark' after
  release-marks = subst (λ m. HasReleaseMarks key.ring words.tail words.exposed m after) (sym stored) record {
    current = current_mark-store (key.ring / 4) key.ring words.mark held.before held.behind range now words.exposed words.tail tiles
        (omega (arith, s.ordered.within_ring, tiles-le _ _ _ log.exposed s.contiguous.to_exposed)) unreleased
        (record { base = refl; ends = refl; released = refl; remaining = refl })
        (subst (λ l. (place : ℕ) → words.exposed ≤ place → place < words.exposed + key.ring → IsCurrentMark key.ring words.mark l place)
        held.split s.marks.current);
    true_marks = subst (AllByRecursion (HasTrueMark key.ring (put words.mark (range.base % key.ring) (range.base + range.size)))) are
        (true_mark-store (key.ring / 4) key.ring words.mark front held.behind range now key.start words.tail all-tiles refl refl
        (omega (arith, s.ordered.within_ring, above_durable, base-is))
        (subst (AllByRecursion (HasTrueMark key.ring words.mark)) were s.marks.true_marks));
    below_tail = λ index. dite (ℕ_discrete index (range.base % key.ring))
        (λ same. subst (λ n. n ≤ words.tail) (sym (ap (put words.mark (range.base % key.ring) (range.base + range.size)) same
        ∙ put-at words.mark (range.base % key.ring) (range.base + range.size))) (omega (arith, below_tail, base-is, size-is)))
        (λ differ. subst (λ n. n ≤ words.tail) (sym (put-other words.mark (range.base % key.ring) (range.base + range.size) index differ))
        (s.marks.below_tail index));
  }

  active : v.standing.role ≡ Active
  active = is_active-role_active v.standing.role (λ off. let gone : Emptying slot base total ≡ Idle = sym emptying ∙ s.resting me v at off in cc)

  sees : (z : View) → HasSeenBoundaries key.start words.tail words.exposed words.durable (ranges_of log) z.seen
      → HasSeenBoundaries key.start words.tail words.exposed words.durable (ranges_of after) z.seen
  sees z old = record {
    tail_seen = old.tail_seen;
    exposed_seen = old.exposed_seen;
    durable_seen = old.durable_seen;
    boundaries = all-weaken (IsRangeBoundary key.start (ranges_of log)) (IsRangeBoundary key.start (ranges_of after)) z.seen.lsns still old.boundaries;
  }

  kept : KeepsView log.groups views me new
  kept = keeps-view key words views me v log s at new refl (one_step_more-keeps_seen log.groups v.seen (counted v.seen) refl refl refl refl refl refl refl) tt tt

  sound : IsSound key (record words { mark = mark' }) (set views me new) after
  sound = record {
    ordered = s.ordered;
    seen = each_view-set_weaken (λ _ z. HasSeenBoundaries key.start words.tail words.exposed words.durable (ranges_of log) z.seen)
        (λ _ z. HasSeenBoundaries key.start words.tail words.exposed words.durable (ranges_of after) z.seen) views me new s.seen
        (let old = sees v (s.seen me v at) in record {
          tail_seen = old.tail_seen;
          exposed_seen = old.exposed_seen;
          durable_seen = old.durable_seen;
          boundaries = old.boundaries;
        })
        (λ _ z _ _. sees z);
    contiguous = contiguous;
    filled = s.filled;
    below = record { full = s.below.full; below = s.below.below; ranges = s.below.ranges };
    at_work = all-mid_replaced (IsAtWork log.groups) held.before held.behind range now (inl refl)
        (subst (AllByRecursion (IsAtWork log.groups)) held.split s.at_work);
    slots = sound_slot-same_shared (key.ring / 4) words.slot words.base log.ahead after.ahead log.groups (λ q. shared-mid_replaced_unshared q held.before held.behind range now
        (ap (is_shared_at q) duty-is) refl ∙ ap (shared q) (sym held.split)) s.slots;
    marks = release-marks;
    carried = λ _. carrier-set_carrying words.exposed views me v new at tt;
    ends = each_view-set_weaken (λ _ z. HasTrueEnds key.start words.exposed log z.call) (λ _ z. HasTrueEnds key.start words.exposed after z.call) views me new
        s.ends tt (λ _ z _ _. true_ends-log_changes key.start words.exposed log after z.call still
        (λ to first. first_ends-mid_replaced held.before held.behind range now to unreleased (subst (λ l. FirstEnds l to) held.split first)));
    owners = each_seat-set_weaken (HasWorkingOwner log.groups log.parts log.ahead) (HasWorkingOwner after.groups after.parts after.ahead) views me v new at s.owners
        record {
          owns = mine.owns ∙ ap (λ c. parts_of me true v.entries ++ parts_of me false (entries_in log.groups c)) emptying;
          owes = owes-none;
          joins = λ q. mine.joins q ∙ ap (pieces_at q) emptying;
          leads = λ q. mine.leads q ∙ ap (phase_at me q) emptying;
          knows = tt;
        }
        (λ j z differ h. record { owns = h.owns; owes = owe-same j differ ∙ h.owes; joins = h.joins; leads = h.leads; knows = h.knows });
    constants = each_view-set (λ _ z. HasConstants key z) views me new s.constants (s.constants me v at);
    resting = each_view-set (λ _ z. RestsUnlessActive z) views me new s.resting (λ off. absurd (true≢false (sym (ap is_active active) ∙ off)));
    entries = each_view-set (λ _ z. OwnsIfWorker z) views me new s.entries (s.entries me v at);
    roles = crew-set_same words.crew views me v new s.roles at refl;
    sends = each_view-set_weaken (λ _ z. SendsIfFlusher key.start words.exposed words.durable log z)
        (λ _ z. SendsIfFlusher key.start words.exposed words.durable after z) views me new s.sends (sends v (s.sends me v at)) (λ _ z _ _. sends z);
    stops = each_view-set (λ _ z. StoresStop words.stop z) views me new s.stops (s.stops me v at);
    read_stop = each_view-set (λ _ z. HasReadStop words.stop z) views me new s.read_stop (s.read_stop me v at);
    quiet = rests_if_quiet-set views me v new s.quiet at (λ _ _ _ h. h) (λ _ h. h);
    looked = each_view-set (λ _ z. LookedIfQuiet words.exposed z) views me new s.looked (s.looked me v at);
    unheld = each_view-set (λ _ z. HoldsIfActive z) views me new s.unheld (s.unheld me v at);
    accounts = same_books-keeps_accounts key words.account log.parts log.groups views me v new at
        (sym (ap (λ call. books_in log.groups call v.books) emptying)) s.accounts;
    in_group = λ q. seen_in_group-more key.start key.ring words.tail words.tail words.durable words.durable (ranges_of log) (ranges_of after)
        (le_refl _) (le_refl _) still (log.groups q) (s.in_group q);
    loads = each_view-set (λ _ z. LoadsForGroup log.groups z.seen z.call) views me new s.loads kept.loads;
    awaits = each_view-set (λ _ z. AwaitsPlace z.call z.books) views me new s.awaits kept.awaits;
    totals = each_view-set (λ _ z. (q : ℕ) → HasTotalOfWorkers (log.groups q) z) views me new s.totals kept.totals;
    heard = kept.heard;
    lasts = each_view-set (λ _ z. HasSeenLast z) views me new s.lasts kept.last;
  }

  abbrev old_state : SlotState
  old_state = slots_of key words views log

  works : task_of me old_state.hands ≡ InRing (Some slot) (Works base)
  works = task_of-hands_of 0 me me views v (omega arith) at ∙ ap task_in emptying

  -- the machine finds the reservation there
  found : find (is_at base) (map (reservation_of log.parts) (ranges_of log)) ≡ Some (reservation_of log.parts range)
  found = ap (λ (p : ℕ × List LogRange). find (is_at p.0) (map (reservation_of log.parts) p.1)) (λ i. (sym base-is i, were i))
      ∙ find-reservation_at_base log.parts _ _ _ front held.behind range all-tiles

  -- the range begins and ends where parts do, all of which are released
  begins : IsTilingBoundary part_size key.start log.parts range.base
  begins = range_boundary-part_boundary (key.ring / 4) key.start key.start words.tail range.base log.parts (front ++ range ∷ held.behind) all-tiles ends-with
      (boundary-from part_size key.start log.parts) (boundary-append range_size key.start range.base front (range ∷ held.behind)
      (boundary-end (key.ring / 4) key.start range.base front (tiles-split _ _ _ front held.behind range all-tiles).0))

  as-filled : filled_in range.base range.size log.parts ≡ range.size
  as-filled = filled_in-full range.base range.size key.start words.tail log.parts s.contiguous.parts begins
      (all-middle (EndsWithPart key.start log.parts) front held.behind range ends-with)
      (all-both IsFullIfReleased
      (λ (p : Part). range.base ≤ p.entry.start → p.entry.start < range.base + range.size → p.released ≡ true)
      (IsFullIn range.base range.size) log.parts (λ p full released lo hi. full (released lo hi)) s.below.full
      (unreleased_in_none-all_released key.start words.tail range.base range.size log.parts s.contiguous.parts none-remain))

  reservations : map (reservation_of log.parts) (ranges_of after) ≡ map (released_at base) (map (reservation_of log.parts) (ranges_of log))
  reservations = ap (map (reservation_of log.parts)) (sym are)
      ∙ (reservation_of-range_changed log.parts log.parts (released_at range.base) range now (released_at-others range.base) (λ q _. refl)
      (λ i. record {
        base = range.base;
        size = range.size;
        filled = filled_in range.base range.size log.parts;
        released = sym (ap (λ b. cond b true (is_released range.duty)) (eq-eqb range.base range.base refl)) i;
      }) _ _ _ front held.behind all-tiles
      ∙ (λ i. map (released_at (base-is i)) (map (reservation_of log.parts) (sym were i))))

  pub group_mark-leads : Leads key words (record words { mark = mark' }) views (set views me new) log (marks me)
  group_mark-leads = record {
    after = after;
    sound = sound;
    shows = (
      subst (λ task. IsSomeAnd (worked_on (ring_stage task) old_state.log.reservations) IsFilled) (sym works)
          (subst (λ o. IsSomeAnd o IsFilled) (sym found) as-filled),
      (λ i. record old_state {
        log = record old_state.log { reservations = reservations i };
        hands = hands_of-set 0 me me views v new (omega arith) at i;
      })
          ∙ ap (λ task. after_mark old_state me task (base_in (ring_stage task))) (sym works),
    );
  }

group_mark-step : (key : Start) (me : ℕ) (v : View) (base end ring : ℕ) → key.ring ≡ ring → MayMarkGroup base end v → (n : ℕ)
    → IsStep key me (Mark (base % ring)) n end v (marked v) (marks me)
group_mark-step key me v base end ring same may n = record {
  leads = λ words views log s at is.
      subst (λ (x : ℕ × ℕ × List Entry × After). Leads key words (record words { mark = put words.mark x.0 x.1 }) views
      (set views me (record v { seen = counted v.seen; entries = x.2; call = Marked x.3 })) log (marks me))
      (λ i. (
        base % same i,
        sym may.ends i,
        (sym (append-nil v.entries) ∙ ap (λ call. v.entries ++ run_in call) (sym may.emptying)) i,
        ap follow_up (sym may.emptying) i,
      ))
      (group_mark-leads key words views me v may.slot base may.total log s at may.emptying);
}

pub mark-step : (key : Start) (me : ℕ) (v : View) (base end ring : ℕ) → key.ring ≡ ring → MayMark base end v → (n : ℕ)
    → IsStep key me (Mark (base % ring)) n end v (marked v) (marks me)
mark-step key me v base end ring same may n = ⊎_elim
    (λ (run : MayMarkRun base end v). run_mark-step key me v base end ring same run n)
    (λ (group : MayMarkGroup base end v). group_mark-step key me v base end ring same group n) may
