-- The store of a mark: the machine's Mark. The seat's range is released, wherever exposed is.
use Rattle.std.proofs.Common.{◌≡◌, ◌≢◌, inl, inr, ⊎_elim, ℕ, ◌+◌, ◌/◌, ◌%◌, ◌<◌, ◌≤◌, cond, true, false, true≢false, List, [], ◌∷◌, ◌++◌, map, set}
use Rattle.std.proofs.Common.{None, sym, refl, ap, ◌∙◌, subst, le_refl, arith, append-nil, eq-eqb, ne_eqb}
use Rattle.std.specs.List.{AllByRecursion}
use Rattle.std.specs.Option.{IsSomeAnd}
use mathlib.Core.Logic.{dite}
use mathlib.Core.Option.{some}
use native.Mathlib.Decide.{ℕ_discrete}
use lib.ListN.{get_elem?}
use Rattle.lsn_space.specs.Tiling.{IsTilingBoundary}
use Rattle.lsn_space.proofs.TilingLemmas.{all-weaken}
use Rattle.ring_core.specs.RingLog.{IsFull as IsFilled, released_at}
use Rattle.ring_core.specs.State.{base_in, worked_on}
use Rattle.slot_core.specs.State.{InRing, Works, SlotState, task_of, ring_stage}
use Rattle.slot_core.specs.Machine.{after_mark}
use Rattle.log_rule.specs.declared.start.Start.{Start}
use Rattle.log_rule.specs.declared.group_view.After.{After}
use Rattle.log_rule.specs.declared.group_view.After.TheVariants.{Nothing}
use Rattle.log_rule.specs.declared.view.Call.TheVariants.{Idle, Filling, Marked}
use Rattle.log_rule.specs.declared.view.Entry.{Entry}
use Rattle.log_rule.specs.declared.view.Role.{Role}
use Rattle.log_rule.specs.declared.view.Role.TheVariants.{Flusher, Fresh, Active, Ended, Note, Spent}
use Rattle.log_rule.specs.declared.view.View.{View}
use Rattle.log_rule.specs.Events.{reservation_of, hands_of, slots_of, Leads, IsStep, marks}
use Rattle.table_layout.specs.Layout.{Mark}
use Rattle.log_rule.specs.Log.{Part, Owed, Released, LogRange, Claim, Log, ranges_of, own, owed, owes, is_owed_by, claim_of, part_of, parts_of}
use Rattle.log_rule.specs.Log.{unreleased_in, inside, filled_in, is_released, IsFull, SpellsRecord, records_in, StandsInRing, IsFullIfReleased}
use Rattle.log_rule.specs.Log.{IsReleasedBelow, IsReleased, IsAtWork, CountsRemaining, Tiles, Laid, AgreesFrom, EndsWithPart, IsRangeBoundary}
use Rattle.log_rule.specs.Marks.{HasReleaseMarks, HasTrueMark, HasTrueEnds}
use Rattle.log_rule.specs.GroupViews.{follow_up}
use Rattle.log_rule.specs.MarkViews.{marked}
use Rattle.log_rule.specs.May.{MayMarkRun}
use Rattle.log_rule.specs.Members.{LoadsForGroup, AwaitsPlace, HasTotalOfWorkers, HasSeenLast}
use Rattle.log_rule.specs.Sound.{HasSeenBoundaries, HasContiguousReservations, SendsIfFlusher, StoresStop, HasReadStop, LookedIfQuiet}
use Rattle.log_rule.specs.Sound.{HasWorkingOwner, HasConstants, RestsUnlessActive, OwnsIfWorker, HoldsIfActive, IsSound, base_of, books_of}
use Rattle.lock_core.specs.History.{history_from}
use Rattle.log_rule.specs.Accounts.{KeepsAccounts}
use Rattle.log_rule.specs.Roles.{is_active, may_own}
use Rattle.log_rule.specs.Slots.{pieces_at, is_shared_at, shared, phase_at}
use Rattle.log_rule.specs.Views.{run_in, entries_in, books_in, counted}
use Rattle.log_rule.specs.Words.{Words, put}
use Rattle.log_rule.proofs.Boundaries.{range_size, part_size, boundary-mid_replaced}
use Rattle.log_rule.proofs.Carriers.{carrier-set_carrying, first_ends-mid_replaced, true_ends-log_changes}
use Rattle.log_rule.proofs.Filling.{HeldRange, range-front, held-range, ranges_of-around_held, tiles-held, filling-task_is_works, find-held_reservation, put-at, put-other}
use Rattle.log_rule.proofs.AccountsKept.{same_books-keeps_accounts, records-mid_replaced}
use Rattle.log_rule.proofs.Lists.{all-mid_replaced, all-middle, picked-append, picked-mid_replaced}
use Rattle.log_rule.proofs.Members.{KeepsView, one_step_more-keeps_seen, seen_in_group-more, keeps-view}
use Rattle.log_rule.proofs.OwnedParts.{LastPart, own-last_part, own-last_replaced, own-mid_replaced_others, parts_of-push, duty-owed, owed-unreleased}
use Rattle.log_rule.proofs.RangeLists.{append-assoc_four, tiles-le, tiles-split, tiles-same_base_size, tiles-all_replaced, laid-same_start_size}
use Rattle.log_rule.proofs.RangeLists.{unreleased_in-mid_replaced, inside-starting_within, inside-starting_elsewhere, filled_in-mid_replaced}
use Rattle.log_rule.proofs.RangeLists.{filled_in-range_of_part}
use Rattle.log_rule.proofs.Roles.{crew-set_same, rests_if_quiet-set}
use Rattle.log_rule.proofs.Sharing.{shared-mid_replaced_unshared, sound_slot-same_shared}
use Rattle.log_rule.proofs.MachineShown.{hands_of-set, reservation_of-range_changed, released_at-others}
use Rattle.log_rule.proofs.TrueMarks.{true_mark-store, current_mark-store}
use Rattle.log_rule.proofs.ViewChanges.{each_view-set_weaken, each_view-set, each_seat-set_weaken, each_seat-at}

only-owners : (role : Role) → may_own role ≡ false → is_active role ≡ false
only-owners Flusher off = refl
only-owners Fresh off = refl
only-owners Active off = absurd (true≢false off)
only-owners Ended off = refl
only-owners Note off = refl
only-owners Spent off = refl

module _ (key : Start) (words : Words) (views : List View) (me : ℕ) (v : View) (entry : Entry) (log : Log) (s : IsSound key words views log)
    (at : get_elem? views me ≡ some v) (filling : v.call ≡ Filling entry) (is_full : IsFull entry) where
  abbrev new : View
  new = record v { seen = counted v.seen; entries = v.entries ++ entry ∷ []; call = Marked Nothing }

  abbrev mark' : ℕ → ℕ
  mark' = put words.mark (entry.start % key.ring) (entry.start + entry.size)

  mine : HasWorkingOwner log.groups log.parts log.ahead me v
  mine = each_seat-at (HasWorkingOwner log.groups log.parts log.ahead) views me v at s.owners

  last : LastPart me log.parts (parts_of me true v.entries) entry
  last = own-last_part me log.parts (parts_of me true v.entries) entry
      (mine.owns ∙ ap (λ c. parts_of me true v.entries ++ parts_of me false (entries_in log.groups c)) filling)

  abbrev held : HeldRange me log.ahead entry
  held = held-range key words views me v entry log s at filling

  abbrev range : LogRange
  range = held.here

  abbrev front : List LogRange
  front = range-front me entry log held

  abbrev old_part : Part
  old_part = part_of me false entry

  abbrev part : Part
  part = part_of me true entry

  abbrev now : LogRange
  now = record { base = range.base; size = range.size; remaining = 0; duty = Released }

  abbrev after : Log
  after = record {
    parts = last.before ++ part ∷ last.behind;
    flushed = log.flushed;
    exposed = log.exposed;
    ahead = held.before ++ now ∷ held.behind;
    groups = log.groups;
  }

  base-is : range.base ≡ entry.start
  base-is = ap (λ (c : Claim). c.base) held.is

  size-is : range.size ≡ entry.size
  size-is = ap (λ (c : Claim). c.size) held.is

  duty-is : range.duty ≡ Owed me
  duty-is = duty-owed me range.duty held.passes

  unreleased : IsReleased range → ⊥
  unreleased = owed-unreleased me range.duty duty-is

  tiles : Tiles (key.ring / 4) words.exposed (held.before ++ range ∷ held.behind) words.tail
  tiles = subst (λ l. Tiles (key.ring / 4) words.exposed l words.tail) held.split s.contiguous.to_tail

  were : ranges_of log ≡ front ++ range ∷ held.behind
  were = ranges_of-around_held key words views me v entry log s at filling

  are : front ++ now ∷ held.behind ≡ ranges_of after
  are = sym (append-assoc_four log.flushed log.exposed held.before (now ∷ held.behind))

  all-tiles : Tiles (key.ring / 4) key.start (front ++ range ∷ held.behind) words.tail
  all-tiles = tiles-held key words views me v entry log s at filling

  positive : 1 ≤ entry.size
  positive = let h = tiles-split _ _ _ held.before held.behind range tiles in omega (arith, h.1, size-is)

  above_exposed : words.exposed ≤ entry.start
  above_exposed = let h = tiles-split _ _ _ held.before held.behind range tiles in omega (arith, tiles-le _ _ _ held.before h.0, base-is)

  above_durable : words.durable ≤ entry.start
  above_durable = omega (arith, above_exposed, tiles-le _ _ _ log.exposed s.contiguous.to_exposed)

  below_tail : entry.start + entry.size ≤ words.tail
  below_tail = let h = tiles-split _ _ _ held.before held.behind range tiles in omega (arith, tiles-le _ _ _ held.behind h.3, base-is, size-is)

  laid : Laid key.start (last.before ++ old_part ∷ last.behind) words.tail
  laid = subst (λ l. Laid key.start l words.tail) last.split s.contiguous.parts

  all-old : (P : Part → Type 0) → AllByRecursion P log.parts → AllByRecursion P (last.before ++ old_part ∷ last.behind)
  all-old P = subst (AllByRecursion P) last.split

  same-part : (P : Part → Type 0) → (P old_part → P part) → AllByRecursion P log.parts → AllByRecursion P after.parts
  same-part P f all = all-mid_replaced P last.before last.behind old_part part (f (all-middle P last.before last.behind old_part (all-old P all))) (all-old P all)

  -- what is not released
  counted-in : (base size : ℕ) → unreleased_in base size after.parts + inside base size entry ≡ unreleased_in base size log.parts
  counted-in base size =
      let m = unreleased_in-mid_replaced base size last.before last.behind old_part part in
      let g : unreleased_in base size (last.before ++ old_part ∷ last.behind) ≡ unreleased_in base size log.parts =
      ap (unreleased_in base size) (sym last.split) in omega (arith, m, g)

  counts : AllByRecursion (CountsRemaining log.parts) (held.before ++ range ∷ held.behind)
  counts = subst (AllByRecursion (CountsRemaining log.parts)) held.split s.contiguous.remaining

  none-left : unreleased_in range.base range.size after.parts ≡ 0
  none-left =
      let remaining : range.remaining ≡ entry.size = ap (λ (c : Claim). c.remaining) held.is in
      let was = all-middle (CountsRemaining log.parts) held.before held.behind range counts in
      let here = inside-starting_within range.base range.size entry (omega (arith, base-is)) (omega (arith, base-is, size-is, positive)) in
      omega (arith, was, remaining, here, counted-in range.base range.size)

  -- no boundary changes, only what is released
  still : (x : ℕ) → IsRangeBoundary key.start (ranges_of log) x → IsRangeBoundary key.start (ranges_of after) x
  still x b = subst (λ l. IsRangeBoundary key.start l x) are
      (boundary-mid_replaced range_size key.start x front held.behind range now refl (subst (λ l. IsRangeBoundary key.start l x) were b))

  ends-with : (r : LogRange) → EndsWithPart key.start log.parts r → EndsWithPart key.start after.parts r
  ends-with r b = boundary-mid_replaced part_size key.start (r.base + r.size) last.before last.behind old_part part refl
      (subst (λ l. IsTilingBoundary part_size key.start l (r.base + r.size)) last.split b)

  contiguous : HasContiguousReservations key.start key.ring words.tail words.exposed words.durable after
  contiguous = record {
    to_durable = s.contiguous.to_durable;
    to_exposed = s.contiguous.to_exposed;
    to_tail = tiles-same_base_size _ _ _ held.before held.behind range now refl refl tiles;
    parts = laid-same_start_size _ _ last.before last.behind old_part part refl refl laid;
    remaining = tiles-all_replaced (CountsRemaining log.parts) (CountsRemaining after.parts) _ _ _ held.before held.behind range now tiles counts
        none-left
        (λ q was least lo hi apart. let out = inside-starting_elsewhere q.base q.size entry
        (⊎_elim (λ low. inr (omega (arith, low, base-is))) (λ high. inl (omega (arith, high, base-is, size-is, positive))) apart) in
        omega (arith, counted-in q.base q.size, out, was));
    aligned = subst (AllByRecursion (EndsWithPart key.start after.parts)) are
        (let old = subst (AllByRecursion (EndsWithPart key.start after.parts)) were
        (all-weaken (EndsWithPart key.start log.parts) (EndsWithPart key.start after.parts) (ranges_of log) ends-with s.contiguous.aligned) in
        all-mid_replaced (EndsWithPart key.start after.parts) front held.behind range now
        (all-middle (EndsWithPart key.start after.parts) front held.behind range old) old);
  }

  sends : (z : View) → SendsIfFlusher key.start words.exposed words.durable log z → SendsIfFlusher key.start words.exposed words.durable after z
  sends z old f = let o = old f in record {
    sent_to = o.sent_to;
    read_to = o.read_to;
    loaded_seen = o.loaded_seen;
    boundary = still z.sending.exposed o.boundary;
    sent_agrees = same-part (AgreesFrom key.start z.sending.sent) (λ h. h) o.sent_agrees;
    read_agrees = same-part (AgreesFrom words.durable z.sending.read) (λ h. h) o.read_agrees;
  }

  -- the seat owes nothing more, and the others what they did
  owes-none : owed me after.ahead ≡ []
  owes-none = picked-append (owes me) claim_of held.before (now ∷ held.behind) ∙ (λ i. held.told_before i ++ held.none_behind i)

  owe-same : (j : ℕ) → j ≢ me → owed j after.ahead ≡ owed j log.ahead
  owe-same j differ = picked-mid_replaced (owes j) claim_of held.before held.behind range now (sym off) (λ e. absurd (true≢false (sym e ∙ off)))
      ∙ ap (owed j) (sym held.split)
    where
      off : owes j range ≡ false
      off = ap (is_owed_by j) duty-is ∙ ne_eqb me j (λ e. differ (sym e))

  stored : (k : ℕ → ℕ) → k ≡ mark' → k ≡ put words.mark (range.base % key.ring) (range.base + range.size)
  stored k is = is ∙ (λ i. put words.mark (sym base-is i % key.ring) (sym base-is i + sym size-is i))

  release-marks : HasReleaseMarks key.ring words.tail words.exposed mark' after
  release-marks = subst (λ m. HasReleaseMarks key.ring words.tail words.exposed m after) (sym (stored mark' refl)) record {
    current = current_mark-store (key.ring / 4) key.ring words.mark held.before held.behind range now words.exposed words.tail tiles
        (omega (arith, s.ordered.within_ring, tiles-le _ _ _ log.exposed s.contiguous.to_exposed)) unreleased
        (record { base = refl; ends = refl; released = refl; remaining = refl })
        (subst (λ l. (place : ℕ) → words.exposed ≤ place → place < words.exposed + key.ring → Rattle.log_rule.specs.Marks.IsCurrentMark key.ring words.mark l place)
        held.split s.marks.current);
    true_marks = subst (AllByRecursion (HasTrueMark key.ring (put words.mark (range.base % key.ring) (range.base + range.size)))) are
        (true_mark-store (key.ring / 4) key.ring words.mark front held.behind range now key.start words.tail all-tiles refl refl
        (omega (arith, s.ordered.within_ring, above_durable, base-is))
        (subst (AllByRecursion (HasTrueMark key.ring words.mark)) were s.marks.true_marks));
    below_tail = λ index. dite (ℕ_discrete index (range.base % key.ring))
        (λ same. subst (λ n. n ≤ words.tail) (sym (ap (put words.mark (range.base % key.ring) (range.base + range.size)) same
        ∙ put-at words.mark (range.base % key.ring) (range.base + range.size))) (omega (arith, below_tail, base-is, size-is)))
        (λ differ. subst (λ n. n ≤ words.tail) (sym (put-other words.mark (range.base % key.ring) (range.base + range.size) index differ))
        (s.marks.below_tail index));
  }

  kept : KeepsView log.groups views me new
  kept = keeps-view key words views me v log s at new refl (one_step_more-keeps_seen log.groups v.seen (counted v.seen) refl refl refl refl refl refl refl) tt tt

  sound : IsSound key (record words { mark = mark' }) (set views me new) after
  sound = record {
    ordered = s.ordered;
    seen = each_view-set_weaken (λ _ z. HasSeenBoundaries key.start words.tail words.exposed words.durable (ranges_of log) z.seen)
        (λ _ z. HasSeenBoundaries key.start words.tail words.exposed words.durable (ranges_of after) z.seen) views me new s.seen
        (let old = sees v (s.seen me v at) in record {
          tail_seen = old.tail_seen;
          exposed_seen = old.exposed_seen;
          durable_seen = old.durable_seen;
          boundaries = old.boundaries;
        })
        (λ _ z _ _. sees z);
    contiguous = contiguous;
    filled = record {
      spelled = same-part SpellsRecord (λ h. record { spellable = h.spellable; size = h.size; rest = h.rest; units = h.units }) s.filled.spelled;
      stands = same-part (StandsInRing key.ring words.durable words.ring) (λ h. h) s.filled.stands;
    };
    below = record {
      full = same-part IsFullIfReleased (λ _ _. is_full) s.below.full;
      below = same-part (IsReleasedBelow words.exposed) (λ _ _. refl) s.below.below;
      ranges = s.below.ranges;
    };
    at_work = all-mid_replaced (IsAtWork log.groups) held.before held.behind range now (inl refl)
        (subst (AllByRecursion (IsAtWork log.groups)) held.split s.at_work);
    slots = sound_slot-same_shared (key.ring / 4) words.slot words.base log.ahead after.ahead log.groups (λ slot. shared-mid_replaced_unshared slot held.before held.behind range now
        (ap (is_shared_at slot) duty-is) refl ∙ ap (shared slot) (sym held.split)) s.slots;
    marks = release-marks;
    carried = λ _. carrier-set_carrying words.exposed views me v new at tt;
    ends = each_view-set_weaken (λ _ z. HasTrueEnds key.start words.exposed log z.call) (λ _ z. HasTrueEnds key.start words.exposed after z.call) views me new
        s.ends tt (λ _ z _ _. true_ends-log_changes key.start words.exposed log after z.call still
        (λ to first. first_ends-mid_replaced held.before held.behind range now to unreleased (subst (λ l. Rattle.log_rule.specs.Marks.FirstEnds l to) held.split first)));
    owners = each_seat-set_weaken (HasWorkingOwner log.groups log.parts log.ahead) (HasWorkingOwner after.groups after.parts after.ahead) views me v new at s.owners
        record {
          owns = own-last_replaced me last.before last.behind (parts_of me true v.entries) true entry last.own_before last.none_behind
              ∙ (sym (parts_of-push me true v.entries entry) ∙ sym (append-nil _));
          owes = owes-none;
          joins = λ slot. mine.joins slot ∙ ap (pieces_at slot) filling;
          leads = λ slot. mine.leads slot ∙ ap (phase_at me slot) filling;
          knows = tt;
        }
        (λ j z differ h. record {
          owns = own-mid_replaced_others me j last.before last.behind false true entry entry differ
              ∙ (ap (own j) (sym last.split) ∙ h.owns);
          owes = owe-same j differ ∙ h.owes;
          joins = h.joins;
          leads = h.leads;
          knows = h.knows;
        });
    constants = each_view-set (λ _ z. HasConstants key z) views me new s.constants (s.constants me v at);
    resting = each_view-set (λ _ z. RestsUnlessActive z) views me new s.resting (λ off. absurd (busy (s.resting me v at off)));
    entries = each_view-set (λ _ z. OwnsIfWorker z) views me new s.entries (λ off. absurd (busy (s.resting me v at (only-owners v.standing.role off))));
    roles = crew-set_same words.crew views me v new s.roles at refl;
    sends = each_view-set_weaken (λ _ z. SendsIfFlusher key.start words.exposed words.durable log z)
        (λ _ z. SendsIfFlusher key.start words.exposed words.durable after z) views me new s.sends (sends v (s.sends me v at)) (λ _ z _ _. sends z);
    stops = each_view-set (λ _ z. StoresStop words.stop z) views me new s.stops (s.stops me v at);
    read_stop = each_view-set (λ _ z. HasReadStop words.stop z) views me new s.read_stop (s.read_stop me v at);
    quiet = rests_if_quiet-set views me v new s.quiet at (λ _ _ _ h. h) (λ _ h. h);
    looked = each_view-set (λ _ z. LookedIfQuiet words.exposed z) views me new s.looked (s.looked me v at);
    unheld = each_view-set (λ _ z. HoldsIfActive z) views me new s.unheld (s.unheld me v at);
    accounts = same_books-keeps_accounts key words.account after.parts log.groups views me v new at
        (sym (ap (λ call. books_in log.groups call v.books) filling))
        (subst (λ records. KeepsAccounts (base_of key) words.account (history_from key.start [] records) (map (books_of log.groups) views))
        (ap records_in last.split ∙ sym (records-mid_replaced last.before last.behind old_part part refl)) s.accounts);
    in_group = λ slot. seen_in_group-more key.start key.ring words.tail words.tail words.durable words.durable (ranges_of log) (ranges_of after)
        (le_refl _) (le_refl _) still (log.groups slot) (s.in_group slot);
    loads = each_view-set (λ _ z. LoadsForGroup log.groups z.seen z.call) views me new s.loads kept.loads;
    awaits = each_view-set (λ _ z. AwaitsPlace z.call z.books) views me new s.awaits kept.awaits;
    totals = each_view-set (λ _ z. (slot : ℕ) → HasTotalOfWorkers (log.groups slot) z) views me new s.totals kept.totals;
    heard = kept.heard;
    lasts = each_view-set (λ _ z. HasSeenLast z) views me new s.lasts kept.last;
  }
    where
      busy : v.call ≡ Idle → ⊥
      busy idle = let gone : Filling entry ≡ Idle = sym filling ∙ idle in cc

      sees : (z : View) → HasSeenBoundaries key.start words.tail words.exposed words.durable (ranges_of log) z.seen
          → HasSeenBoundaries key.start words.tail words.exposed words.durable (ranges_of after) z.seen
      sees z old = record {
        tail_seen = old.tail_seen;
        exposed_seen = old.exposed_seen;
        durable_seen = old.durable_seen;
        boundaries = all-weaken (IsRangeBoundary key.start (ranges_of log)) (IsRangeBoundary key.start (ranges_of after)) z.seen.lsns still old.boundaries;
      }

  abbrev old_state : SlotState
  old_state = slots_of key words views log

  works : task_of me (hands_of 0 views) ≡ InRing None (Works entry.start)
  works = filling-task_is_works key words views me v entry log s at filling

  as-filled : filled_in range.base range.size log.parts ≡ entry.size
  as-filled = (λ i. filled_in (base-is i) (size-is i) (last.split i)) ∙ (filled_in-range_of_part _ _ last.before last.behind old_part laid ∙ is_full)

  -- no unit more is filled
  same-filled : (base size : ℕ) → filled_in base size after.parts ≡ filled_in base size log.parts
  same-filled base size =
      let m = filled_in-mid_replaced base size last.before last.behind old_part part in
      let g : filled_in base size (last.before ++ old_part ∷ last.behind) ≡ filled_in base size log.parts =
      ap (filled_in base size) (sym last.split) in omega (arith, m, g)

  reservations : map (reservation_of after.parts) (ranges_of after) ≡ map (released_at entry.start) (map (reservation_of log.parts) (ranges_of log))
  reservations = ap (map (reservation_of after.parts)) (sym are)
      ∙ (reservation_of-range_changed log.parts after.parts (released_at range.base) range now (released_at-others range.base) (λ q _. same-filled q.base q.size)
      (λ i. record {
        base = range.base;
        size = range.size;
        filled = same-filled range.base range.size i;
        released = sym (ap (λ b. cond b true (is_released range.duty)) (eq-eqb range.base range.base refl)) i;
      }) _ _ _ front held.behind all-tiles
      ∙ (λ i. map (released_at (base-is i)) (map (reservation_of log.parts) (sym were i))))

  pub mark-leads : Leads key words (record words { mark = mark' }) views (set views me new) log (marks me)
  mark-leads = record {
    after = after;
    sound = sound;
    shows = (
      subst (λ task. IsSomeAnd (worked_on (ring_stage task) old_state.log.reservations) IsFilled) (sym works)
          (subst (λ o. IsSomeAnd o IsFilled) (sym (find-held_reservation key words views me v entry log s at filling)) (as-filled ∙ sym size-is)),
      (λ i. record old_state {
        log = record old_state.log { reservations = reservations i };
        hands = hands_of-set 0 me me views v new (omega arith) at i;
      })
          ∙ ap (λ task. after_mark old_state me task (base_in (ring_stage task))) (sym works),
    );
  }

pub run_mark-step : (key : Start) (me : ℕ) (v : View) (base end ring : ℕ) → key.ring ≡ ring → MayMarkRun base end v → (n : ℕ)
    → IsStep key me (Mark (base % ring)) n end v (marked v) (marks me)
run_mark-step key me v base end ring same may n = record {
  leads = λ words views log s here is.
      let index : may.entry.start % key.ring ≡ base % ring = (λ i. sym may.begins i % same i) in
      subst (λ (x : ℕ × ℕ × List Entry × After). Leads key words (record words { mark = put words.mark x.0 x.1 }) views
      (set views me (record v { seen = counted v.seen; entries = v.entries ++ x.2; call = Marked x.3 })) log (marks me))
      (λ i. (index i, sym may.ends i, ap run_in (sym may.filling) i, ap follow_up (sym may.filling) i))
      (mark-leads key words views me v may.entry log s here may.filling may.full);
}
