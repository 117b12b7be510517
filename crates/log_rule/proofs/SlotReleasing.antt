-- A member of a placed group releases its piece: the machine's Release. Its part is released, as much less remains of the group's
-- range, and the last to release has that range to mark.
use Rattle.std.proofs.Common.{◌≡◌, ◌≢◌, ◌⊎◌, inl, inr, ⊎_elim, ℕ, ◌+◌, ◌-◌, ◌/◌, ◌%◌, ◌<◌, ◌≤◌, cond, true, false, true≢false, List, [], ◌∷◌, ◌++◌}
use Rattle.std.proofs.Common.{length, map, set, sym, refl, ap, ◌∙◌, subst, le_refl, arith, append-nil, eq-eqb, ne_eqb, eqb-true}
use Rattle.std.specs.List.{AllByRecursion}
use Rattle.std.specs.Option.{IsSomeAnd}
use mathlib.Core.Logic.{dite}
use mathlib.Core.Option.{some}
use native.Mathlib.Decide.{ℕ_discrete}
use lib.ListN.{get_elem?}
use Rattle.lsn_space.specs.Tiling.{IsTilingBoundary}
use Rattle.lsn_space.proofs.TilingLemmas.{all-weaken}
use Rattle.slot_parts.specs.Tasks.{HasDone}
use Rattle.slot_core.specs.State.{SlotState, Membership, Group as MachineGroup, joined, membership, task_of, with_task, group_at}
use Rattle.slot_core.specs.Machine.{after_release}
use Rattle.slot_parts.specs.declared.task.MemberStage.TheVariants as stage
use Rattle.log_rule.specs.declared.group_view.MemberStep.TheVariants.{Fills}
use Rattle.log_rule.specs.declared.start.Start.{Start}
use Rattle.log_rule.specs.declared.view.Call.{Call}
use Rattle.log_rule.specs.declared.view.Call.TheVariants.{Idle, Joined, Emptying}
use Rattle.log_rule.specs.declared.view.Entry.{Entry}
use Rattle.log_rule.specs.declared.view.Role.TheVariants.{Flusher, Active}
use Rattle.log_rule.specs.declared.view.View.{View}
use Rattle.log_rule.specs.Accounts.{KeepsAccounts}
use Rattle.log_rule.specs.Events.{reservation_of, task_in, group_shown, hands_of, slots_of, Leads, releases}
use Rattle.log_rule.specs.Groups.{Granted, GroupPhase, Told, Emptied, Piece, Group, put_group}
use Rattle.log_rule.specs.GroupViews.{placed_piece}
use Rattle.log_rule.specs.Log.{Part, Duty, Shared, Owed, Released, LogRange, Claim, Log, ranges_of, own, owed, owes, is_owed_by, claim_of, part_of}
use Rattle.log_rule.specs.Log.{parts_of, unreleased_in, inside, filled_in, is_released, SpellsRecord, records_in, StandsInRing, IsFullIfReleased}
use Rattle.log_rule.specs.Log.{IsReleasedBelow, IsReleased, IsAtWork, CountsRemaining, Tiles, Laid, AgreesFrom, EndsWithPart, IsRangeBoundary}
use Rattle.log_rule.specs.Marks.{IsFirstReleased, FirstEnds, Carries, HasReleaseMarks, HasTrueMark, HasTrueEnds}
use Rattle.log_rule.specs.Members.{HasSeenInGroup, LoadsForGroup, AwaitsPlace, HasTotalOfWorkers, HasSeenLast}
use Rattle.log_rule.specs.Roles.{is_active, may_own}
use Rattle.log_rule.specs.Slots.{own_pieces, pieces_at, led_phase, phase_at, is_shared_at, shares, shared, range_of, IsAtPhase, IsSoundSlot, told_word}
use Rattle.log_rule.specs.SlotViews.{seen_slot}
use Rattle.log_rule.specs.Sound.{HasSeenBoundaries, HasContiguousReservations, SendsIfFlusher, StoresStop, HasReadStop, LookedIfQuiet}
use Rattle.log_rule.specs.Sound.{HasWorkingOwner, HasConstants, RestsUnlessActive, OwnsIfWorker, HoldsIfActive, IsSound, base_of, books_of}
use Rattle.log_rule.specs.Views.{entries_in, books_in, claims_in}
use Rattle.log_rule.specs.Words.{Words, put}
use Rattle.log_rule.proofs.Boundaries.{range_size, part_size, boundary-mid_replaced}
use Rattle.log_rule.proofs.Carriers.{carrier-set, first_ends-mid_replaced, true_ends-log_changes}
use Rattle.log_rule.proofs.Filling.{put-at, put-other}
use Rattle.log_rule.proofs.GroupLeaving.{ToldMember, Left, left-keeps_members, picked-none_around, picked-none_front, picked-none_behind, task_in-left, group_shown-left}
use Rattle.log_rule.proofs.Groups.{Others, HasAsBefore, as-before, put_group-at, put_group-at_equal, put_group-other, put_group-all}
use Rattle.log_rule.proofs.Groups.{range_of-some_members, at_work-put_group, map-set_agreeing, groups_from-put_group, group_at-groups_from}
use Rattle.log_rule.proofs.AccountsKept.{records-mid_replaced}
use Rattle.log_rule.proofs.Lists.{all-mid_replaced, all-middle, Last, picked-last, picked-mid_replaced}
use Rattle.log_rule.proofs.Members.{KeepsMembers, seen_in_group-more, heard_of_workers-set_same, loads_for_group-put_group}
use Rattle.log_rule.proofs.OwnedParts.{LastPart, own-last_part, own-last_replaced, own-mid_replaced_others, parts_of-push}
use Rattle.log_rule.proofs.RangeLists.{append-assoc_four, tiles-le, tiles-split, tiles-same_base_size, tiles-all_replaced, laid-same_start_size}
use Rattle.log_rule.proofs.RangeLists.{unreleased_in-mid_replaced, inside-starting_within, inside-starting_elsewhere, filled_in-mid_replaced}
use Rattle.log_rule.proofs.Roles.{crew-set_same, rests_if_quiet-set}
use Rattle.log_rule.proofs.MachineShown.{hands_of-set, task_of-hands_of, reservation_of-same_filled}
use Rattle.log_rule.proofs.SlotLeading.{joined-active}
use Rattle.log_rule.proofs.SlotChanges.{cond-other_slot}
use Rattle.log_rule.proofs.TrueMarks.{ready_in-mid_replaced}
use Rattle.log_rule.proofs.ViewChanges.{each_view-set_weaken, each_view-set, each_seat-set_weaken, each_seat-at}

-- ---- lists and duties

-- who shares a range has to release it
duty-shared : (slot : ℕ) (duty : Duty) → is_shared_at slot duty ≡ true → duty ≡ Shared slot
duty-shared slot (Shared other) shares = ap Shared (eqb-true other slot shares)
duty-shared slot (Owed seat) shares = absurd (true≢false (sym shares))
duty-shared slot Released shares = absurd (true≢false (sym shares))

-- one is exchanged for another of which the same is told
map-mid : {A : Type 0} {B : Type 0} → (tell : A → B) (ls rs : List A) (x x' : A) → tell x' ≡ tell x → map tell (ls ++ x' ∷ rs) ≡ map tell (ls ++ x ∷ rs)
map-mid tell [] rs x x' same = ap (λ y. y ∷ map tell rs) same
map-mid tell (l ∷ ls) rs x x' same = ap (λ list. tell l ∷ list) (map-mid tell ls rs x x' same)

-- a range that is not released stands for another
first-mid : (ls rs : List LogRange) (r r' : LogRange) → (IsReleased r' → ⊥) → IsFirstReleased (ls ++ r' ∷ rs) → IsFirstReleased (ls ++ r ∷ rs)
first-mid [] rs r r' unreleased first = absurd (unreleased first)
first-mid (l ∷ ls) rs r r' unreleased first = first

-- what the seat's release leaves of its group's range
pub record LeftRange (me slot base total left : ℕ) (phase : GroupPhase) (duty : Duty) (call : Call) : Type 0 where
  pub shared_now : cond {A = List Claim} (is_shared_at slot duty) (record { base = base; size = total; remaining = left } ∷ []) [] ≡ range_of phase
  pub owed_now : cond {A = List Claim} (is_owed_by me duty) (record { base = base; size = total; remaining = left } ∷ []) [] ≡ claims_in call
  pub unshared : (q : ℕ) → q ≢ slot → is_shared_at q duty ≡ false
  pub unowed : (j : ℕ) → j ≢ me → is_owed_by j duty ≡ false
  pub unreleased : is_released duty ≡ false
  pub at_work : (duty ≡ Shared slot) ⊎ (duty ≡ Owed me)

-- the others at the slot have it
pub left_range-shared : (me slot base total left : ℕ) → LeftRange me slot base total left (Told total (Granted base) left) (Shared slot) Idle
left_range-shared me slot base total left = record {
  shared_now = ap (λ b. cond {A = List Claim} b (record { base = base; size = total; remaining = left } ∷ []) []) (eq-eqb slot slot refl);
  owed_now = refl;
  unshared = λ q differ. ne_eqb slot q (λ e. differ (sym e));
  unowed = λ j differ. refl;
  unreleased = refl;
  at_work = inl refl;
}

-- the seat has it alone
pub left_range-owed : (me slot base total left : ℕ) → left ≡ 0 → LeftRange me slot base total left (Emptied me) (Owed me) (Emptying slot base total)
left_range-owed me slot base total left none = record {
  shared_now = refl;
  owed_now = (λ i. cond {A = List Claim} (eq-eqb me me refl i) (record { base = base; size = total; remaining = none i } ∷ []) []);
  unshared = λ q differ. refl;
  unowed = λ j differ. ne_eqb me j (λ e. differ (sym e));
  unreleased = refl;
  at_work = inr refl;
}

not-released : (duty : Duty) → is_released duty ≡ false → duty ≡ Released → ⊥
not-released duty off is = true≢false (sym (ap is_released is) ∙ off)

module _ (key : Start) (words : Words) (views : List View) (me : ℕ) (v : View) (slot : ℕ) (piece : Piece) (base : ℕ) (units : List ℕ) (log : Log)
    (s : IsSound key words views log) (at : get_elem? views me ≡ some v) (fills : v.call ≡ Joined slot piece (Fills base units))
    (is_full : length units ≡ piece.size)
    (m : ToldMember (key.ring / 4) (words.slot slot) (words.base slot) me piece (Granted base) (log.groups slot)) where
  mine : HasWorkingOwner log.groups log.parts log.ahead me v
  mine = each_seat-at (HasWorkingOwner log.groups log.parts log.ahead) views me v at s.owners

  abbrev total : ℕ
  total = m.total

  abbrev left : ℕ
  left = m.remaining - piece.size

  abbrev entry : Entry
  entry = placed_piece base units piece

  last : LastPart me log.parts (parts_of me true v.entries) entry
  last = own-last_part me log.parts (parts_of me true v.entries) entry
      (mine.owns ∙ ap (λ c. parts_of me true v.entries ++ parts_of me false (entries_in log.groups c)) fills)

  abbrev claimed : Claim
  claimed = record { base = base; size = total; remaining = m.remaining }

  held : Last (shares slot) claim_of log.ahead [] claimed
  held = picked-last (shares slot) claim_of log.ahead [] claimed ((s.slots slot).range ∙ ap range_of m.told)

  abbrev range : LogRange
  range = held.here

  abbrev front : List LogRange
  front = log.flushed ++ (log.exposed ++ held.before)

  base-is : range.base ≡ base
  base-is = ap (λ (c : Claim). c.base) held.is

  size-is : range.size ≡ total
  size-is = ap (λ (c : Claim). c.size) held.is

  remaining-is : range.remaining ≡ m.remaining
  remaining-is = ap (λ (c : Claim). c.remaining) held.is

  duty-is : range.duty ≡ Shared slot
  duty-is = duty-shared slot range.duty held.passes

  unreleased : IsReleased range → ⊥
  unreleased released = let both : Shared slot ≡ Released = sym duty-is ∙ released in cc

  tiles : Tiles (key.ring / 4) words.exposed (held.before ++ range ∷ held.behind) words.tail
  tiles = subst (λ l. Tiles (key.ring / 4) words.exposed l words.tail) held.split s.contiguous.to_tail

  were : ranges_of log ≡ front ++ range ∷ held.behind
  were = ap (λ l. log.flushed ++ (log.exposed ++ l)) held.split ∙ append-assoc_four log.flushed log.exposed held.before (range ∷ held.behind)

  -- the group's range lies in the log
  pub group_range-within_tail : base + total ≤ words.tail
  group_range-within_tail = let h = tiles-split _ _ _ held.before held.behind range tiles in omega (arith, tiles-le _ _ _ held.behind h.3, base-is, size-is)

  inner : piece.offset + piece.size ≤ total
  inner = m.within

  some_units : 1 ≤ piece.size
  some_units = m.positive

  pub releasing-active : v.standing.role ≡ Active
  releasing-active = joined-active key words views me v slot piece (Fills base units) log s at fills

  abbrev old_part : Part
  old_part = part_of me false entry

  abbrev part : Part
  part = part_of me true entry

  abbrev parts' : List Part
  parts' = last.before ++ part ∷ last.behind

  laid : Laid key.start (last.before ++ old_part ∷ last.behind) words.tail
  laid = subst (λ l. Laid key.start l words.tail) last.split s.contiguous.parts

  all-old : (P : Part → Type 0) → AllByRecursion P log.parts → AllByRecursion P (last.before ++ old_part ∷ last.behind)
  all-old P = subst (AllByRecursion P) last.split

  same-part : (P : Part → Type 0) → (P old_part → P part) → AllByRecursion P log.parts → AllByRecursion P parts'
  same-part P f all = all-mid_replaced P last.before last.behind old_part part (f (all-middle P last.before last.behind old_part (all-old P all))) (all-old P all)

  -- what is not released
  counted-in : (from size : ℕ) → unreleased_in from size parts' + inside from size entry ≡ unreleased_in from size log.parts
  counted-in from size =
      let m = unreleased_in-mid_replaced from size last.before last.behind old_part part in
      let g : unreleased_in from size (last.before ++ old_part ∷ last.behind) ≡ unreleased_in from size log.parts =
      ap (unreleased_in from size) (sym last.split) in omega (arith, m, g)

  counts : AllByRecursion (CountsRemaining log.parts) (held.before ++ range ∷ held.behind)
  counts = subst (AllByRecursion (CountsRemaining log.parts)) held.split s.contiguous.remaining

  less-remains : unreleased_in range.base range.size parts' ≡ left
  less-remains =
      let was = all-middle (CountsRemaining log.parts) held.before held.behind range counts in
      let here = inside-starting_within range.base range.size entry (omega (arith, base-is)) (omega (arith, base-is, size-is, inner, some_units)) in
      omega (arith, was, remaining-is, here, counted-in range.base range.size)

  ends-with : (r : LogRange) → EndsWithPart key.start log.parts r → EndsWithPart key.start parts' r
  ends-with r b = boundary-mid_replaced part_size key.start (r.base + r.size) last.before last.behind old_part part refl
      (subst (λ l. IsTilingBoundary part_size key.start l (r.base + r.size)) last.split b)

  -- no unit more is filled
  same-filled : (from size : ℕ) → filled_in from size parts' ≡ filled_in from size log.parts
  same-filled from size =
      let m = filled_in-mid_replaced from size last.before last.behind old_part part in
      let g : filled_in from size (last.before ++ old_part ∷ last.behind) ≡ filled_in from size log.parts =
      ap (filled_in from size) (sym last.split) in omega (arith, m, g)

  none-owed : owed me (held.before ++ range ∷ held.behind) ≡ []
  none-owed = ap (owed me) (sym held.split) ∙ (mine.owes ∙ ap claims_in fills)

  owed-before : owed me held.before ≡ []
  owed-before = picked-none_front (owes me) claim_of held.before (range ∷ held.behind) none-owed

  owed-behind : owed me held.behind ≡ []
  owed-behind = ap (λ b. cond b (claim_of range ∷ owed me held.behind) (owed me held.behind)) (sym (ap (is_owed_by me) duty-is))
      ∙ picked-none_behind (owes me) claim_of held.before (range ∷ held.behind) none-owed

  module _ (phase : GroupPhase) (duty : Duty) (call : Call) (word : ℕ) (word-is : word ≡ told_word (Granted base) total left)
      (l : Left (key.ring / 4) (words.slot slot) (words.base slot) me piece (Granted base) (log.groups slot) m slot phase call)
      (lr : LeftRange me slot base total left phase duty call) where
    abbrev now : LogRange
    now = record { base = range.base; size = range.size; remaining = left; duty = duty }

    abbrev g : Group
    g = record { members = m.before ++ m.behind; phase = phase }

    abbrev after : Log
    after = record {
      parts = parts';
      flushed = log.flushed;
      exposed = log.exposed;
      ahead = held.before ++ now ∷ held.behind;
      groups = put_group log.groups slot g;
    }

    abbrev states : ℕ → ℕ
    states = put words.slot slot word

    abbrev new : View
    new = record v { seen = seen_slot slot (words.slot slot) v.seen; entries = v.entries ++ entry ∷ []; call = call }

    still-unreleased : IsReleased now → ⊥
    still-unreleased released = not-released duty lr.unreleased released

    are : front ++ now ∷ held.behind ≡ ranges_of after
    are = sym (append-assoc_four log.flushed log.exposed held.before (now ∷ held.behind))

    -- no boundary changes
    still : (x : ℕ) → IsRangeBoundary key.start (ranges_of log) x → IsRangeBoundary key.start (ranges_of after) x
    still x b = subst (λ l. IsRangeBoundary key.start l x) are
        (boundary-mid_replaced range_size key.start x front held.behind range now refl (subst (λ l. IsRangeBoundary key.start l x) were b))

    same-ranges : (P : LogRange → Type 0) → P now → AllByRecursion P (ranges_of log) → AllByRecursion P (ranges_of after)
    same-ranges P here all = subst (AllByRecursion P) are (all-mid_replaced P front held.behind range now here (subst (AllByRecursion P) were all))

    contiguous : HasContiguousReservations key.start key.ring words.tail words.exposed words.durable after
    contiguous = record {
      to_durable = s.contiguous.to_durable;
      to_exposed = s.contiguous.to_exposed;
      to_tail = tiles-same_base_size _ _ _ held.before held.behind range now refl refl tiles;
      parts = laid-same_start_size _ _ last.before last.behind old_part part refl refl laid;
      remaining = tiles-all_replaced (CountsRemaining log.parts) (CountsRemaining parts') _ _ _ held.before held.behind range now tiles counts
          less-remains
          (λ q was least lo hi apart. let out = inside-starting_elsewhere q.base q.size entry
          (⊎_elim (λ low. inr (omega (arith, low, base-is))) (λ high. inl (omega (arith, high, base-is, size-is, inner, some_units))) apart) in
          omega (arith, counted-in q.base q.size, out, was));
      aligned = let old = all-weaken (EndsWithPart key.start log.parts) (EndsWithPart key.start parts') (ranges_of log) ends-with s.contiguous.aligned in
          same-ranges (EndsWithPart key.start parts')
          (all-middle (EndsWithPart key.start parts') front held.behind range (subst (AllByRecursion (EndsWithPart key.start parts')) were old)) old;
    }

    sends : (z : View) → SendsIfFlusher key.start words.exposed words.durable log z → SendsIfFlusher key.start words.exposed words.durable after z
    sends z old f = let o = old f in record {
      sent_to = o.sent_to;
      read_to = o.read_to;
      loaded_seen = o.loaded_seen;
      boundary = still z.sending.exposed o.boundary;
      sent_agrees = same-part (AgreesFrom key.start z.sending.sent) (λ h. h) o.sent_agrees;
      read_agrees = same-part (AgreesFrom words.durable z.sending.read) (λ h. h) o.read_agrees;
    }

    -- the range is shared, or owed by this seat, as before it was shared
    shared-here : shared slot after.ahead ≡ range_of phase
    shared-here = picked-none_around (shares slot) claim_of held.before held.behind now held.told_before held.none_behind
        ∙ ((λ i. cond {A = List Claim} (is_shared_at slot duty) (record { base = base-is i; size = size-is i; remaining = left } ∷ []) []) ∙ lr.shared_now)

    shared-elsewhere : (q : ℕ) → q ≢ slot → shared q after.ahead ≡ shared q log.ahead
    shared-elsewhere q differ = picked-mid_replaced (shares q) claim_of held.before held.behind range now (lr.unshared q differ ∙ sym off)
        (λ e. absurd (true≢false (sym e ∙ off))) ∙ ap (shared q) (sym held.split)
      where
        off : shares q range ≡ false
        off = ap (is_shared_at q) duty-is ∙ ne_eqb slot q (λ e. differ (sym e))

    owed-here : owed me after.ahead ≡ claims_in call
    owed-here = picked-none_around (owes me) claim_of held.before held.behind now owed-before owed-behind
        ∙ ((λ i. cond {A = List Claim} (is_owed_by me duty) (record { base = base-is i; size = size-is i; remaining = left } ∷ []) []) ∙ lr.owed_now)

    owed-elsewhere : (j : ℕ) → j ≢ me → owed j after.ahead ≡ owed j log.ahead
    owed-elsewhere j differ = picked-mid_replaced (owes j) claim_of held.before held.behind range now (lr.unowed j differ ∙ sym off)
        (λ e. absurd (true≢false (sym e ∙ off))) ∙ ap (owed j) (sym held.split)
      where
        off : owes j range ≡ false
        off = ap (is_owed_by j) duty-is

    others : (j : ℕ) → j ≢ me → Others (log.groups slot) g j
    others j differ = record {
      joins = m.others j differ;
      leads = l.others j differ ∙ sym (ap (led_phase j) m.told);
      keep = λ p step one _. subst (λ q. Rattle.log_rule.proofs.Groups.Keeps q phase p step) (sym m.told)
          (l.keep j p step (m.others j differ ∙ one));
    }

    others-same : (j : ℕ) (z : View) → j ≢ me → HasWorkingOwner log.groups log.parts log.ahead j z → HasAsBefore log.groups after.groups z.call
    others-same j z differ h = as-before log.groups slot g j (others j differ) z.call h.joins h.leads

    my-owner : HasWorkingOwner after.groups after.parts after.ahead me new
    my-owner = record {
      owns = own-last_replaced me last.before last.behind (parts_of me true v.entries) true entry last.own_before last.none_behind
          ∙ (sym (parts_of-push me true v.entries entry) ∙ (sym (append-nil _)
          ∙ ap (λ list. parts_of me true (v.entries ++ entry ∷ []) ++ parts_of me false list) (sym (l.entries after.groups))));
      owes = owed-here;
      joins = λ q. dite (ℕ_discrete q slot)
          (λ same. ap (λ (x : Group). own_pieces me x.members) (put_group-at_equal log.groups slot q g same)
          ∙ (m.own ∙ sym (l.pieces q)))
          (λ differ. ap (λ (x : Group). own_pieces me x.members) (put_group-other log.groups slot q g differ)
          ∙ (mine.joins q ∙ (ap (pieces_at q) fills ∙ (cond-other_slot slot q (piece ∷ []) differ ∙ sym (l.pieces q)))));
      leads = λ q. dite (ℕ_discrete q slot)
          (λ same. ap (λ (x : Group). led_phase me x.phase) (put_group-at_equal log.groups slot q g same)
          ∙ (l.leads ∙ ap (λ n. phase_at me n call) (sym same)))
          (λ differ. ap (λ (x : Group). led_phase me x.phase) (put_group-other log.groups slot q g differ)
          ∙ (mine.leads q ∙ (ap (phase_at me q) fills ∙ (cond-other_slot slot q [] differ ∙ sym (l.else q differ)))));
      knows = l.knows after.groups;
    }

    other-owner : (j : ℕ) (z : View) → j ≢ me → HasWorkingOwner log.groups log.parts log.ahead j z
        → HasWorkingOwner after.groups after.parts after.ahead j z
    other-owner j z differ h = let before = others-same j z differ h in let o = others j differ in record {
      owns = own-mid_replaced_others me j last.before last.behind false true entry entry differ
          ∙ (ap (own j) (sym last.split) ∙ (h.owns ∙ ap (λ entries. parts_of j true z.entries ++ parts_of j false entries) (sym before.entries)));
      owes = owed-elsewhere j differ ∙ h.owes;
      joins = λ q. dite (ℕ_discrete q slot)
          (λ same. ap (λ (x : Group). own_pieces j x.members) (put_group-at_equal log.groups slot q g same)
          ∙ (o.joins ∙ (h.joins slot ∙ ap (λ n. pieces_at n z.call) (sym same))))
          (λ apart. ap (λ (x : Group). own_pieces j x.members) (put_group-other log.groups slot q g apart) ∙ h.joins q);
      leads = λ q. dite (ℕ_discrete q slot)
          (λ same. ap (λ (x : Group). led_phase j x.phase) (put_group-at_equal log.groups slot q g same)
          ∙ (o.leads ∙ (h.leads slot ∙ ap (λ n. phase_at j n z.call) (sym same))))
          (λ apart. ap (λ (x : Group). led_phase j x.phase) (put_group-other log.groups slot q g apart) ∙ h.leads q);
      knows = before.knows h.knows;
    }

    books-same : map (books_of after.groups) (set views me new) ≡ map (books_of log.groups) views
    books-same = map-set_agreeing (books_of log.groups) (books_of after.groups) views me v new at
        (l.books after.groups v.books ∙ sym (ap (λ c. books_in log.groups c v.books) fills))
        (λ j z differ there. (others-same j z differ (each_seat-at (HasWorkingOwner log.groups log.parts log.ahead) views j z there s.owners)).books z.books)

    is-now : IsAtPhase (key.ring / 4) (states slot) (words.base slot) (m.before ++ m.behind) phase
    is-now = subst (λ w. IsAtPhase (key.ring / 4) w (words.base slot) (m.before ++ m.behind) phase) (sym (put-at words.slot slot word ∙ word-is)) l.is

    slots : (q : ℕ) → IsSoundSlot (key.ring / 4) (states q) (words.base q) q after.ahead (after.groups q)
    slots q = dite (ℕ_discrete q slot)
        (λ same. subst (λ n. IsSoundSlot (key.ring / 4) (states n) (words.base n) n after.ahead (after.groups n)) (sym same)
        (subst (IsSoundSlot (key.ring / 4) (states slot) (words.base slot) slot after.ahead) (sym (put_group-at log.groups slot g))
        record { range = shared-here; words = is-now }))
        (λ differ. subst (λ (p : ℕ × Group). IsSoundSlot (key.ring / 4) p.0 (words.base q) q after.ahead p.1)
        (λ i. (sym (put-other words.slot slot word q differ) i, sym (put_group-other log.groups slot q g differ) i))
        record { range = shared-elsewhere q differ ∙ (s.slots q).range; words = (s.slots q).words })

    -- the group had this member
    now-at_work : IsAtWork log.groups now
    now-at_work = inr (⊎_elim
        (λ (shares : duty ≡ Shared slot). inr record {
          slot = slot;
          duty = shares;
          members = range_of-some_members (key.ring / 4) (words.slot slot) (words.base slot) (log.groups slot).members (log.groups slot).phase
              (s.slots slot).words (λ none. let gone : claimed ∷ [] ≡ [] = sym (ap range_of m.told) ∙ none in absurd (cc));
        })
        (λ (owes : duty ≡ Owed me). inl record { seat = me; duty = owes }) lr.at_work)

    at_work : AllByRecursion (IsAtWork after.groups) after.ahead
    at_work = at_work-put_group log.groups slot g after.ahead
        (λ some_shared. range_of-some_members (key.ring / 4) (states slot) (words.base slot) (m.before ++ m.behind) phase is-now
        (λ none. some_shared (shared-here ∙ none)))
        (all-mid_replaced (IsAtWork log.groups) held.before held.behind range now now-at_work
        (subst (AllByRecursion (IsAtWork log.groups)) held.split s.at_work))

    release-marks : HasReleaseMarks key.ring words.tail words.exposed words.mark after
    release-marks = record {
      current = λ x lo hi. ⊎_elim (λ low. inl low)
          (λ ready. inr (ready_in-mid_replaced x (words.mark (x % key.ring)) held.before held.behind range now unreleased
          (subst (Rattle.log_rule.specs.Marks.IsReadyIn x (words.mark (x % key.ring))) held.split ready))) (s.marks.current x lo hi);
      true_marks = same-ranges (HasTrueMark key.ring words.mark) (λ released. absurd (still-unreleased released)) s.marks.true_marks;
      below_tail = s.marks.below_tail;
    }

    sees : (z : View) → HasSeenBoundaries key.start words.tail words.exposed words.durable (ranges_of log) z.seen
        → HasSeenBoundaries key.start words.tail words.exposed words.durable (ranges_of after) z.seen
    sees z old = record {
      tail_seen = old.tail_seen;
      exposed_seen = old.exposed_seen;
      durable_seen = old.durable_seen;
      boundaries = all-weaken (IsRangeBoundary key.start (ranges_of log)) (IsRangeBoundary key.start (ranges_of after)) z.seen.lsns still old.boundaries;
    }

    off-duty : is_active v.standing.role ≡ false → ⊥
    off-duty off = true≢false (sym (ap is_active releasing-active) ∙ off)

    not-flusher : v.standing.role ≡ Flusher → ⊥
    not-flusher f = let both : Active ≡ Flusher = sym releasing-active ∙ f in cc

    kept : KeepsMembers key words views v log slot g (seen_slot slot (words.slot slot) v.seen) call v.books
    kept = left-keeps_members key words views me v slot piece (Granted base) log s at releasing-active m phase call l

    sound : IsSound key (record words { slot = states }) (set views me new) after
    sound = record {
      ordered = s.ordered;
      seen = each_view-set_weaken (λ _ z. HasSeenBoundaries key.start words.tail words.exposed words.durable (ranges_of log) z.seen)
          (λ _ z. HasSeenBoundaries key.start words.tail words.exposed words.durable (ranges_of after) z.seen) views me new s.seen
          (let old = sees v (s.seen me v at) in record {
            tail_seen = old.tail_seen;
            exposed_seen = old.exposed_seen;
            durable_seen = old.durable_seen;
            boundaries = old.boundaries;
          })
          (λ _ z _ _. sees z);
      contiguous = contiguous;
      filled = record {
        spelled = same-part SpellsRecord (λ h. record { spellable = h.spellable; size = h.size; rest = h.rest; units = h.units }) s.filled.spelled;
        stands = same-part (StandsInRing key.ring words.durable words.ring) (λ h. h) s.filled.stands;
      };
      below = record {
        full = same-part IsFullIfReleased (λ _ _. is_full) s.below.full;
        below = same-part (IsReleasedBelow words.exposed) (λ _ _. refl) s.below.below;
        ranges = s.below.ranges;
      };
      at_work = at_work;
      slots = slots;
      marks = release-marks;
      carried = λ first. carrier-set words.exposed views me v new at (λ carries. absurd (subst (Carries words.exposed) fills carries))
          (s.carried (subst IsFirstReleased (sym held.split) (first-mid held.before held.behind range now still-unreleased first)));
      ends = each_view-set_weaken (λ _ z. HasTrueEnds key.start words.exposed log z.call) (λ _ z. HasTrueEnds key.start words.exposed after z.call) views me new
          s.ends (l.ends key.start words.exposed after) (λ _ z _ _. true_ends-log_changes key.start words.exposed log after z.call still
          (λ to first. first_ends-mid_replaced held.before held.behind range now to unreleased (subst (λ list. FirstEnds list to) held.split first)));
      owners = each_seat-set_weaken (HasWorkingOwner log.groups log.parts log.ahead) (HasWorkingOwner after.groups after.parts after.ahead) views me v new at s.owners
          my-owner other-owner;
      constants = each_view-set (λ _ z. HasConstants key z) views me new s.constants (s.constants me v at);
      resting = each_view-set (λ _ z. RestsUnlessActive z) views me new s.resting (λ off. absurd (off-duty off));
      entries = each_view-set (λ _ z. OwnsIfWorker z) views me new s.entries (λ off. absurd (true≢false (sym (ap may_own releasing-active) ∙ off)));
      roles = crew-set_same words.crew views me v new s.roles at refl;
      sends = each_view-set_weaken (λ _ z. SendsIfFlusher key.start words.exposed words.durable log z)
          (λ _ z. SendsIfFlusher key.start words.exposed words.durable after z) views me new s.sends (sends v (s.sends me v at)) (λ _ z _ _. sends z);
      stops = each_view-set (λ _ z. StoresStop words.stop z) views me new s.stops (s.stops me v at);
      read_stop = each_view-set (λ _ z. HasReadStop words.stop z) views me new s.read_stop (s.read_stop me v at);
      quiet = rests_if_quiet-set views me v new s.quiet at (λ _ _ _ h. h) (λ _ h. h);
      looked = each_view-set (λ _ z. LookedIfQuiet words.exposed z) views me new s.looked (s.looked me v at);
      unheld = each_view-set (λ _ z. HoldsIfActive z) views me new s.unheld (s.unheld me v at);
      accounts = subst (λ (p : List Rattle.log_record.specs.declared.rec.Rec.Rec × List Rattle.log_rule.specs.declared.view.Books.Books).
          KeepsAccounts (base_of key) words.account (Rattle.lock_core.specs.History.history_from key.start [] p.0) p.1)
          (λ i. ((ap records_in last.split ∙ sym (records-mid_replaced last.before last.behind old_part part refl)) i, sym books-same i)) s.accounts;
      in_group = λ q. seen_in_group-more key.start key.ring words.tail words.tail words.durable words.durable (ranges_of log) (ranges_of after)
          (le_refl _) (le_refl _) still (after.groups q)
          (put_group-all (HasSeenInGroup key.start key.ring words.tail words.durable (ranges_of log)) log.groups slot q g (λ _. kept.in_group)
          (s.in_group q));
      loads = each_view-set_weaken (λ _ z. LoadsForGroup log.groups z.seen z.call) (λ _ z. LoadsForGroup after.groups z.seen z.call) views me new s.loads kept.loads
          (λ j z differ there. loads_for_group-put_group log.groups slot g j z.seen z.call (λ units closed is. kept.others j units is z.seen closed)
          ((each_seat-at (HasWorkingOwner log.groups log.parts log.ahead) views j z there s.owners).leads slot));
      awaits = each_view-set (λ _ z. AwaitsPlace z.call z.books) views me new s.awaits kept.awaits;
      totals = each_view-set_weaken (λ _ z. (q : ℕ) → HasTotalOfWorkers (log.groups q) z) (λ _ z. (q : ℕ) → HasTotalOfWorkers (after.groups q) z) views me new
          s.totals (λ _ f. absurd (not-flusher f))
          (λ j z differ there old q. put_group-all (λ (x : Group). HasTotalOfWorkers x z) log.groups slot q g (λ _. kept.totals j z there) (old q));
      heard = heard_of_workers-set_same views me v new s.heard at refl refl;
      lasts = each_view-set (λ _ z. HasSeenLast z) views me new s.lasts (λ _. kept.last);
    }

    abbrev old_state : SlotState
    old_state = slots_of key words views log

    task-is : task_of me old_state.hands ≡ joined slot piece.offset piece.size (stage.Fills (length units))
    task-is = task_of-hands_of 0 me me views v (omega arith) at ∙ ap task_in fills

    reservations : map (reservation_of parts') (ranges_of after) ≡ map (reservation_of log.parts) (ranges_of log)
    reservations = reservation_of-same_filled log.parts parts' (ranges_of after) same-filled
        ∙ (ap (map (reservation_of log.parts)) (sym are)
        ∙ (map-mid (reservation_of log.parts) front held.behind range now
        (λ i. record {
          base = range.base;
          size = range.size;
          filled = filled_in range.base range.size log.parts;
          released = (lr.unreleased ∙ sym (ap is_released duty-is)) i;
        })
        ∙ ap (map (reservation_of log.parts)) (sym were)))

    module _ (below : slot < key.slots) where
      abbrev shown : MachineGroup
      shown = group_at slot old_state.groups

      shown-is : shown ≡ group_shown (log.groups slot)
      shown-is = group_at-groups_from 0 key.slots slot slot log.groups (omega arith) below

      pub piece_release-leads : Leads key words (record words { slot = states }) views (set views me new) log (releases me)
      piece_release-leads = record {
        after = after;
        sound = sound;
        shows = (
          subst (λ task. IsSomeAnd (membership task) (λ (m : Membership). HasDone m.size m.stage)) (sym task-is) is_full,
          (λ i. record old_state {
            log = record old_state.log { reservations = reservations i };
            hands = (hands_of-set 0 me me views v new (omega arith) at ∙ ap (λ task. with_task me task (hands_of 0 views))
                (task_in-left (key.ring / 4) (words.slot slot) (words.base slot) me piece (Granted base) (log.groups slot) m slot phase call
                l shown shown-is)) i;
            groups = (groups_from-put_group 0 key.slots slot slot log.groups g (omega arith) ∙ ap (set old_state.groups slot)
                (group_shown-left (key.ring / 4) (words.slot slot) (words.base slot) me piece (Granted base) (log.groups slot) m slot phase call
                l shown shown-is)) i;
          })
              ∙ ap (λ task. after_release old_state me (membership task)) (sym task-is),
        );
      }
