-- The store of a unit into the ring: the machine's Fill.
use Rattle.std.proofs.Common.{◌≡◌, ◌≢◌, ◌⊎◌, inl, inr, ⊎_elim, ℕ, ◌+◌, ◌/◌, ◌%◌, ◌<◌, ◌≤◌, cond, Bool, true, false, true≢false, List, [], ◌∷◌, ◌++◌}
use Rattle.std.proofs.Common.{length, map, get_or, set, Some, None, sym, refl, ap, ◌∙◌, subst, arith, length-append, append-nil, append_assoc}
use Rattle.std.proofs.Common.{slice_index, eq-eqb, ne_eqb}
use Rattle.std.specs.List.{AllByRecursion, find}
use Rattle.std.specs.Option.{IsSomeAnd}
use Rattle.std.proofs.Math.Seq.{get_or-append_seam}
use mathlib.Core.Logic.{dite}
use mathlib.Core.Option.{some}
use native.Mathlib.Decide.{ℕ_discrete, dec_le}
use lib.ListN.{get_elem?, get_or-append}
use Rattle.atomic_table.proofs.Lists.{one_turn}
use Rattle.lsn_space.specs.Tiling.{IsTilingBoundary}
use Rattle.lsn_space.proofs.TilingLemmas.{all-weaken, all-both}
use Rattle.ring_core.specs.RingLog.{HasUnfilled, is_at, filled_at}
use Rattle.slot_core.specs.State.{InRing, Works, SlotState, task_of}
use Rattle.slot_core.specs.Machine.{MayFill as MayFillNow, after_fill}
use Rattle.log_rule.specs.declared.start.Start.{Start}
use Rattle.log_rule.specs.declared.view.Books.{Books}
use Rattle.log_rule.specs.declared.view.Call.{Call}
use Rattle.log_rule.specs.declared.view.Call.TheVariants.{Idle, Filling}
use Rattle.log_rule.specs.declared.view.Entry.{Entry}
use Rattle.log_rule.specs.declared.view.Seen.{Seen}
use Rattle.log_rule.specs.declared.view.View.{View}
use Rattle.log_rule.specs.Events.{reservation_of, task_in, hands_of, slots_of, Leads, IsStep, fills}
use Rattle.table_layout.specs.Layout.{Ring}
use Rattle.log_rule.specs.Log.{Part, LogRange, Claim, Log, Tiles, ranges_of, own, owes, claim_of, part_of, parts_of, unreleased_in, inside}
use Rattle.log_rule.specs.Log.{filled_inside, filled_in, is_released, SpellsRecord, records_in, StandsInRing, IsFullIfReleased, IsReleasedBelow}
use Rattle.log_rule.specs.Log.{CountsRemaining, AgreesFrom, EndsWithPart, Laid}
use Rattle.log_rule.specs.Marks.{Carries, HasTrueEnds}
use Rattle.log_rule.specs.May.{MayFillRun}
use Rattle.log_rule.specs.Members.{LoadsForGroup, AwaitsPlace, HasTotalOfWorkers, HasSeenLast}
use Rattle.log_rule.specs.Sound.{HasSeenBoundaries, SendsIfFlusher, StoresStop, HasReadStop, LookedIfQuiet, HasWorkingOwner, HasConstants}
use Rattle.log_rule.specs.Sound.{RestsUnlessActive, OwnsIfWorker, HoldsIfActive, IsSound, base_of, books_of}
use Rattle.log_record.specs.Spelling.{spelling}
use Rattle.lock_core.specs.History.{history_from}
use Rattle.log_rule.specs.Accounts.{KeepsAccounts}
use Rattle.log_rule.specs.Groups.{Group}
use Rattle.log_rule.specs.Slots.{pieces_at, phase_at, KnowsGroup}
use Rattle.log_rule.specs.Views.{entries_in, books_in, claims_in, with_unit, counted, filled}
use Rattle.log_rule.specs.Words.{Words, put}
use Rattle.log_rule.proofs.Boundaries.{part_size, boundary-mid_replaced}
use Rattle.log_rule.proofs.Carriers.{carrier-set, true_ends-log_changes}
use Rattle.log_rule.proofs.AccountsKept.{same_books-keeps_accounts, records-mid_replaced}
use Rattle.log_rule.proofs.Lists.{all-mid_replaced, all-middle, Last, picked-last}
use Rattle.log_rule.proofs.Loads.{all-tile}
use Rattle.log_rule.proofs.Members.{KeepsView, one_step_more-keeps_seen, keeps-view}
use Rattle.log_rule.proofs.OwnedParts.{LastPart, own-last_part, own-last_replaced, own-mid_replaced_others}
use Rattle.log_rule.proofs.RangeLists.{RangesApart, append-assoc_four, tiles-le, laid-le, laid-split, laid-same_start_size, laid-all_replaced}
use Rattle.log_rule.proofs.RangeLists.{unreleased_in-mid_replaced, filled_inside-starting_within, filled_inside-starting_elsewhere}
use Rattle.log_rule.proofs.RangeLists.{filled_in-mid_replaced, filled_in-range_of_part}
use Rattle.log_rule.proofs.Roles.{crew-set_same, rests_if_quiet-set}
use Rattle.log_rule.proofs.MachineShown.{hands_of-set_same, task_of-hands_of, find-reservation_at_base, reservation_of-range_changed, filled_at-others}
use Rattle.log_rule.proofs.ViewChanges.{each_view-set_weaken, each_view-set, each_seat-set_weaken, each_seat-at}

-- two LSNs apart by less than the ring have two words
pub modulo-differ_if_near : (x y size : ℕ) → x ≢ y → x < y + size → y < x + size → x % size ≢ y % size
modulo-differ_if_near x y size differ lo hi same =
    differ (elim (dec_le x y) [ yes le ↦ one_turn x y size le hi same | no gt ↦ sym (one_turn y x size (omega arith) lo (sym same)) ])

pub put-at : (f : ℕ → ℕ) (at x : ℕ) → put f at x at ≡ x
put-at f at x = ap (λ b. cond b x (f at)) (eq-eqb at at refl)

pub put-other : (f : ℕ → ℕ) (at x k : ℕ) → k ≢ at → put f at x k ≡ f k
put-other f at x k differ = ap (λ b. cond b x (f k)) (ne_eqb k at differ)

-- no more units are filled than were reserved
pub part_units-le_size : (part : Part) → SpellsRecord part → length part.entry.units ≤ part.entry.size
part_units-le_size part spells = let all = length-append part.entry.units spells.rest in let is = ap length spells.units in let size = spells.size in omega arith

-- the next unit of the record is filled
spells-more : (seat : ℕ) (entry : Entry) (unit : ℕ) → SpellsRecord (part_of seat false entry) → length entry.units < entry.size
    → unit ≡ slice_index (spelling entry.rec) (length entry.units) → SpellsRecord (part_of seat false (with_unit unit entry))
spells-more seat entry unit old unfilled unit-is = by_rest old.rest old.units
  where
    by_rest : (rest : List ℕ) → entry.units ++ rest ≡ spelling entry.rec → SpellsRecord (part_of seat false (with_unit unit entry))
    by_rest [] is = let all = ap length (sym (append-nil entry.units) ∙ is) in let size = old.size in absurd (omega arith)
    by_rest (next ∷ rest) is =
        let same : next ≡ unit = sym (get_or-append_seam entry.units next rest 0) ∙ (ap (λ l. get_or l (length entry.units) 0) is ∙ sym unit-is) in record {
          spellable = old.spellable;
          size = old.size;
          rest = rest;
          units = append_assoc entry.units (unit ∷ []) rest ∙ (ap (λ u. entry.units ++ u ∷ rest) (sym same) ∙ is);
        }

-- a range ahead stands in the whole list behind those before it, and those that are exposed
pub ranges-split : (log : Log) (before behind : List LogRange) (r : LogRange) → log.ahead ≡ before ++ r ∷ behind
    → ranges_of log ≡ (log.flushed ++ (log.exposed ++ before)) ++ r ∷ behind
ranges-split log before behind r is =
    ap (λ l. log.flushed ++ (log.exposed ++ l)) is ∙ append-assoc_four log.flushed log.exposed before (r ∷ behind)

-- the range that the seat has to release, and what stands around it
abbrev pub run_of : Entry → Claim
run_of entry = record { base = entry.start; size = entry.size; remaining = entry.size }

abbrev pub HeldRange : ℕ → List LogRange → Entry → Type 0
HeldRange me ahead entry = Last (owes me) claim_of ahead [] (run_of entry)

-- those before it, and those that are exposed
abbrev pub range-front : (me : ℕ) (entry : Entry) (log : Log) → HeldRange me log.ahead entry → List LogRange
range-front me entry log held = log.flushed ++ (log.exposed ++ held.before)

module _ (key : Start) (words : Words) (views : List View) (me : ℕ) (v : View) (entry : Entry) (log : Log) (s : IsSound key words views log)
    (at : get_elem? views me ≡ some v) (filling : v.call ≡ Filling entry) where
  pub held-range : HeldRange me log.ahead entry
  held-range = picked-last (owes me) claim_of log.ahead [] (run_of entry)
      ((each_seat-at (HasWorkingOwner log.groups log.parts log.ahead) views me v at s.owners).owes ∙ ap claims_in filling)

  pub ranges_of-around_held : ranges_of log ≡ range-front me entry log held-range ++ held-range.here ∷ held-range.behind
  ranges_of-around_held = ranges-split log held-range.before held-range.behind held-range.here held-range.split

  pub tiles-held : Tiles (key.ring / 4) key.start (range-front me entry log held-range ++ held-range.here ∷ held-range.behind) words.tail
  tiles-held = subst (λ l. Tiles (key.ring / 4) key.start l words.tail) ranges_of-around_held (all-tile _ _ _ _ _ log s.contiguous)

  pub held-base : held-range.here.base ≡ entry.start
  held-base = ap (λ (c : Claim). c.base) held-range.is

  -- to the machine the seat works on what it reserved
  pub filling-task_is_works : task_of me (hands_of 0 views) ≡ InRing None (Works entry.start)
  filling-task_is_works = task_of-hands_of 0 me me views v (omega arith) at ∙ ap task_in filling

  -- and the machine finds the reservation there
  pub find-held_reservation : find (is_at entry.start) (map (reservation_of log.parts) (ranges_of log)) ≡ Some (reservation_of log.parts held-range.here)
  find-held_reservation = ap (λ (p : ℕ × List LogRange). find (is_at p.0) (map (reservation_of log.parts) p.1)) (λ i. (sym held-base i, ranges_of-around_held i))
      ∙ find-reservation_at_base log.parts _ _ _ (range-front me entry log held-range) held-range.behind held-range.here tiles-held

-- the one call has reserved the entry, and the other has it with one more unit filled, and all else that the one has
pub record FillsEntry (groups : ℕ → Group) (seat : ℕ) (entry : Entry) (unit : ℕ) (old new : Call) : Type 0 where
  pub entries : entries_in groups old ≡ entry ∷ []
  pub filled : entries_in groups new ≡ with_unit unit entry ∷ []
  pub claims : claims_in new ≡ claims_in old
  pub books : (books : Books) → books_in groups new books ≡ books_in groups old books
  pub pieces : (slot : ℕ) → pieces_at slot new ≡ pieces_at slot old
  pub phases : (slot : ℕ) → phase_at seat slot new ≡ phase_at seat slot old
  pub knows : KnowsGroup groups old → KnowsGroup groups new
  pub busy : old ≡ Idle → ⊥
  pub carries : (place : ℕ) → Carries place old → Carries place new
  pub ends : (start exposed : ℕ) (log : Log) → HasTrueEnds start exposed log new
  pub loads : (seen : Seen) → LoadsForGroup groups seen new
  pub awaits : (books : Books) → AwaitsPlace new books

module _ (key : Start) (words : Words) (views : List View) (me : ℕ) (v : View) (entry : Entry) (unit : ℕ) (log : Log)
    (s : IsSound key words views log) (at : get_elem? views me ≡ some v) (call : Call) (fill : FillsEntry log.groups me entry unit v.call call)
    (unfilled : length entry.units < entry.size) (unit-is : unit ≡ slice_index (spelling entry.rec) (length entry.units)) where
  abbrev next : ℕ
  next = (entry.start + length entry.units) % key.ring

  abbrev ring' : ℕ → ℕ
  ring' = put words.ring next unit

  abbrev new : View
  new = record v { seen = counted v.seen; call = call }

  mine : HasWorkingOwner log.groups log.parts log.ahead me v
  mine = each_seat-at (HasWorkingOwner log.groups log.parts log.ahead) views me v at s.owners

  pub filling-last_part : LastPart me log.parts (parts_of me true v.entries) entry
  filling-last_part = own-last_part me log.parts (parts_of me true v.entries) entry
      (mine.owns ∙ ap (λ entries. parts_of me true v.entries ++ parts_of me false entries) fill.entries)

  abbrev old_part : Part
  old_part = part_of me false entry

  abbrev part : Part
  part = part_of me false (with_unit unit entry)

  abbrev pub after : Log
  after = record {
    parts = filling-last_part.before ++ part ∷ filling-last_part.behind;
    flushed = log.flushed;
    exposed = log.exposed;
    ahead = log.ahead;
    groups = log.groups;
  }

  laid : Laid key.start (filling-last_part.before ++ old_part ∷ filling-last_part.behind) words.tail
  laid = subst (λ l. Laid key.start l words.tail) filling-last_part.split s.contiguous.parts

  all-old : (P : Part → Type 0) → AllByRecursion P log.parts → AllByRecursion P (filling-last_part.before ++ old_part ∷ filling-last_part.behind)
  all-old P = subst (AllByRecursion P) filling-last_part.split

  below_tail : entry.start + entry.size ≤ words.tail
  below_tail = laid-le _ _ filling-last_part.behind (laid-split _ _ filling-last_part.before filling-last_part.behind old_part laid).2

  -- a range that is not released is not below exposed
  above_exposed : words.exposed ≤ entry.start
  above_exposed = elim
      (dec_le words.exposed entry.start) [
        | yes le ↦ le
        | no gt ↦ absurd (true≢false
            (sym (all-middle (IsReleasedBelow words.exposed) filling-last_part.before filling-last_part.behind old_part (all-old (IsReleasedBelow words.exposed) s.below.below)
            (omega arith))))
      ]

  above_durable : words.durable ≤ entry.start
  above_durable = omega (arith, above_exposed, tiles-le _ _ _ log.exposed s.contiguous.to_exposed)

  stands-part : StandsInRing key.ring words.durable ring' part
  stands-part i below hi = let lt : i < length entry.units + 1 =
      subst (λ (n : ℕ). i < n) (length-append entry.units (unit ∷ [])) below in dite (ℕ_discrete i (length entry.units))
      (λ same. ap (λ (n : ℕ). ring' ((entry.start + n) % key.ring)) same
      ∙ (put-at words.ring next unit
      ∙ sym (ap (λ (n : ℕ). get_or (entry.units ++ unit ∷ []) n 0) same ∙ get_or-append_seam entry.units unit [] 0)))
      (λ other. let lt : i < length entry.units = omega arith in
      put-other words.ring next unit ((entry.start + i) % key.ring)
      (modulo-differ_if_near (entry.start + i) (entry.start + length entry.units) key.ring (λ e. omega arith) (omega arith)
      (omega (arith, unfilled, below_tail, above_durable, s.ordered.within_ring)))
      ∙ (all-middle (StandsInRing key.ring words.durable words.ring) filling-last_part.before filling-last_part.behind old_part
      (all-old (StandsInRing key.ring words.durable words.ring) s.filled.stands) i lt hi ∙ sym (get_or-append entry.units (unit ∷ []) 0 i lt)))

  stands-others : (q : Part) → SpellsRecord q × StandsInRing key.ring words.durable words.ring q → q.entry.start + q.entry.size ≤ words.tail
      → Rattle.log_rule.proofs.RangeLists.Apart q old_part → StandsInRing key.ring words.durable ring' q
  stands-others q h hi apart i below low = let fits = part_units-le_size q h.0 in
      put-other words.ring next unit ((q.entry.start + i) % key.ring)
      (modulo-differ_if_near (q.entry.start + i) (entry.start + length entry.units) key.ring
      (λ e. ⊎_elim (λ a. omega (arith, a, fits, below, e)) (λ b. omega (arith, b, e, unfilled)) apart)
      (omega (arith, hi, fits, below, above_durable, s.ordered.within_ring)) (omega (arith, low, below_tail, unfilled, s.ordered.within_ring)))
      ∙ h.1 i below low

  spelled-part : SpellsRecord part
  spelled-part = spells-more me entry unit (all-middle SpellsRecord filling-last_part.before filling-last_part.behind old_part (all-old SpellsRecord s.filled.spelled)) unfilled unit-is

  -- the units that the flusher's seat has lie below exposed
  agrees : (base : ℕ) (units : List ℕ) → base + length units ≤ words.exposed → AllByRecursion (AgreesFrom base units) log.parts
      → AllByRecursion (AgreesFrom base units) after.parts
  agrees base units below all = all-mid_replaced (AgreesFrom base units) filling-last_part.before filling-last_part.behind old_part part
      (λ i _ _ hi. absurd (omega (arith, hi, below, above_exposed))) (all-old (AgreesFrom base units) all)

  sends : (z : View) → SendsIfFlusher key.start words.exposed words.durable log z → SendsIfFlusher key.start words.exposed words.durable after z
  sends z old f = let o = old f in record {
    sent_to = o.sent_to;
    read_to = o.read_to;
    loaded_seen = o.loaded_seen;
    boundary = o.boundary;
    sent_agrees = agrees key.start z.sending.sent (omega (arith, o.sent_to, o.read_to, o.loaded_seen)) o.sent_agrees;
    read_agrees = agrees words.durable z.sending.read (omega (arith, o.read_to, o.loaded_seen)) o.read_agrees;
  }

  kept : KeepsView log.groups views me new
  kept = keeps-view key words views me v log s at new refl (one_step_more-keeps_seen log.groups v.seen (counted v.seen) refl refl refl refl refl refl refl)
      (fill.loads (counted v.seen)) (fill.awaits v.books)

  pub fill-sound : IsSound key (record words { ring = ring' }) (set views me new) after
  fill-sound = record {
    ordered = s.ordered;
    seen = each_view-set (λ _ z. HasSeenBoundaries key.start words.tail words.exposed words.durable (ranges_of log) z.seen) views me new s.seen
        (let old = s.seen me v at in
        record { tail_seen = old.tail_seen; exposed_seen = old.exposed_seen; durable_seen = old.durable_seen; boundaries = old.boundaries });
    contiguous = record {
      to_durable = s.contiguous.to_durable;
      to_exposed = s.contiguous.to_exposed;
      to_tail = s.contiguous.to_tail;
      parts = laid-same_start_size _ _ filling-last_part.before filling-last_part.behind old_part part refl refl laid;
      remaining = all-weaken (CountsRemaining log.parts) (CountsRemaining after.parts) log.ahead (λ q counts.
          let m = unreleased_in-mid_replaced q.base q.size filling-last_part.before filling-last_part.behind old_part part in
          let g : unreleased_in q.base q.size (filling-last_part.before ++ old_part ∷ filling-last_part.behind) ≡ unreleased_in q.base q.size log.parts =
          ap (unreleased_in q.base q.size) (sym filling-last_part.split) in
          let i : inside q.base q.size (with_unit unit entry) ≡ inside q.base q.size entry =
          refl in omega (arith, m, g, i, counts)) s.contiguous.remaining;
      aligned = all-weaken (EndsWithPart key.start log.parts) (EndsWithPart key.start after.parts) (ranges_of log)
          (λ r b. boundary-mid_replaced part_size key.start (r.base + r.size) filling-last_part.before filling-last_part.behind old_part part refl
          (subst (λ l. IsTilingBoundary part_size key.start l (r.base + r.size)) filling-last_part.split b)) s.contiguous.aligned;
    };
    filled = record {
      spelled = all-mid_replaced SpellsRecord filling-last_part.before filling-last_part.behind old_part part spelled-part (all-old SpellsRecord s.filled.spelled);
      stands = laid-all_replaced (λ q. SpellsRecord q × StandsInRing key.ring words.durable words.ring q)
          (StandsInRing key.ring words.durable ring') _ _ filling-last_part.before filling-last_part.behind old_part part laid
          (all-both SpellsRecord (StandsInRing key.ring words.durable words.ring) (λ q. SpellsRecord q × StandsInRing key.ring words.durable words.ring q) _
          (λ q a b. (a, b)) (all-old SpellsRecord s.filled.spelled) (all-old (StandsInRing key.ring words.durable words.ring) s.filled.stands))
          stands-part (λ q h _ _ hi apart. stands-others q h hi apart);
    };
    below = record {
      full = all-mid_replaced IsFullIfReleased filling-last_part.before filling-last_part.behind old_part part (λ e. absurd (true≢false (sym e)))
          (all-old IsFullIfReleased s.below.full);
      below = all-mid_replaced (IsReleasedBelow words.exposed) filling-last_part.before filling-last_part.behind old_part part (λ low. absurd (omega (arith, above_exposed)))
          (all-old (IsReleasedBelow words.exposed) s.below.below);
      ranges = s.below.ranges;
    };
    at_work = s.at_work;
    slots = s.slots;
    marks = record { current = s.marks.current; true_marks = s.marks.true_marks; below_tail = s.marks.below_tail };
    carried = λ first. carrier-set words.exposed views me v new at (fill.carries words.exposed) (s.carried first);
    ends = each_view-set_weaken (λ _ z. HasTrueEnds key.start words.exposed log z.call) (λ _ z. HasTrueEnds key.start words.exposed after z.call) views me new
        s.ends (fill.ends key.start words.exposed after) (λ _ z _ _. true_ends-log_changes key.start words.exposed log after z.call (λ _ b. b) (λ _ e. e));
    owners = each_seat-set_weaken (HasWorkingOwner log.groups log.parts log.ahead) (HasWorkingOwner after.groups after.parts after.ahead) views me v new at s.owners
        record {
          owns = own-last_replaced me filling-last_part.before filling-last_part.behind (parts_of me true v.entries) false
              (with_unit unit entry) filling-last_part.own_before filling-last_part.none_behind
              ∙ ap (λ entries. parts_of me true v.entries ++ parts_of me false entries) (sym fill.filled);
          owes = mine.owes ∙ sym fill.claims;
          joins = λ slot. mine.joins slot ∙ sym (fill.pieces slot);
          leads = λ slot. mine.leads slot ∙ sym (fill.phases slot);
          knows = fill.knows mine.knows;
        }
        (λ j z differ h. record {
          owns = own-mid_replaced_others me j filling-last_part.before filling-last_part.behind false false entry (with_unit unit entry) differ
              ∙ (ap (own j) (sym filling-last_part.split) ∙ h.owns);
          owes = h.owes;
          joins = h.joins;
          leads = h.leads;
          knows = h.knows;
        });
    constants = each_view-set (λ _ z. HasConstants key z) views me new s.constants (s.constants me v at);
    resting = each_view-set (λ _ z. RestsUnlessActive z) views me new s.resting (λ off. absurd (fill.busy (s.resting me v at off)));
    entries = each_view-set (λ _ z. OwnsIfWorker z) views me new s.entries (s.entries me v at);
    roles = crew-set_same words.crew views me v new s.roles at refl;
    sends = each_view-set_weaken (λ _ z. SendsIfFlusher key.start words.exposed words.durable log z)
        (λ _ z. SendsIfFlusher key.start words.exposed words.durable after z) views me new s.sends (sends v (s.sends me v at)) (λ _ z _ _. sends z);
    stops = each_view-set (λ _ z. StoresStop words.stop z) views me new s.stops (s.stops me v at);
    read_stop = each_view-set (λ _ z. HasReadStop words.stop z) views me new s.read_stop (s.read_stop me v at);
    quiet = rests_if_quiet-set views me v new s.quiet at (λ _ _ _ h. h) (λ _ h. h);
    looked = each_view-set (λ _ z. LookedIfQuiet words.exposed z) views me new s.looked (s.looked me v at);
    unheld = each_view-set (λ _ z. HoldsIfActive z) views me new s.unheld (s.unheld me v at);
    accounts = same_books-keeps_accounts key words.account after.parts log.groups views me v new at
        (fill.books v.books)
        (subst (λ records. KeepsAccounts (base_of key) words.account (history_from key.start [] records) (map (books_of log.groups) views))
        (ap records_in filling-last_part.split ∙ sym (records-mid_replaced filling-last_part.before filling-last_part.behind old_part part refl)) s.accounts);
    in_group = s.in_group;
    loads = each_view-set (λ _ z. LoadsForGroup log.groups z.seen z.call) views me new s.loads kept.loads;
    awaits = each_view-set (λ _ z. AwaitsPlace z.call z.books) views me new s.awaits kept.awaits;
    totals = each_view-set (λ _ z. (slot : ℕ) → HasTotalOfWorkers (log.groups slot) z) views me new s.totals kept.totals;
    heard = kept.heard;
    lasts = each_view-set (λ _ z. HasSeenLast z) views me new s.lasts kept.last;
  }

  counts : (base size : ℕ)
      → filled_in base size after.parts + filled_inside base size entry ≡ filled_in base size log.parts + filled_inside base size (with_unit unit entry)
  counts base size =
      let m = filled_in-mid_replaced base size filling-last_part.before filling-last_part.behind old_part part in
      let g : filled_in base size (filling-last_part.before ++ old_part ∷ filling-last_part.behind) ≡ filled_in base size log.parts =
      ap (filled_in base size) (sym filling-last_part.split) in omega (arith, m, g)

  pub filled_in-own_entry : filled_in entry.start entry.size log.parts ≡ length entry.units
  filled_in-own_entry = ap (filled_in entry.start entry.size) filling-last_part.split ∙ filled_in-range_of_part _ _ filling-last_part.before filling-last_part.behind old_part laid

  -- the range in which the entry lies
  module _ {test : LogRange → Bool} {claim : Claim} (held : Last test claim_of log.ahead [] claim) (low : claim.base ≤ entry.start)
      (high : entry.start < claim.base + claim.size) where
    base-is : held.here.base ≡ claim.base
    base-is = ap (λ (c : Claim). c.base) held.is

    size-is : held.here.size ≡ claim.size
    size-is = ap (λ (c : Claim). c.size) held.is

    split : ranges_of log ≡ (log.flushed ++ (log.exposed ++ held.before)) ++ held.here ∷ held.behind
    split = ranges-split log held.before held.behind held.here held.split

    -- the range has one unit more, and what lies elsewhere as many as before
    one-more : filled_in held.here.base held.here.size after.parts ≡ filled_in held.here.base held.here.size log.parts + 1
    one-more =
        let here = filled_inside-starting_within held.here.base held.here.size entry (omega (arith, base-is, low)) (omega (arith, base-is, size-is, high)) in
        let now = filled_inside-starting_within held.here.base held.here.size (with_unit unit entry) (omega (arith, base-is, low)) (omega (arith, base-is, size-is, high)) in
        omega (arith, counts held.here.base held.here.size, here, now, length-append entry.units (unit ∷ []))

    elsewhere : (q : LogRange) → RangesApart q held.here → filled_in q.base q.size after.parts ≡ filled_in q.base q.size log.parts
    elsewhere q apart =
        let out : (entry.start < q.base) ⊎ (q.base + q.size ≤ entry.start) =
        ⊎_elim (λ before. inr (omega (arith, before, base-is, low))) (λ behind. inl (omega (arith, behind, base-is, size-is, high))) apart in
        omega (arith, counts q.base q.size, filled_inside-starting_elsewhere q.base q.size entry out, filled_inside-starting_elsewhere q.base q.size (with_unit unit entry) out)

    pub reservations-filled_at : map (reservation_of after.parts) (ranges_of after)
        ≡ map (filled_at claim.base) (map (reservation_of log.parts) (ranges_of log))
    reservations-filled_at = ap (map (reservation_of after.parts)) split
        ∙ (reservation_of-range_changed log.parts after.parts (filled_at held.here.base) held.here held.here (filled_at-others held.here.base) elsewhere
        (λ i. record {
          base = held.here.base;
          size = held.here.size;
          filled = (one-more
              ∙ sym (ap (λ b. cond b (filled_in held.here.base held.here.size log.parts + 1) (filled_in held.here.base held.here.size log.parts))
              (eq-eqb held.here.base held.here.base refl))) i;
          released = is_released held.here.duty;
        }) _ _ _ (log.flushed ++ (log.exposed ++ held.before)) held.behind
        (subst (λ l. Tiles (key.ring / 4) key.start l words.tail) split (all-tile _ _ _ _ _ log s.contiguous))
        ∙ (λ i. map (filled_at (base-is i)) (map (reservation_of log.parts) (sym split i))))

-- a range that the seat alone has reserved
run-fills : (groups : ℕ → Group) (seat : ℕ) (entry : Entry) (unit : ℕ) (old : Call) → old ≡ Filling entry
    → FillsEntry groups seat entry unit old (Filling (with_unit unit entry))
run-fills groups seat entry unit old is =
    subst (λ call. FillsEntry groups seat entry unit call (Filling (with_unit unit entry))) (sym is) record {
      entries = refl;
      filled = refl;
      claims = refl;
      books = λ _. refl;
      pieces = λ _. refl;
      phases = λ _. refl;
      knows = λ _. tt;
      busy = λ gone. cc;
      carries = λ _ carries. carries;
      ends = λ _ _ _. tt;
      loads = λ _. tt;
      awaits = λ _. tt;
    }

module _ (key : Start) (words : Words) (views : List View) (me : ℕ) (v : View) (entry : Entry) (unit : ℕ) (log : Log)
    (s : IsSound key words views log) (at : get_elem? views me ≡ some v) (filling : v.call ≡ Filling entry)
    (unfilled : length entry.units < entry.size) (unit-is : unit ≡ slice_index (spelling entry.rec) (length entry.units)) where
  abbrev old_state : SlotState
  old_state = slots_of key words views log

  abbrev run : Call
  run = Filling (with_unit unit entry)

  abbrev fill : FillsEntry log.groups me entry unit v.call run
  fill = run-fills log.groups me entry unit v.call filling

  abbrev held : HeldRange me log.ahead entry
  held = held-range key words views me v entry log s at filling

  as-many : filled_in held.here.base held.here.size log.parts ≡ length entry.units
  as-many = (λ i. filled_in (ap (λ (c : Claim). c.base) held.is i) (ap (λ (c : Claim). c.size) held.is i) log.parts)
      ∙ filled_in-own_entry key words views me v entry unit log s at run fill unfilled unit-is

  shown : map (reservation_of (after key words views me v entry unit log s at run fill unfilled unit-is).parts) (ranges_of log)
      ≡ map (filled_at entry.start) (map (reservation_of log.parts) (ranges_of log))
  shown = reservations-filled_at key words views me v entry unit log s at run fill unfilled unit-is held (omega arith) (omega (arith, unfilled))

  works : task_of me (hands_of 0 views) ≡ InRing None (Works entry.start)
  works = filling-task_is_works key words views me v entry log s at filling

  pub fill-leads : Leads key words (record words { ring = put words.ring ((entry.start + length entry.units) % key.ring) unit }) views
      (set views me (record v { seen = counted v.seen; call = run })) log (fills me)
  fill-leads = record {
    after = after key words views me v entry unit log s at run fill unfilled unit-is;
    sound = fill-sound key words views me v entry unit log s at run fill unfilled unit-is;
    shows = (
      subst (MayFillNow old_state) (sym works)
          (subst (λ o. IsSomeAnd o HasUnfilled) (sym (find-held_reservation key words views me v entry log s at filling))
          (omega (arith, as-many, ap (λ (c : Claim). c.size) held.is, unfilled))),
      (λ i. record old_state {
        log = record old_state.log { reservations = shown i };
        hands = hands_of-set_same 0 me views v (record v { seen = counted v.seen; call = run }) at (ap task_in (sym filling)) i;
      })
          ∙ ap (after_fill old_state me) (sym works),
    );
  }

pub run-step : (key : Start) (me : ℕ) (v : View) (at ring unit : ℕ) → key.ring ≡ ring → MayFillRun at unit v → (n : ℕ)
    → IsStep key me (Ring (at % ring)) n unit v (filled unit v) (fills me)
run-step key me v at ring unit same may n = record {
  leads = λ words views log s here is.
      let index : (may.entry.start + length may.entry.units) % key.ring ≡ at % ring = (λ i. sym may.next i % same i) in
      let call : Filling (with_unit unit may.entry) ≡ (filled unit v).call =
      ap (Rattle.log_rule.specs.Views.call_with_unit unit) (sym may.filling) in
      subst (λ (x : ℕ × Rattle.log_rule.specs.declared.view.Call.Call). Leads key words (record words { ring = put words.ring x.0 unit }) views
      (set views me (record v { seen = counted v.seen; call = x.1 })) log (fills me))
      (λ i. (index i, call i)) (fill-leads key words views me v may.entry unit log s here may.filling may.unfilled may.unit_is);
}
