-- Exposed is raised past the first range ahead: the machine's Raise, where the exchange is not lost.
use Rattle.std.proofs.Common.{◌≡◌, ℕ, ◌==◌, ◌+◌, ◌/◌, ◌%◌, ◌<◌, ◌≤◌, cond, eqb, Bool, true, false, List, [], ◌∷◌, ◌++◌, map, set, sym, refl, ap, ◌∙◌}
use Rattle.std.proofs.Common.{subst, le_refl, arith, append_assoc, eq-eqb, ne_eqb}
use Rattle.std.proofs.Math.Nat.{div-le_self}
use Rattle.std.specs.Prelude.{is_some}
use Rattle.std.specs.List.{AllByRecursion}
use Rattle.std.specs.Option.{option_map_or}
use mathlib.Core.Logic.{dite}
use mathlib.Core.Option.{some}
use native.Mathlib.Decide.{ℕ_discrete, dec_lt}
use lib.ListN.{get_elem?}
use prog.Atomic.{either}
use Rattle.lsn_space.specs.declared.lsn.TheConstants.{LAST}
use Rattle.lsn_space.proofs.TilingLemmas.{all-weaken, all-both, all-append}
use Rattle.ring_core.specs.RingLog.{end_at, end_of}
use Rattle.ring_core.specs.State.{raises_from}
use Rattle.slot_core.specs.State.{Raises, Holds, InRing, SlotState, with_task, task_of, ring_stage}
use Rattle.slot_core.specs.Machine.{after_raise as machine-raise}
use Rattle.log_rule.specs.declared.start.Start.{Start}
use Rattle.log_rule.specs.declared.view.Call.{Call}
use Rattle.log_rule.specs.declared.view.Call.TheVariants.{Idle, Filling, Joined, Emptying, Marked, Holding, Raising, Reopening}
use Rattle.log_rule.specs.declared.view.Role.TheVariants.{Flusher}
use Rattle.log_rule.specs.declared.view.View.{View}
use Rattle.log_rule.specs.Events.{reservation_of, task_in, hands_of, slots_of, Leads, IsStep, raises}
use Rattle.log_rule.specs.GroupViews.{slot_after}
use Rattle.table_layout.specs.Layout.{Exposed}
use Rattle.log_rule.specs.Log.{Part, LogRange, Log, ranges_of, owed, is_owed_by, claim_of, parts_of, unreleased_in, IsReleased, IsAtWork}
use Rattle.log_rule.specs.Log.{IsReleasedBelow, CountsRemaining, EndsWithPart, IsRangeBoundary, Tiles}
use Rattle.log_rule.specs.Marks.{IsReady, IsCurrentMark, HasTrueMark, IsFirstReleased, FirstEnds, HasTrueEnds}
use Rattle.log_rule.specs.MarkViews.{call_with_exposed, after_raise}
use Rattle.log_rule.specs.May.{MayRaise}
use Rattle.log_rule.specs.Members.{LoadsForGroup, AwaitsPlace, HasTotalOfWorkers, HasSeenLast}
use Rattle.log_rule.specs.Sound.{HasSeenBoundaries, HasContiguousReservations, SendsIfFlusher, StoresStop, HasReadStop, LookedIfQuiet}
use Rattle.log_rule.specs.Sound.{HasWorkingOwner, HasConstants, RestsUnlessActive, OwnsIfWorker, HoldsIfActive, IsSound}
use Rattle.log_rule.specs.Slots.{pieces_at, is_shared_at, phase_at}
use Rattle.log_rule.specs.Views.{entries_in, books_in, claims_in, seen_exposed}
use Rattle.log_rule.specs.Words.{Words}
use Rattle.log_rule.proofs.Carriers.{carrier-set_carrying}
use Rattle.log_rule.proofs.Exposing.{missed_raise-leads}
use Rattle.log_rule.proofs.AccountsKept.{same_books-keeps_accounts}
use Rattle.log_rule.proofs.Lifting.{Tells}
use Rattle.log_rule.proofs.Loads.{exposed-boundary}
use Rattle.log_rule.proofs.Members.{KeepsView, seen_exposed-keeps_seen, seen_in_group-more, keeps-view}
use Rattle.log_rule.proofs.MarkLooks.{StartsAt, starts_at-reservation_found, first_released-mark_above, mark_above-first_ready}
use Rattle.log_rule.proofs.RangeLists.{tiles-le, tiles-push, unreleased_in_none-all_released}
use Rattle.log_rule.proofs.Roles.{busy-not_quiet, crew-set_same, rests_if_quiet-set}
use Rattle.log_rule.proofs.Sharing.{shared-first_unshared, sound_slot-same_shared}
use Rattle.log_rule.proofs.MachineShown.{hands_of-set, task_of-hands_of}
use Rattle.log_rule.proofs.TrueMarks.{IsFirstReady, current_mark-raise}
use Rattle.log_rule.proofs.ViewChanges.{each_view-set_weaken, each_view-set, each_seat-set_weaken, each_seat-at}

-- the first range, which is released, and those behind it
record FirstRange (ranges : List LogRange) (to : ℕ) : Type 0 where
  here : LogRange
  behind : List LogRange
  split : ranges ≡ here ∷ behind
  released : IsReleased here
  ends : to ≡ here.base + here.size

first-range : (ranges : List LogRange) (to : ℕ) → FirstEnds ranges to → FirstRange ranges to
first-range [] to first = absurd first
first-range (r ∷ rs) to first = record { here = r; behind = rs; split = refl; released = first.0; ends = first.1 }

module _ (key : Start) (words : Words) (views : List View) (me : ℕ) (v : View) (from to : ℕ) (log : Log) (s : IsSound key words views log)
    (at : get_elem? views me ≡ some v) (may : MayRaise from to v) (same : words.exposed ≡ from) where
  abbrev new : View
  new = record v { seen = seen_exposed to v.seen; call = Holding to may.after }

  mine : HasWorkingOwner log.groups log.parts log.ahead me v
  mine = each_seat-at (HasWorkingOwner log.groups log.parts log.ahead) views me v at s.owners

  abbrev first : FirstRange log.ahead to
  first = first-range log.ahead to ((subst (HasTrueEnds key.start words.exposed log) may.raising (s.ends me v at)).1 (sym same))

  abbrev range : LogRange
  range = first.here

  abbrev rest : List LogRange
  rest = first.behind

  abbrev after : Log
  after = record { parts = log.parts; flushed = log.flushed; exposed = log.exposed ++ range ∷ []; ahead = rest; groups = log.groups }

  tiles : Tiles (key.ring / 4) words.exposed (range ∷ rest) words.tail
  tiles = subst (λ l. Tiles (key.ring / 4) words.exposed l words.tail) first.split s.contiguous.to_tail

  end : words.exposed + range.size ≡ to
  end = let is = first.ends in omega (arith, is, tiles.0)

  higher : words.exposed < to
  higher = omega (arith, end, tiles.1)

  behind-of : (P : LogRange → Type 0) → AllByRecursion P log.ahead → AllByRecursion P rest
  behind-of P all = (subst (AllByRecursion P) first.split all).1

  same-ranges : ranges_of log ≡ ranges_of after
  same-ranges = ap (λ l. log.flushed ++ (log.exposed ++ l)) first.split
      ∙ ap (λ l. log.flushed ++ l) (sym (append_assoc log.exposed (range ∷ []) rest))

  still : (x : ℕ) → IsRangeBoundary key.start (ranges_of log) x → IsRangeBoundary key.start (ranges_of after) x
  still x = subst (λ l. IsRangeBoundary key.start l x) same-ranges

  stills : (lsns : List ℕ) → AllByRecursion (IsRangeBoundary key.start (ranges_of log)) lsns
      → AllByRecursion (IsRangeBoundary key.start (ranges_of after)) lsns
  stills lsns = all-weaken (IsRangeBoundary key.start (ranges_of log)) (IsRangeBoundary key.start (ranges_of after)) lsns still

  -- nothing of the range remains
  none-left : unreleased_in range.base range.size log.parts ≡ 0
  none-left =
      let ready : IsReady words.exposed (words.mark (words.exposed % key.ring)) range =
      subst (IsFirstReady words.exposed (words.mark (words.exposed % key.ring))) first.split
      (mark_above-first_ready key words views log s (first_released-mark_above key words views log s (subst IsFirstReleased (sym first.split) first.released))) in
      (subst (AllByRecursion (CountsRemaining log.parts)) first.split s.contiguous.remaining).0 ∙ ready.remaining

  contiguous : HasContiguousReservations key.start key.ring words.tail to words.durable after
  contiguous = record {
    to_durable = s.contiguous.to_durable;
    to_exposed = tiles-push _ _ _ _ log.exposed range s.contiguous.to_exposed tiles.0 tiles.1 tiles.2 end;
    to_tail = subst (λ a. Tiles (key.ring / 4) a rest words.tail) end tiles.3;
    parts = s.contiguous.parts;
    remaining = behind-of (CountsRemaining log.parts) s.contiguous.remaining;
    aligned = subst (AllByRecursion (EndsWithPart key.start log.parts)) same-ranges s.contiguous.aligned;
  }

  -- nobody owed the range
  fewer : (j : ℕ) → owed j rest ≡ owed j log.ahead
  fewer j = sym (ap (owed j) first.split
      ∙ ap (λ b. cond b (claim_of range ∷ owed j rest) (owed j rest)) (ap (is_owed_by j) first.released))

  sends : (z : View) → SendsIfFlusher key.start words.exposed words.durable log z → SendsIfFlusher key.start to words.durable after z
  sends z old f = let o = old f in record {
    sent_to = o.sent_to;
    read_to = o.read_to;
    loaded_seen = omega (arith, o.loaded_seen, higher);
    boundary = still z.sending.exposed o.boundary;
    sent_agrees = o.sent_agrees;
    read_agrees = o.read_agrees;
  }

  -- an LSN in hand that was passed is, and none but this seat's is exposed now
  ends : (call : Call) → HasTrueEnds key.start words.exposed log call → HasTrueEnds key.start to after call
  ends Idle e = tt
  ends (Filling entry) e = tt
  ends (Joined slot piece step) e = tt
  ends (Emptying slot base total) e = tt
  ends (Marked next) e = tt
  ends (Reopening slot) e = tt
  ends (Holding e next) old = record { boundary = still e old.boundary; passed = omega (arith, old.passed, higher) }
  ends (Raising e end' next) old = (
    record { boundary = still e old.0.boundary; passed = omega (arith, old.0.passed, higher) },
    λ here. absurd (omega (arith, here, old.0.passed, higher)),
  )

  busy : v.call ≡ Idle → ⊥
  busy idle = let gone : Raising from to may.after ≡ Idle = sym may.raising ∙ idle in cc

  not-quiet : (j : ℕ) (z : View) → get_elem? views j ≡ some z → z.standing.role ≡ Flusher → z.sending.quiet ≡ true → ⊥
  not-quiet = busy-not_quiet key words views me v log s at busy

  kept : KeepsView log.groups views me new
  kept = keeps-view key words views me v log s at new refl (seen_exposed-keeps_seen log.groups to v.seen) tt tt

  sound : IsSound key (record words { exposed = to }) (set views me new) after
  sound = record {
    ordered = s.ordered;
    seen = each_view-set_weaken (λ _ z. HasSeenBoundaries key.start words.tail words.exposed words.durable (ranges_of log) z.seen)
        (λ _ z. HasSeenBoundaries key.start words.tail to words.durable (ranges_of after) z.seen) views me new s.seen
        (let old = s.seen me v at in record {
          tail_seen = old.tail_seen;
          exposed_seen = le_refl _;
          durable_seen = old.durable_seen;
          boundaries = (exposed-boundary _ _ _ _ _ after contiguous, stills v.seen.lsns old.boundaries);
        })
        (λ _ z _ _ old. record {
          tail_seen = old.tail_seen;
          exposed_seen = omega (arith, old.exposed_seen, higher);
          durable_seen = old.durable_seen;
          boundaries = stills z.seen.lsns old.boundaries;
        });
    contiguous = contiguous;
    filled = s.filled;
    below = record {
      full = s.below.full;
      below = all-both (IsReleasedBelow words.exposed) (λ (q : Part). range.base ≤ q.entry.start → q.entry.start < range.base + range.size
          → q.released ≡ true) (IsReleasedBelow to) log.parts
          (λ q low here lt. dite (dec_lt q.entry.start words.exposed) (λ yes'. low yes') (λ no'. here (omega (arith, tiles.0)) (omega (arith, tiles.0, end, lt))))
          s.below.below (unreleased_in_none-all_released _ _ range.base range.size log.parts s.contiguous.parts none-left);
      ranges = subst (AllByRecursion IsReleased) (append_assoc log.flushed log.exposed (range ∷ []))
          (all-append IsReleased (log.flushed ++ log.exposed) (range ∷ []) s.below.ranges (first.released, tt));
    };
    at_work = behind-of (IsAtWork log.groups) s.at_work;
    slots = sound_slot-same_shared (key.ring / 4) words.slot words.base log.ahead rest log.groups
        (λ slot. shared-first_unshared slot log.ahead rest range first.split (ap (is_shared_at slot) first.released)) s.slots;
    marks = record {
      current = λ place lo hi. current_mark-raise (key.ring / 4) key.ring words.exposed words.tail words.mark range rest tiles (div-le_self key.ring 4)
          (subst (λ l. (x : ℕ) → words.exposed ≤ x → x < words.exposed + key.ring → IsCurrentMark key.ring words.mark l x) first.split s.marks.current)
          place (omega (arith, lo, end)) (omega (arith, hi, end));
      true_marks = subst (AllByRecursion (HasTrueMark key.ring words.mark)) same-ranges s.marks.true_marks;
      below_tail = s.marks.below_tail;
    };
    carried = λ _. carrier-set_carrying to views me v new at refl;
    ends = each_view-set_weaken (λ _ z. HasTrueEnds key.start words.exposed log z.call) (λ _ z. HasTrueEnds key.start to after z.call) views me new s.ends
        (record { boundary = exposed-boundary _ _ _ _ _ after contiguous; passed = le_refl _ }) (λ _ z _ _. ends z.call);
    owners = each_seat-set_weaken (HasWorkingOwner log.groups log.parts log.ahead) (HasWorkingOwner log.groups log.parts rest) views me v new at s.owners
        record {
          owns = mine.owns ∙ ap (λ c. parts_of me true v.entries ++ parts_of me false (entries_in log.groups c)) may.raising;
          owes = fewer me ∙ (mine.owes ∙ ap claims_in may.raising);
          joins = λ slot. mine.joins slot ∙ ap (pieces_at slot) may.raising;
          leads = λ slot. mine.leads slot ∙ ap (phase_at me slot) may.raising;
          knows = tt;
        }
        (λ j z _ h. record { owns = h.owns; owes = fewer j ∙ h.owes; joins = h.joins; leads = h.leads; knows = h.knows });
    constants = each_view-set (λ _ z. HasConstants key z) views me new s.constants (s.constants me v at);
    resting = each_view-set (λ _ z. RestsUnlessActive z) views me new s.resting (λ off. absurd (busy (s.resting me v at off)));
    entries = each_view-set (λ _ z. OwnsIfWorker z) views me new s.entries (s.entries me v at);
    roles = crew-set_same words.crew views me v new s.roles at refl;
    sends = each_view-set_weaken (λ _ z. SendsIfFlusher key.start words.exposed words.durable log z)
        (λ _ z. SendsIfFlusher key.start to words.durable after z) views me new s.sends (sends v (s.sends me v at)) (λ _ z _ _. sends z);
    stops = each_view-set (λ _ z. StoresStop words.stop z) views me new s.stops (s.stops me v at);
    read_stop = each_view-set (λ _ z. HasReadStop words.stop z) views me new s.read_stop (s.read_stop me v at);
    quiet = rests_if_quiet-set views me v new s.quiet at (λ _ _ _ h. h) (λ _ h. h);
    looked = each_view-set_weaken (λ _ z. LookedIfQuiet words.exposed z) (λ _ z. LookedIfQuiet to z) views me new s.looked
        (λ f q _. absurd (not-quiet me v at f q)) (λ j z _ there _ f q _. absurd (not-quiet j z there f q));
    unheld = each_view-set (λ _ z. HoldsIfActive z) views me new s.unheld (s.unheld me v at);
    accounts = same_books-keeps_accounts key words.account log.parts log.groups views me v new at
        (sym (ap (λ call. books_in log.groups call v.books) may.raising)) s.accounts;
    in_group = λ slot. seen_in_group-more key.start key.ring words.tail words.tail words.durable words.durable (ranges_of log) (ranges_of after)
        (le_refl _) (le_refl _) still (log.groups slot) (s.in_group slot);
    loads = each_view-set (λ _ z. LoadsForGroup log.groups z.seen z.call) views me new s.loads kept.loads;
    awaits = each_view-set (λ _ z. AwaitsPlace z.call z.books) views me new s.awaits kept.awaits;
    totals = each_view-set (λ _ z. (slot : ℕ) → HasTotalOfWorkers (log.groups slot) z) views me new s.totals kept.totals;
    heard = kept.heard;
    lasts = each_view-set (λ _ z. HasSeenLast z) views me new s.lasts kept.last;
  }

  abbrev was : SlotState
  was = slots_of key words views log

  task-is : task_of me (hands_of 0 views) ≡ InRing (slot_after may.after) (Raises from)
  task-is = task_of-hands_of 0 me me views v (omega arith) at ∙ ap task_in may.raising

  -- the machine finds the range's end
  raised-to : to ≡ cond (words.exposed == from) (end_at from was.log.reservations) words.exposed
  raised-to = first.ends
      ∙ (sym (ap (λ o. option_map_or end_of o from) (starts_at-reservation_found key words views log s from here))
      ∙ sym (ap (λ b. cond b (end_at from was.log.reservations) words.exposed) (eq-eqb words.exposed from same)))
    where
      here : StartsAt from (ranges_of log)
      here = record {
        before = log.flushed ++ log.exposed;
        here = range;
        behind = rest;
        split = ap (λ l. log.flushed ++ (log.exposed ++ l)) first.split ∙ sym (append_assoc log.flushed log.exposed (range ∷ rest));
        base = tiles.0 ∙ same;
      }

  pub raise-leads : Leads key words (record words { exposed = to }) views (set views me new) log (raises me)
  raise-leads = record {
    after = after;
    sound = sound;
    shows = (
      ap (λ task. is_some (raises_from (ring_stage task))) task-is,
      (λ i. record was {
        log = record was.log { reservations = map (reservation_of log.parts) (sym same-ranges i); exposed = raised-to i };
        hands = (hands_of-set 0 me me views v new (omega arith) at ∙ ap (λ n. with_task me (InRing (slot_after may.after) (Holds n)) (hands_of 0 views)) raised-to) i;
      })
          ∙ ap (λ task. machine-raise was me task (raises_from (ring_stage task))) (sym task-is),
    );
  }

module _ (key : Start) (me : ℕ) (v : View) (from to : ℕ) (may : MayRaise from to v) where
  pub raise-won : IsStep key me Exposed from to v (after_raise to v) (raises me)
  raise-won = record {
    leads = λ words views log s at is. subst
        (λ c. Leads key words (record words { exposed = to }) views (set views me (record v { seen = seen_exposed to v.seen; call = c })) log (raises me))
        (sym (ap (call_with_exposed to) may.raising)) (raise-leads key words views me v from to log s at may is);
  }

  pub raise-lost : (n : ℕ) → (n ≡ from → ⊥) → IsStep key me Exposed n n v (after_raise n v) (raises me)
  raise-lost n differ = record {
    leads = λ words views log s at is. subst
        (λ x. Leads key words (record words { exposed = x }) views (set views me (after_raise x v)) log (raises me)) is
        (subst (λ c. Leads key words words views (set views me (record v { seen = seen_exposed words.exposed v.seen; call = c })) log (raises me))
        (sym (ap (call_with_exposed words.exposed) may.raising))
        (missed_raise-leads key words views me v from to log s at may (λ e. differ (sym is ∙ e))));
  }

  pub raise-step : (n : ℕ) → IsStep key me Exposed n (either (eqb n from) to n) v (after_raise (cond (n == from) to n) v) (raises me)
  raise-step n = dite (ℕ_discrete n from)
      (λ is. subst (λ (b : Bool). IsStep key me Exposed n (either b to n) v (after_raise (cond b to n) v) (raises me)) (sym (eq-eqb n from is))
      (subst (λ k. IsStep key me Exposed k to v (after_raise to v) (raises me)) (sym is) raise-won))
      (λ differ. subst (λ (b : Bool). IsStep key me Exposed n (either b to n) v (after_raise (cond b to n) v) (raises me)) (sym (ne_eqb n from differ))
      (raise-lost n differ))

  -- the word that is found is not below the LSN in hand, nor what was seen of exposed
  pub raise-tells_bounds : Tells key me Exposed v (λ n. (from ≤ n) × (v.seen.exposed ≤ n) × (n ≤ LAST))
  raise-tells_bounds words views log s at = (
    (subst (HasTrueEnds key.start words.exposed log) may.raising (s.ends me v at)).0.passed,
    (s.seen me v at).exposed_seen,
    omega (arith, tiles-le _ _ _ log.ahead s.contiguous.to_tail, s.ordered.within_log),
  )
