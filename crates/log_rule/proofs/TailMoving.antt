-- The tail moves: a range enters the log, with the parts that fill it. It is one seat's range, or a group's.
use Rattle.std.proofs.Common.{◌≡◌, inl, inr, ⊎_elim, ℕ, ◌==◌, ◌&&◌, ◌+◌, ◌/◌, ◌%◌, ◌≤◌, nat_le, nat_lt, cond, eqb, Bool, true, false, true≢false}
use Rattle.std.proofs.Common.{List, [], ◌∷◌, ◌++◌, length, map, set, sym, refl, ap, ◌∙◌, subst, le_refl, arith, append_assoc, add-zero, eq-eqb}
use Rattle.std.proofs.Common.{ne_eqb}
use Rattle.std.specs.List.{AllByRecursion}
use mathlib.Core.Logic.{dite}
use mathlib.Core.Option.{some}
use native.Mathlib.Decide.{ℕ_discrete}
use lib.ListN.{get_elem?}
use prog.Atomic.{either}
use Rattle.lsn_space.specs.Tiling.{IsTilingBoundary}
use Rattle.lsn_space.specs.declared.lsn.TheConstants.{LAST}
use Rattle.lsn_space.proofs.TilingLemmas.{all-weaken, all-append}
use Rattle.ring_core.specs.RingLog.{fresh}
use Rattle.log_rule.specs.declared.start.Start.{Start}
use Rattle.log_rule.specs.declared.view.Books.{Books}
use Rattle.log_rule.specs.declared.view.Call.{Call}
use Rattle.log_rule.specs.declared.view.Role.TheVariants.{Active}
use Rattle.log_rule.specs.declared.view.View.{View}
use Rattle.log_rule.specs.Accounts.{KeepsAccounts}
use Rattle.log_rule.specs.Events.{Event, IsStep, reservation_of, none}
use Rattle.log_rule.specs.Groups.{Group}
use Rattle.table_layout.specs.Layout.{Tail}
use Rattle.log_rule.specs.Log.{Part, Duty, Released, LogRange, Log, ranges_of, unreleased_in, filled_in, Laid, SpellsRecord, StandsInRing}
use Rattle.log_rule.specs.Log.{IsFullIfReleased, IsReleasedBelow, IsAtWork, CountsRemaining, AgreesFrom, EndsWithPart, IsRangeBoundary, is_released}
use Rattle.log_rule.specs.Marks.{HasTrueMark, Carries, HasTrueEnds}
use Rattle.log_rule.specs.Members.{HasSeenInGroup, LoadsForGroup, AwaitsPlace, HasTotalOfWorkers, HasSeenLast}
use Rattle.log_rule.specs.Roles.{is_active, may_own}
use Rattle.log_rule.specs.Slots.{IsSoundSlot}
use Rattle.log_rule.specs.SlotViews.{exchanged, contended_losing, lost_exchange, after_exchange}
use Rattle.log_rule.specs.Sound.{EachView, EachSeat, HasSeenBoundaries, HasContiguousReservations, SendsIfFlusher, StoresStop, HasReadStop}
use Rattle.log_rule.specs.Sound.{LookedIfQuiet, HasWorkingOwner, HasConstants, RestsUnlessActive, OwnsIfWorker, HoldsIfActive, IsSound, base_of}
use Rattle.log_rule.specs.Sound.{history_in, books_of}
use Rattle.log_rule.specs.Views.{seen_tail}
use Rattle.log_rule.specs.Words.{Words}
use Rattle.log_rule.proofs.Boundaries.{range_size, part_size, boundary-append, laid-end}
use Rattle.log_rule.proofs.Carriers.{carrier-set, first_released-front, first_ends-append, true_ends-log_changes}
use Rattle.log_rule.proofs.Loads.{tail-boundary, saw_tail_contended-step}
use Rattle.log_rule.proofs.Members.{heard_of_workers-set_same, seen_tail-keeps_seen}
use Rattle.log_rule.proofs.RangeLists.{tiles-le, tiles-push, tiles-within, laid-append, unreleased_in-append, unreleased_in-none_outside, filled_in-append, filled_in-apart}
use Rattle.log_rule.proofs.Roles.{crew-set_same, rests_if_quiet-set}
use Rattle.log_rule.proofs.MachineShown.{reservation_of-same_filled}
use Rattle.log_rule.proofs.TrueMarks.{ready_in-append}
use Rattle.log_rule.proofs.ViewChanges.{each_view-set, each_view-set_weaken}
use Rattle.std.proofs.lemmas.List.{map-append}

-- no unit of the part is filled, and it is not released
pub record IsEmptyPart (part : Part) : Type 0 where
  pub unreleased : part.released ≡ false
  pub no_units : part.entry.units ≡ []

-- the parts have the units from the one LSN to the other, none of which is filled
pub record AreNewParts (from size to : ℕ) (parts : List Part) : Type 0 where
  pub whole : from + size ≡ to
  pub positive : 1 ≤ size
  pub laid : Laid from parts to
  pub empty : AllByRecursion IsEmptyPart parts
  pub spelled : AllByRecursion SpellsRecord parts
  pub remain : unreleased_in from size parts ≡ size

-- parts with no unit filled are counted nowhere
empty-unfilled : (base size : ℕ) (parts : List Part) → AllByRecursion IsEmptyPart parts → filled_in base size parts ≡ 0
empty-unfilled base size [] all = refl
empty-unfilled base size (p ∷ ps) all =
    omega (arith, no_units (nat_le base p.entry.start && nat_lt p.entry.start (base + size)), empty-unfilled base size ps all.1)
  where
    no_units : (b : Bool) → cond b (length p.entry.units) 0 ≡ 0
    no_units true = ap length all.0.no_units
    no_units false = refl

-- and none of them lies below what they begin at
above-exposed : (exposed from to : ℕ) (parts : List Part) → Laid from parts to → exposed ≤ from
    → AllByRecursion (IsReleasedBelow exposed) parts
above-exposed exposed from to [] laid above = tt
above-exposed exposed from to (p ∷ ps) laid above =
    ((λ low. absurd (omega (arith, laid.0, low, above))), above-exposed exposed (from + p.entry.size) to ps laid.2 (omega (arith, above)))

module _ (key : Start) (words : Words) (views : List View) (me : ℕ) (v : View) (log : Log) (s : IsSound key words views log)
    (at : get_elem? views me ≡ some v) (active : v.standing.role ≡ Active) (to size : ℕ) (more : List Part) (duty : Duty)
    (groups : ℕ → Group) (call : Call) (books : Books) where
  abbrev from : ℕ
  from = words.tail

  abbrev range : LogRange
  range = record { base = from; size = size; remaining = size; duty = duty }

  abbrev pub moved_view : View
  moved_view = record v { seen = seen_tail to v.seen; call = call; books = books }

  abbrev pub moved_log : Log
  moved_log = record {
    parts = log.parts ++ more;
    flushed = log.flushed;
    exposed = log.exposed;
    ahead = log.ahead ++ range ∷ [];
    groups = groups;
  }

  on-duty : is_active v.standing.role ≡ false → ⊥
  on-duty off = true≢false (sym (ap is_active active) ∙ off)

  ranges : ranges_of log ++ range ∷ [] ≡ ranges_of moved_log
  ranges = append_assoc log.flushed (log.exposed ++ log.ahead) (range ∷ [])
      ∙ ap (λ l. log.flushed ++ l) (append_assoc log.exposed log.ahead (range ∷ []))

  pub boundary-moved_log : (x : ℕ) → IsRangeBoundary key.start (ranges_of log) x → IsRangeBoundary key.start (ranges_of moved_log) x
  boundary-moved_log x b = subst (λ l. IsRangeBoundary key.start l x) ranges (boundary-append range_size key.start x (ranges_of log) (range ∷ []) b)

  stills : (lsns : List ℕ) → AllByRecursion (IsRangeBoundary key.start (ranges_of log)) lsns
      → AllByRecursion (IsRangeBoundary key.start (ranges_of moved_log)) lsns
  stills lsns = all-weaken (IsRangeBoundary key.start (ranges_of log)) (IsRangeBoundary key.start (ranges_of moved_log)) lsns boundary-moved_log

  module _ (new : AreNewParts from size to more) (quarter : size ≤ key.ring / 4) where
    nothing-there : unreleased_in from size log.parts ≡ 0
    nothing-there = unreleased_in-none_outside _ _ from size log.parts s.contiguous.parts (inl (le_refl _))

    laid : Laid key.start moved_log.parts to
    laid = laid-append _ _ _ log.parts more s.contiguous.parts new.laid

    remaining : AllByRecursion (CountsRemaining moved_log.parts) moved_log.ahead
    remaining = all-append (CountsRemaining moved_log.parts) log.ahead (range ∷ [])
        (tiles-within (CountsRemaining log.parts)
        (CountsRemaining moved_log.parts) _ _ _ log.ahead s.contiguous.to_tail s.contiguous.remaining (λ q counts least lo hi.
        unreleased_in-append q.base q.size log.parts more
        ∙ (ap (λ n. unreleased_in q.base q.size log.parts + n)
        (unreleased_in-none_outside from to q.base q.size more new.laid (inr hi)) ∙ (add-zero _ ∙ counts))))
        (unreleased_in-append from size log.parts more ∙ omega (arith, nothing-there, new.remain), tt)

    aligned : AllByRecursion (EndsWithPart key.start moved_log.parts) (ranges_of moved_log)
    aligned = subst (AllByRecursion (EndsWithPart key.start moved_log.parts)) ranges
        (all-append (EndsWithPart key.start moved_log.parts) (ranges_of log) (range ∷ [])
        (all-weaken (EndsWithPart key.start log.parts) (EndsWithPart key.start moved_log.parts) (ranges_of log)
        (λ r. boundary-append part_size key.start (r.base + r.size) log.parts more) s.contiguous.aligned)
        (subst (IsTilingBoundary part_size key.start moved_log.parts) (sym new.whole) (laid-end _ _ moved_log.parts laid), tt))

    contiguous : HasContiguousReservations key.start key.ring to words.exposed words.durable moved_log
    contiguous = record {
      to_durable = s.contiguous.to_durable;
      to_exposed = s.contiguous.to_exposed;
      to_tail = tiles-push _ _ _ _ log.ahead range s.contiguous.to_tail refl new.positive quarter new.whole;
      parts = laid;
      remaining = remaining;
      aligned = aligned;
    }

    -- a part with no unit changes nothing for the flusher's seat
    agrees : (base : ℕ) (units : List ℕ) → AllByRecursion (AgreesFrom base units) log.parts
        → AllByRecursion (AgreesFrom base units) moved_log.parts
    agrees base units old = all-append (AgreesFrom base units) log.parts more old
        (all-weaken IsEmptyPart (AgreesFrom base units) more
        (λ p e i below _ _. absurd (omega (arith, below, ap length e.no_units))) new.empty)

    sends : (z : View) → SendsIfFlusher key.start words.exposed words.durable log z
        → SendsIfFlusher key.start words.exposed words.durable moved_log z
    sends z old f = let o = old f in record {
      sent_to = o.sent_to;
      read_to = o.read_to;
      loaded_seen = o.loaded_seen;
      boundary = boundary-moved_log z.sending.exposed o.boundary;
      sent_agrees = agrees key.start z.sending.sent o.sent_agrees;
      read_agrees = agrees words.durable z.sending.read o.read_agrees;
    }

    module _ (within_log : to ≤ LAST) (within_ring : to ≤ words.durable + key.ring) (unreleased : is_released duty ≡ false)
        (carries : (place : ℕ) → Carries place v.call → ⊥) (ends : HasTrueEnds key.start words.exposed moved_log call)
        (work : AllByRecursion (IsAtWork groups) moved_log.ahead)
        (slots : (slot : ℕ) → IsSoundSlot (key.ring / 4) (words.slot slot) (words.base slot) slot moved_log.ahead (groups slot))
        (owners : EachSeat (HasWorkingOwner groups moved_log.parts moved_log.ahead) (set views me moved_view))
        (accounts : KeepsAccounts (base_of key) words.account (history_in key moved_log.parts)
        (map (books_of groups) (set views me moved_view)))
        (in_group : (slot : ℕ) → HasSeenInGroup key.start key.ring to words.durable (ranges_of moved_log) (groups slot))
        (loads : EachView (λ _ z. LoadsForGroup groups z.seen z.call) (set views me moved_view)) (awaits : AwaitsPlace call books)
        (totals : EachView (λ _ z. (slot : ℕ) → HasTotalOfWorkers (groups slot) z) views) where
      at-work-on : duty ≡ Released → ⊥
      at-work-on done = true≢false (sym (ap is_released done) ∙ unreleased)

      pub tail_move-sound : IsSound key (record words { tail = to }) (set views me moved_view) moved_log
      tail_move-sound = record {
        ordered = record {
          least_ring = s.ordered.least_ring;
          greatest_ring = s.ordered.greatest_ring;
          within_ring = within_ring;
          within_log = within_log;
        };
        seen = each_view-set_weaken (λ _ z. HasSeenBoundaries key.start from words.exposed words.durable (ranges_of log) z.seen)
            (λ _ z. HasSeenBoundaries key.start to words.exposed words.durable (ranges_of moved_log) z.seen) views me moved_view s.seen
            (let old = s.seen me v at in
            record {
              tail_seen = le_refl _;
              exposed_seen = old.exposed_seen;
              durable_seen = old.durable_seen;
              boundaries = (tail-boundary _ _ _ _ _ moved_log contiguous, stills v.seen.lsns old.boundaries);
            })
            (λ _ z _ _ old. record {
              tail_seen = omega (arith, old.tail_seen, new.whole);
              exposed_seen = old.exposed_seen;
              durable_seen = old.durable_seen;
              boundaries = stills z.seen.lsns old.boundaries;
            });
        contiguous = contiguous;
        filled = record {
          spelled = all-append SpellsRecord log.parts more s.filled.spelled new.spelled;
          stands = all-append (StandsInRing key.ring words.durable words.ring) log.parts more s.filled.stands
              (all-weaken IsEmptyPart (StandsInRing key.ring words.durable words.ring) more
              (λ p e i below _. absurd (omega (arith, below, ap length e.no_units))) new.empty);
        };
        below = record {
          full = all-append IsFullIfReleased log.parts more s.below.full
              (all-weaken IsEmptyPart IsFullIfReleased more (λ p e done. absurd (true≢false (sym done ∙ e.unreleased))) new.empty);
          below = all-append (IsReleasedBelow words.exposed) log.parts more s.below.below
              (above-exposed words.exposed from to more new.laid (tiles-le _ _ _ log.ahead s.contiguous.to_tail));
          ranges = s.below.ranges;
        };
        at_work = work;
        slots = slots;
        marks = record {
          current = λ place lo hi. ⊎_elim (λ low. inl low)
              (λ ready. inr (ready_in-append place (words.mark (place % key.ring)) log.ahead (range ∷ []) ready)) (s.marks.current place lo hi);
          true_marks = subst (AllByRecursion (HasTrueMark key.ring words.mark)) ranges
              (all-append (HasTrueMark key.ring words.mark) (ranges_of log) (range ∷ []) s.marks.true_marks
              ((λ done. absurd (at-work-on done)), tt));
          below_tail = λ index. omega (arith, s.marks.below_tail index, new.whole);
        };
        carried = λ first. carrier-set words.exposed views me v moved_view at (λ c. absurd (carries words.exposed c))
            (s.carried (first_released-front log.ahead range at-work-on first));
        ends = each_view-set_weaken (λ _ z. HasTrueEnds key.start words.exposed log z.call)
            (λ _ z. HasTrueEnds key.start words.exposed moved_log z.call)
            views me moved_view s.ends ends
            (λ _ z _ _. true_ends-log_changes key.start words.exposed log moved_log z.call boundary-moved_log (λ end. first_ends-append log.ahead (range ∷ []) end));
        owners = owners;
        constants = each_view-set (λ _ z. HasConstants key z) views me moved_view s.constants (s.constants me v at);
        resting = each_view-set (λ _ z. RestsUnlessActive z) views me moved_view s.resting (λ off. absurd (on-duty off));
        entries = each_view-set (λ _ z. OwnsIfWorker z) views me moved_view s.entries (s.entries me v at);
        roles = crew-set_same words.crew views me v moved_view s.roles at refl;
        sends = each_view-set_weaken (λ _ z. SendsIfFlusher key.start words.exposed words.durable log z)
            (λ _ z. SendsIfFlusher key.start words.exposed words.durable moved_log z) views me moved_view s.sends
            (sends v (s.sends me v at))
            (λ _ z _ _. sends z);
        stops = each_view-set (λ _ z. StoresStop words.stop z) views me moved_view s.stops (s.stops me v at);
        read_stop = each_view-set (λ _ z. HasReadStop words.stop z) views me moved_view s.read_stop (s.read_stop me v at);
        quiet = rests_if_quiet-set views me v moved_view s.quiet at (λ _ _ _ h. h) (λ _ h. h);
        looked = each_view-set (λ _ z. LookedIfQuiet words.exposed z) views me moved_view s.looked (s.looked me v at);
        unheld = each_view-set (λ _ z. HoldsIfActive z) views me moved_view s.unheld
            ((λ off. absurd (on-duty off)), (λ off. absurd (true≢false (sym (ap may_own active) ∙ off))));
        accounts = accounts;
        in_group = in_group;
        loads = loads;
        awaits = each_view-set (λ _ z. AwaitsPlace z.call z.books) views me moved_view s.awaits awaits;
        totals = each_view-set (λ _ z. (slot : ℕ) → HasTotalOfWorkers (groups slot) z) views me moved_view totals (totals me v at);
        heard = heard_of_workers-set_same views me v moved_view s.heard at refl refl;
        lasts = each_view-set (λ _ z. HasSeenLast z) views me moved_view s.lasts
            (λ unspent. (seen_tail-keeps_seen key.start key.ring to words.durable (ranges_of moved_log) groups v.seen in_group).last
            (s.lasts me v at unspent));
      }

      -- the machine has one reservation more, with no unit filled
      pub reservations-more : map (reservation_of moved_log.parts) (ranges_of moved_log)
          ≡ map (reservation_of log.parts) (ranges_of log) ++ fresh from size ∷ []
      reservations-more = ap (map (reservation_of moved_log.parts)) (sym ranges)
          ∙ (map-append (reservation_of moved_log.parts) (ranges_of log) (range ∷ [])
          ∙ (λ i. reservation_of-same_filled log.parts moved_log.parts (ranges_of log) none-more i
          ++ record { base = from; size = size; filled = unfilled i; released = unreleased i } ∷ []))
        where
          none-more : (base n : ℕ) → filled_in base n moved_log.parts ≡ filled_in base n log.parts
          none-more base n = omega (arith, filled_in-append base n log.parts more, empty-unfilled base n more new.empty)

          unfilled : filled_in from size moved_log.parts ≡ 0
          unfilled = none-more from size ∙ filled_in-apart _ _ from size log.parts s.contiguous.parts (inl (le_refl _))

-- whatever the exchange finds: it is made, with this event, or lost
pub tail_exchange-step : (key : Start) (me : ℕ) (v : View) (from to : ℕ) (new : View) (event : Event) → exchanged from to v v.call ≡ new
    → IsStep key me Tail from to v new event → (n : ℕ)
    → IsStep key me Tail n (either (eqb n from) to n) v (after_exchange from to n v) (cond (n == from) event none)
tail_exchange-step key me v from to new event is made n = dite (ℕ_discrete n from)
    (λ same. subst (λ (b : Bool). IsStep key me Tail n (either b to n) v (cond b (exchanged from to v v.call) (lost_exchange n v))
    (cond b event none))
    (sym (eq-eqb n from same))
    (subst (λ (p : ℕ × View). IsStep key me Tail p.0 to v p.1 event) (λ i. (sym same i, sym is i)) made))
    (λ differ. subst (λ (b : Bool). IsStep key me Tail n (either b to n) v (cond b (exchanged from to v v.call) (lost_exchange n v))
    (cond b event none))
    (sym (ne_eqb n from differ)) (saw_tail_contended-step key me v (contended_losing v v.call) n))

-- one that is made leaves this view
pub after_exchange-made : (from to n : ℕ) (v new : View) → n ≡ from → exchanged from to v v.call ≡ new → after_exchange from to n v ≡ new
after_exchange-made from to n v new same is = ap (λ b. cond b (exchanged from to v v.call) (lost_exchange n v)) (eq-eqb n from same) ∙ is
