-- The store of durable: the machine's Flushed.
use Rattle.std.proofs.Common.{◌≡◌, inl, inr, ⊎_elim, ℕ, ◌+◌, ◌/◌, ◌≤◌, List, [], ◌∷◌, ◌++◌, length, map, set, sym, refl, ap, ◌∙◌, subst, le_refl, arith, append_assoc, length-append}
use Rattle.std.specs.List.{AllByRecursion}
use mathlib.Core.Option.{some}
use lib.ListN.{get_elem?}
use Rattle.lsn_space.specs.Tiling.{IsTilingBoundary}
use Rattle.lsn_space.proofs.TilingLemmas.{all-weaken, all-both}
use Rattle.ring_core.specs.RingLog.{size_of}
use Rattle.slot_core.specs.State.{SlotState}
use Rattle.log_rule.specs.declared.start.Start.{Start}
use Rattle.log_rule.specs.declared.view.Constants.{Constants}
use Rattle.log_rule.specs.declared.view.Role.TheVariants.{Flusher}
use Rattle.log_rule.specs.declared.view.View.{View}
use Rattle.log_rule.specs.Events.{reservation_of, slots_of, IsStep, Leads, flushes}
use Rattle.table_layout.specs.Layout.{Durable}
use Rattle.log_rule.specs.Log.{Part, LogRange, Log, ranges_of, StandsInRing, AgreesFrom, EndsWithPart, IsReleased, IsRangeBoundary}
use Rattle.log_rule.specs.Marks.{HasTrueMark, HasTrueEnds}
use Rattle.log_rule.specs.May.{MaySend}
use Rattle.log_rule.specs.Members.{HasSeenInGroup, LoadsForGroup, AwaitsPlace, HasTotalOfWorkers, HasSeenLast}
use Rattle.log_rule.specs.Sound.{HasSeenBoundaries, HasContiguousReservations, SendsInsertedUnits, SendsIfFlusher, StoresStop, HasReadStop}
use Rattle.log_rule.specs.Sound.{LookedIfQuiet, HasWorkingOwner, HasConstants, RestsUnlessActive, OwnsIfWorker, HoldsIfActive, IsSound}
use Rattle.log_rule.proofs.AccountsKept.{same_books-keeps_accounts}
use Rattle.log_rule.specs.Roles.{is_spent}
use Rattle.log_rule.specs.Views.{seen_durable, has_sent}
use Rattle.log_rule.specs.Words.{Words}
use Rattle.log_rule.proofs.AgreedUnits.{agrees-append}
use Rattle.log_rule.proofs.Boundaries.{Cut, boundary-split_right, boundary-split_left, tiles-cut_at_boundary}
use Rattle.log_rule.proofs.Carriers.{carrier-set, true_ends-log_changes}
use Rattle.log_rule.proofs.Members.{KeepsView, seen_durable-keeps_seen, keeps_seen-loads_for_group, seen_in_group-more, keeps-view}
use Rattle.log_rule.proofs.RangeLists.{tiles-append}
use Rattle.log_rule.proofs.Roles.{crew-set_same, rests_if_quiet-set, sole-flusher}
use Rattle.log_rule.proofs.MachineShown.{hands_of-set_same}
use Rattle.log_rule.proofs.ViewChanges.{each_view-set_weaken, each_view-set, each_seat-set, each_seat-at}

-- the machine's boundaries are those of the ranges
boundary-shown : (start at : ℕ) (parts : List Part) (ranges : List LogRange) → IsRangeBoundary start ranges at
    → IsTilingBoundary size_of start (map (reservation_of parts) ranges) at
boundary-shown start at parts [] b = b
boundary-shown start at parts (r ∷ rs) b = ⊎_elim (λ here. inl here) (λ later. inr (boundary-shown (start + r.size) at parts rs later)) b

module _ (key : Start) (words : Words) (views : List View) (me : ℕ) (v : View) (log : Log) (s : IsSound key words views log)
    (at : get_elem? views me ≡ some v) (flusher : v.standing.role ≡ Flusher) (to : ℕ) (read : to ≡ words.durable + length v.sending.read)
    (all : to ≡ v.sending.exposed) where
  abbrev new : View
  new = has_sent to v

  sends : SendsInsertedUnits key.start words.exposed words.durable log v.sending.exposed v.sending.sent v.sending.read
  sends = s.sends me v at flusher

  boundary : IsRangeBoundary key.start (ranges_of log) to
  boundary = subst (IsRangeBoundary key.start (ranges_of log)) (sym all) sends.boundary

  forward : words.durable ≤ to
  forward = omega (arith, read)

  below : to ≤ words.exposed
  below = omega (arith, all, sends.loaded_seen)

  -- what is sent now, and what is exposed behind it
  cut : Cut (key.ring / 4) words.durable to words.exposed log.exposed
  cut = tiles-cut_at_boundary (key.ring / 4) words.durable to words.exposed log.exposed s.contiguous.to_exposed
      (boundary-split_left _ _ _ to log.exposed log.ahead s.contiguous.to_exposed
      (boundary-split_right _ _ _ to log.flushed (log.exposed ++ log.ahead) s.contiguous.to_durable boundary forward) below)

  abbrev after : Log
  after = record { parts = log.parts; flushed = log.flushed ++ cut.before; exposed = cut.behind; ahead = log.ahead; groups = log.groups }

  same-ranges : ranges_of log ≡ ranges_of after
  same-ranges = ap (λ l. log.flushed ++ (l ++ log.ahead)) cut.split
      ∙ (ap (λ l. log.flushed ++ l) (append_assoc cut.before cut.behind log.ahead)
      ∙ sym (append_assoc log.flushed cut.before (cut.behind ++ log.ahead)))

  contiguous : HasContiguousReservations key.start key.ring words.tail words.exposed to after
  contiguous = record {
    to_durable = tiles-append _ _ _ _ log.flushed cut.before s.contiguous.to_durable cut.first;
    to_exposed = cut.second;
    to_tail = s.contiguous.to_tail;
    parts = s.contiguous.parts;
    remaining = s.contiguous.remaining;
    aligned = subst (AllByRecursion (EndsWithPart key.start log.parts)) same-ranges s.contiguous.aligned;
  }

  still : (lsns : List ℕ) → AllByRecursion (IsRangeBoundary key.start (ranges_of log)) lsns
      → AllByRecursion (IsRangeBoundary key.start (ranges_of after)) lsns
  still lsns = subst (λ l. AllByRecursion (IsRangeBoundary key.start l) lsns) same-ranges

  sent-is : key.start + length (v.sending.sent ++ v.sending.read) ≡ to
  sent-is = omega (arith, length-append v.sending.sent v.sending.read, sends.sent_to, read)

  sends-all : SendsInsertedUnits key.start words.exposed to after v.sending.exposed (v.sending.sent ++ v.sending.read) []
  sends-all = record {
    sent_to = sent-is;
    read_to = omega (arith, all);
    loaded_seen = sends.loaded_seen;
    boundary = subst (λ l. IsRangeBoundary key.start l v.sending.exposed) same-ranges sends.boundary;
    sent_agrees = all-both (AgreesFrom key.start v.sending.sent) (AgreesFrom words.durable v.sending.read)
        (AgreesFrom key.start (v.sending.sent ++ v.sending.read)) log.parts
        (λ p first second. agrees-append key.start v.sending.sent v.sending.read p first
        (subst (λ n. AgreesFrom n v.sending.read p) (sym sends.sent_to) second)) sends.sent_agrees sends.read_agrees;
    read_agrees = all-weaken (AgreesFrom key.start v.sending.sent) (AgreesFrom to []) log.parts
        (λ p _ i _ lo hi. absurd (omega (arith, lo, hi))) sends.sent_agrees;
  }

  kept : (z : View) → HasTrueEnds key.start words.exposed log z.call → HasTrueEnds key.start words.exposed after z.call
  kept z = true_ends-log_changes key.start words.exposed log after z.call (λ x. subst (λ l. IsRangeBoundary key.start l x) same-ranges) (λ _ e. e)

  in-groups : (slot : ℕ) → HasSeenInGroup key.start key.ring words.tail to (ranges_of after) (log.groups slot)
  in-groups slot = seen_in_group-more key.start key.ring words.tail words.tail words.durable to (ranges_of log) (ranges_of after) (le_refl _) forward
      (λ x. subst (λ l. IsRangeBoundary key.start l x) same-ranges) (log.groups slot) (s.in_group slot)

  view-kept : KeepsView log.groups views me new
  view-kept = let keeps = seen_durable-keeps_seen key.start key.ring words.tail to (ranges_of after) log.groups v.seen in-groups in
      keeps-view key words views me v log s at new refl keeps (keeps_seen-loads_for_group key words views me v log s at (seen_durable to v.seen) keeps) (s.awaits me v at)

  sound : IsSound key (record words { durable = to }) (set views me new) after
  sound = record {
    ordered = record {
      least_ring = s.ordered.least_ring;
      greatest_ring = s.ordered.greatest_ring;
      within_ring = omega (arith, forward, s.ordered.within_ring);
      within_log = s.ordered.within_log;
    };
    seen = each_view-set_weaken (λ _ z. HasSeenBoundaries key.start words.tail words.exposed words.durable (ranges_of log) z.seen)
        (λ _ z. HasSeenBoundaries key.start words.tail words.exposed to (ranges_of after) z.seen) views me new s.seen
        (let old = s.seen me v at in record {
          tail_seen = old.tail_seen;
          exposed_seen = old.exposed_seen;
          durable_seen = le_refl _;
          boundaries = still (to ∷ v.seen.lsns) (boundary, old.boundaries);
        })
        (λ _ z _ _ old. record {
          tail_seen = old.tail_seen;
          exposed_seen = old.exposed_seen;
          durable_seen = omega (arith, old.durable_seen, forward);
          boundaries = still z.seen.lsns old.boundaries;
        });
    contiguous = contiguous;
    filled = record {
      spelled = s.filled.spelled;
      stands = all-weaken (StandsInRing key.ring words.durable words.ring) (StandsInRing key.ring to words.ring) log.parts
          (λ p stands i lt lo. stands i lt (omega (arith, lo, forward))) s.filled.stands;
    };
    below = record {
      full = s.below.full;
      below = s.below.below;
      ranges = subst (AllByRecursion IsReleased)
          (ap (λ l. log.flushed ++ l) cut.split ∙ sym (append_assoc log.flushed cut.before cut.behind)) s.below.ranges;
    };
    at_work = s.at_work;
    slots = s.slots;
    marks = record {
      current = s.marks.current;
      true_marks = subst (AllByRecursion (HasTrueMark key.ring words.mark)) same-ranges s.marks.true_marks;
      below_tail = s.marks.below_tail;
    };
    carried = λ first. carrier-set words.exposed views me v new at (λ c. c) (s.carried first);
    ends = each_view-set_weaken (λ _ z. HasTrueEnds key.start words.exposed log z.call) (λ _ z. HasTrueEnds key.start words.exposed after z.call) views me new
        s.ends (kept v (s.ends me v at)) (λ _ z _ _. kept z);
    owners = each_seat-set (HasWorkingOwner log.groups log.parts log.ahead) views me v new at s.owners
        (let mine = each_seat-at (HasWorkingOwner log.groups log.parts log.ahead) views me v at s.owners in record {
          owns = mine.owns;
          owes = mine.owes;
          joins = mine.joins;
          leads = mine.leads;
          knows = mine.knows;
        });
    constants = each_view-set (λ _ z. HasConstants key z) views me new s.constants (s.constants me v at);
    resting = each_view-set (λ _ z. RestsUnlessActive z) views me new s.resting (s.resting me v at);
    entries = each_view-set (λ _ z. OwnsIfWorker z) views me new s.entries (s.entries me v at);
    roles = crew-set_same words.crew views me v new s.roles at refl;
    sends = each_view-set_weaken (λ _ z. SendsIfFlusher key.start words.exposed words.durable log z)
        (λ _ z. SendsIfFlusher key.start words.exposed to after z) views me new s.sends (λ _. sends-all)
        (λ j z differ there _ f. absurd (differ (sole-flusher words.crew views me v s.roles at flusher j z there f)));
    stops = each_view-set (λ _ z. StoresStop words.stop z) views me new s.stops (s.stops me v at);
    read_stop = each_view-set (λ _ z. HasReadStop words.stop z) views me new s.read_stop (s.read_stop me v at);
    quiet = rests_if_quiet-set views me v new s.quiet at (λ _ _ _ h. h) (λ _ h. h);
    looked = each_view-set (λ _ z. LookedIfQuiet words.exposed z) views me new s.looked (s.looked me v at);
    unheld = each_view-set (λ _ z. HoldsIfActive z) views me new s.unheld (s.unheld me v at);
    accounts = same_books-keeps_accounts key words.account log.parts log.groups views me v new at refl s.accounts;
    in_group = in-groups;
    loads = each_view-set (λ _ z. LoadsForGroup log.groups z.seen z.call) views me new s.loads view-kept.loads;
    awaits = each_view-set (λ _ z. AwaitsPlace z.call z.books) views me new s.awaits view-kept.awaits;
    totals = each_view-set (λ _ z. (slot : ℕ) → HasTotalOfWorkers (log.groups slot) z) views me new s.totals view-kept.totals;
    heard = view-kept.heard;
    lasts = each_view-set (λ _ z. HasSeenLast z) views me new s.lasts view-kept.last;
  }

  abbrev old_state : SlotState
  old_state = slots_of key words views log

  pub flush-leads : Leads key words (record words { durable = to }) views (set views me new) log (flushes to)
  flush-leads = record {
    after = after;
    sound = sound;
    shows = (
      record {
        forward = forward;
        exposed = below;
        boundary = boundary-shown key.start to log.parts (ranges_of log) boundary;
      },
      λ i. record old_state {
        log = record old_state.log { reservations = map (reservation_of log.parts) (sym same-ranges i); durable = to };
        hands = hands_of-set_same 0 me views v new at refl i;
      },
    );
  }

pub send-step : (key : Start) (me : ℕ) (v : View) (to : ℕ) → MaySend to v → (n : ℕ) → IsStep key me Durable n to v (has_sent to v) (flushes to)
send-step key me v to may n = record {
  leads = λ words views log s at is.
      let start : v.constants.start ≡ key.start = ap (λ (c : Constants). c.start) (s.constants me v at (ap is_spent may.flusher)) in
      flush-leads key words views me v log s at may.flusher to
      (omega (arith, may.read, start, (s.sends me v at may.flusher).sent_to)) may.all;
}
