-- What follows a mark: exposed is loaded, and the mark there, and exposed is found to have moved.
use Rattle.std.proofs.Common.{◌≡◌, ◌≢◌, ◌⊎◌, ℕ, ◌==◌, ◌%◌, ◌<◌, ◌≤◌, nat_lt, cond, Bool, true, false, true≢false, lt-ltb, ltb-true, List, set, sym, refl, ap, ◌∙◌, subst, le_refl, arith, ne_eqb}
use Rattle.std.specs.Prelude.{is_some}
use mathlib.Core.Logic.{dite}
use mathlib.Core.Option.{some}
use native.Mathlib.Decide.{dec_lt}
use lib.ListN.{get_elem?}
use Rattle.lsn_space.specs.declared.lsn.TheConstants.{LAST}
use Rattle.ring_core.specs.RingLog.{is_marked, end_at}
use Rattle.ring_core.specs.State.{looks_at, raises_from, after_look as stage_after}
use Rattle.ring_core.specs.declared.stage.Stage.TheVariants as stage
use Rattle.slot_core.specs.State.{Marked as MarkedStage, Raises, Holds, Task, InRing, SlotState, with_task, task_of, ring_stage}
use Rattle.slot_core.specs.Machine.{turned, in_ring, after_look_mark, after_raise as machine-raise}
use Rattle.log_rule.specs.declared.start.Start.{Start}
use Rattle.log_rule.specs.declared.group_view.After.{After}
use Rattle.log_rule.specs.declared.group_view.After.TheVariants.{Nothing, Reopens}
use Rattle.log_rule.specs.declared.view.Call.{Call}
use Rattle.log_rule.specs.declared.view.Call.TheVariants.{Idle, Filling, Joined, Emptying, Marked, Holding, Raising, Reopening}
use Rattle.log_rule.specs.declared.view.Role.TheVariants.{Flusher}
use Rattle.log_rule.specs.declared.view.Books.{Books}
use Rattle.log_rule.specs.declared.view.Seen.{Seen}
use Rattle.log_rule.specs.declared.view.Sending.{Sending}
use Rattle.log_rule.specs.declared.view.View.{View}
use Rattle.log_rule.specs.Events.{Event, task_in, hands_of, slots_of, Leads, IsStep, look_event, looks_mark, raises, none}
use Rattle.log_rule.specs.Groups.{Group}
use Rattle.log_rule.specs.GroupViews.{slot_after, call_after}
use Rattle.table_layout.specs.Layout.{Exposed, Mark}
use Rattle.log_rule.specs.Log.{Log, ranges_of}
use Rattle.log_rule.specs.Marks.{IsFirstReleased, FirstEnds, Carries, IsPassed, HasTrueEnds}
use Rattle.log_rule.specs.MarkViews.{in_hand, next_raise, call_with_mark, seen_mark, saw_mark}
use Rattle.log_rule.specs.May.{MayLookMark, MayRaise}
use Rattle.log_rule.specs.Members.{LoadsForGroup, AwaitsPlace}
use Rattle.log_rule.specs.Roles.{is_active}
use Rattle.log_rule.specs.Sound.{HasSeenBoundaries, HasContiguousReservations, StoresStop, HasReadStop, IsSound}
use Rattle.log_rule.specs.Views.{after_look, seen_exposed, saw_exposed}
use Rattle.log_rule.specs.Words.{Words}
use Rattle.log_rule.proofs.AccountsKept.{same_books-keeps_accounts}
use Rattle.log_rule.proofs.Lifting.{Tells}
use Rattle.log_rule.proofs.Loads.{change_sending-leads, exposed-boundary}
use Rattle.log_rule.proofs.MarkLooks.{mark_above-first_ready, is_marked-mark_above, mark_not_above-at_exposed}
use Rattle.log_rule.proofs.Members.{KeepsSeen, one_step_more-keeps_seen, seen_exposed-keeps_seen, keeps-view}
use Rattle.log_rule.proofs.Reading.{put-same_value}
use Rattle.log_rule.proofs.Roles.{HasSame, crew-set_same, rests_if_quiet-set, change_view-sound}
use Rattle.log_rule.proofs.MachineShown.{hands_of-set, task_of-hands_of}
use Rattle.log_rule.proofs.TrueMarks.{first_ready-first_ends}
use Rattle.log_rule.proofs.ViewChanges.{each_view-set}

-- the calls of exposing have nothing of the log, and what they have at the slots stays
module _ (groups : ℕ → Group) (seat : ℕ) where
  marked-holds : (at : ℕ) (after : After) → HasSame groups seat (Marked after) (Holding at after)
  marked-holds at after = record { entries = refl; claims = refl; books = λ _. refl; pieces = λ _. refl; phases = λ _. refl; knows = λ known. known }

  holding-raises : (at to : ℕ) (after : After) → HasSame groups seat (Holding at after) (Raising at to after)
  holding-raises at to after = record { entries = refl; claims = refl; books = λ _. refl; pieces = λ _. refl; phases = λ _. refl; knows = λ known. known }

  holding-ends : (at : ℕ) (after : After) → HasSame groups seat (Holding at after) (call_after after)
  holding-ends at Nothing = record { entries = refl; claims = refl; books = λ _. refl; pieces = λ _. refl; phases = λ _. refl; knows = λ known. known }
  holding-ends at (Reopens slot) = record { entries = refl; claims = refl; books = λ _. refl; pieces = λ _. refl; phases = λ _. refl; knows = λ known. known }

  raising-holds : (from to at : ℕ) (after : After) → HasSame groups seat (Raising from to after) (Holding at after)
  raising-holds from to at after = record { entries = refl; claims = refl; books = λ _. refl; pieces = λ _. refl; phases = λ _. refl; knows = λ known. known }

ends-after : (start exposed : ℕ) (log : Log) (after : After) → HasTrueEnds start exposed log (call_after after)
ends-after start exposed log Nothing = tt
ends-after start exposed log (Reopens slot) = tt

loads-after : (groups : ℕ → Group) (seen : Seen) (after : After) → LoadsForGroup groups seen (call_after after)
loads-after groups seen Nothing = tt
loads-after groups seen (Reopens slot) = tt

awaits-after : (books : Books) (after : After) → AwaitsPlace (call_after after) books
awaits-after books Nothing = tt
awaits-after books (Reopens slot) = tt

task-after : (after : After) → task_in (call_after after) ≡ InRing (slot_after after) stage.Idle
task-after Nothing = refl
task-after (Reopens slot) = refl

-- a seat that has something under way turns to another call that has of the log and at the slots what this one has
module _ (key : Start) (words : Words) (views : List View) (me : ℕ) (v : View) (log : Log) (s : IsSound key words views log)
    (at : get_elem? views me ≡ some v) (busy : v.call ≡ Idle → ⊥) where
  active-only : is_active v.standing.role ≡ false → ⊥
  active-only off = busy (s.resting me v at off)

  not-flusher : v.standing.role ≡ Flusher → ⊥
  not-flusher f = active-only (ap is_active f)

  pub change_call-sound : (seen : Seen) (call : Call) (sending : Sending) → HasSame log.groups me v.call call
      → (IsFirstReleased log.ahead → Carries words.exposed v.call → Carries words.exposed call)
      → HasTrueEnds key.start words.exposed log call
      → HasSeenBoundaries key.start words.tail words.exposed words.durable (ranges_of log) seen → seen.stop ≡ v.seen.stop
      → LoadsForGroup log.groups seen call → AwaitsPlace call v.books → KeepsSeen log.groups v.seen seen
      → IsSound key words (set views me (record v { seen = seen; call = call; sending = sending })) log
  change_call-sound seen call sending same carries ends sees read loads awaits keeps =
      change_view-sound key words words.stop words.crew words.account views me v new log s at same carries ends refl
      sees (s.constants me v at) (λ off. absurd (active-only off)) (s.entries me v at) (crew-set_same words.crew views me v new s.roles at refl)
      (λ f. absurd (not-flusher f)) (each_view-set (λ _ z. StoresStop words.stop z) views me new s.stops (λ f. absurd (not-flusher f)))
      (each_view-set (λ _ z. HasReadStop words.stop z) views me new s.read_stop
      (subst (λ n. (n ≡ 0) ⊎ (n ≡ words.stop)) (sym read) (s.read_stop me v at)))
      (rests_if_quiet-set views me v new s.quiet at (λ _ _ _ _ f. absurd (not-flusher f)) (λ _ h. h)) (λ f. absurd (not-flusher f)) (s.unheld me v at)
      (same_books-keeps_accounts key words.account log.parts log.groups views me v new at (same.books v.books) s.accounts)
      (keeps-view key words views me v log s at new refl keeps loads awaits)
    where
      new : View
      new = record v { seen = seen; call = call; sending = sending }

module _ (key : Start) (words : Words) (views : List View) (me : ℕ) (v : View) (log : Log) (s : IsSound key words views log)
    (at : get_elem? views me ≡ some v) where
  -- exposed is seen, as it is
  pub seen_exposed-boundaries : HasSeenBoundaries key.start words.tail words.exposed words.durable (ranges_of log) (seen_exposed words.exposed v.seen)
  seen_exposed-boundaries = let old = s.seen me v at in record {
    tail_seen = old.tail_seen;
    exposed_seen = le_refl _;
    durable_seen = old.durable_seen;
    boundaries = (exposed-boundary _ _ _ _ _ log s.contiguous, old.boundaries);
  }

-- in the machine's state one actor turns to another task
pub slots_of-turned : (key : Start) (words : Words) (views : List View) (me : ℕ) (v new : View) (log : Log) (task : Task) → get_elem? views me ≡ some v
    → task_in new.call ≡ task → slots_of key words (set views me new) log ≡ turned (slots_of key words views log) me task
slots_of-turned key words views me v new log task at is i = record (slots_of key words views log) {
  hands = (hands_of-set 0 me me views v new (omega arith) at ∙ ap (λ t. with_task me t (hands_of 0 views)) is) i;
}

-- exposed has passed itself
passed-now : (key : Start) (words : Words) (log : Log) → HasContiguousReservations key.start key.ring words.tail words.exposed words.durable log
    → IsPassed key.start words.exposed log words.exposed
passed-now key words log c = record { boundary = exposed-boundary _ _ _ _ _ log c; passed = le_refl _ }

module _ (key : Start) (me : ℕ) (v : View) where
  -- a load of exposed, where the seat has made no mark just now
  stays : (words : Words) (views : List View) (log : Log) → IsSound key words views log → get_elem? views me ≡ some v
      → after_look words.exposed v.call ≡ v.call → look_event me v.call ≡ none
      → Leads key words words views (set views me (saw_exposed words.exposed v)) log (look_event me v.call)
  stays words views log s at kept quiet =
      let boundary = exposed-boundary _ _ _ _ _ log s.contiguous in
      let sending : Sending = record v.sending { exposed = words.exposed; looked = true } in
      let new : View = record v { seen = seen_exposed words.exposed v.seen; sending = sending } in
      subst (λ (p : Call × Event). Leads key words words views
      (set views me (record v { seen = seen_exposed words.exposed v.seen; call = p.0; sending = record v.sending { exposed = words.exposed; looked = true } })) log p.1)
      (λ i. (sym kept i, sym quiet i))
      (change_sending-leads key words words.stop views me v log (seen_exposed words.exposed v.seen) (record v.sending { exposed = words.exposed; looked = true }) s at
      (seen_exposed-boundaries key words views me v log s at) (λ f. let sends = s.sends me v at f in record {
        sent_to = sends.sent_to;
        read_to = omega (arith, sends.read_to, sends.loaded_seen);
        loaded_seen = le_refl _;
        boundary = boundary;
        sent_agrees = sends.sent_agrees;
        read_agrees = sends.read_agrees;
      }) (each_view-set (λ _ z. StoresStop words.stop z) views me new s.stops (s.stops me v at))
      (each_view-set (λ _ z. HasReadStop words.stop z) views me new s.read_stop (s.read_stop me v at)) (λ _ _ _ h. h)
      (λ _ _ _. refl) (seen_exposed-keeps_seen log.groups words.exposed v.seen))

  -- to the machine the seat has just made a mark
  marked-is : (views : List View) (after : After) → get_elem? views me ≡ some v → v.call ≡ Marked after
      → task_of me (hands_of 0 views) ≡ InRing (slot_after after) MarkedStage
  marked-is views after at is = task_of-hands_of 0 me me views v (omega arith) at ∙ ap task_in is

  -- after a mark just made
  takes : (words : Words) (views : List View) (log : Log) (after : After) → IsSound key words views log → get_elem? views me ≡ some v → v.call ≡ Marked after
      → Leads key words words views (set views me (saw_exposed words.exposed v)) log (look_event me v.call)
  takes words views log after s at is = subst (λ (p : Call × Event). Leads key words words views
      (set views me (record v { seen = seen_exposed words.exposed v.seen; call = p.0; sending = record v.sending { exposed = words.exposed; looked = true } })) log p.1)
      (λ i. (sym (ap (after_look words.exposed) is) i, sym (ap (look_event me) is) i)) record {
        after = log;
        sound = change_call-sound key words views me v log s at (λ idle. let gone : Marked after ≡ Idle = sym is ∙ idle in cc)
            (seen_exposed words.exposed v.seen) (Holding words.exposed after) (record v.sending { exposed = words.exposed; looked = true })
            (subst (λ call. HasSame log.groups me call (Holding words.exposed after)) (sym is) (marked-holds log.groups me words.exposed after))
            (λ _ _. refl) (passed-now key words log s.contiguous) (seen_exposed-boundaries key words views me v log s at) refl
            tt tt (seen_exposed-keeps_seen log.groups words.exposed v.seen);
        shows = (
          ap ring_stage (marked-is views after at is),
          slots_of-turned key words views me v
              (record v { seen = seen_exposed words.exposed v.seen; call = Holding words.exposed after; sending = record v.sending { exposed = words.exposed; looked = true } })
              log (InRing (slot_after after) (Holds words.exposed)) at refl
              ∙ ap (λ task. turned (slots_of key words views log) me (in_ring (Holds words.exposed) task)) (sym (marked-is views after at is)),
        );
      }

  pub saw_exposed-step : (n : ℕ) → IsStep key me Exposed n n v (saw_exposed n v) (look_event me v.call)
  saw_exposed-step n = record {
    leads = λ words views log s at is. subst
        (λ x. Leads key words (record words { exposed = x }) views (set views me (saw_exposed x v)) log (look_event me v.call)) is
        (by_call words views log s at v.call refl);
  }
    where
      by_call : (words : Words) (views : List View) (log : Log) → IsSound key words views log → get_elem? views me ≡ some v → (call : Call)
          → v.call ≡ call → Leads key words words views (set views me (saw_exposed words.exposed v)) log (look_event me v.call)
      by_call words views log s at Idle is = stays words views log s at (ap (after_look words.exposed) is ∙ sym is) (ap (look_event me) is)
      by_call words views log s at (Filling entry) is = stays words views log s at (ap (after_look words.exposed) is ∙ sym is) (ap (look_event me) is)
      by_call words views log s at (Joined slot piece step) is =
          stays words views log s at (ap (after_look words.exposed) is ∙ sym is) (ap (look_event me) is)
      by_call words views log s at (Emptying slot base total) is =
          stays words views log s at (ap (after_look words.exposed) is ∙ sym is) (ap (look_event me) is)
      by_call words views log s at (Reopening slot) is = stays words views log s at (ap (after_look words.exposed) is ∙ sym is) (ap (look_event me) is)
      by_call words views log s at (Marked after) is = takes words views log after s at is
      by_call words views log s at (Holding e after) is = stays words views log s at (ap (after_look words.exposed) is ∙ sym is) (ap (look_event me) is)
      by_call words views log s at (Raising from to after) is = stays words views log s at (ap (after_look words.exposed) is ∙ sym is) (ap (look_event me) is)

-- the mark at the LSN in hand is loaded
module _ (key : Start) (words : Words) (views : List View) (me : ℕ) (v : View) (base : ℕ) (log : Log) (s : IsSound key words views log)
    (at : get_elem? views me ≡ some v) (may : MayLookMark base v) where
  abbrev found : ℕ
  found = words.mark (base % key.ring)

  abbrev seen : Seen
  seen = seen_mark base found v.seen

  abbrev old_state : SlotState
  old_state = slots_of key words views log

  passed : IsPassed key.start words.exposed log base
  passed = subst (HasTrueEnds key.start words.exposed log) may.holding (s.ends me v at)

  sees : HasSeenBoundaries key.start words.tail words.exposed words.durable (ranges_of log) seen
  sees = let old = s.seen me v at in
      record { tail_seen = old.tail_seen; exposed_seen = old.exposed_seen; durable_seen = old.durable_seen; boundaries = old.boundaries }

  turns : (call : Call) → HasSame log.groups me (Holding base may.after) call → (IsFirstReleased log.ahead → base ≡ words.exposed → Carries words.exposed call)
      → HasTrueEnds key.start words.exposed log call → LoadsForGroup log.groups seen call → AwaitsPlace call v.books
      → IsSound key words (set views me (record v { seen = seen; call = call })) log
  turns call same carries ends loads awaits =
      change_call-sound key words views me v log s at (λ idle. let gone : Holding base may.after ≡ Idle = sym may.holding ∙ idle in cc)
      seen call v.sending (subst (λ old. HasSame log.groups me old call) (sym may.holding) same) (λ first c. carries first (subst (Carries words.exposed) may.holding c)) ends sees refl
      loads awaits (one_step_more-keeps_seen log.groups v.seen seen refl refl refl refl refl refl refl)

  sound : IsSound key words (set views me (record v { seen = seen; call = next_raise base found may.after })) log
  sound = by_test (nat_lt base found) refl
    where
      by_test : (b : Bool) → nat_lt base found ≡ b
          → IsSound key words (set views me (record v { seen = seen; call = cond b (Raising base found may.after) (call_after may.after) })) log
      by_test true high = turns (Raising base found may.after) (holding-raises log.groups me base found may.after) (λ _ c. c) (
        passed,
        λ here. subst (FirstEnds log.ahead) (ap (λ n. words.mark (n % key.ring)) (sym here))
            (first_ready-first_ends words.exposed (words.mark (words.exposed % key.ring)) log.ahead
            (mark_above-first_ready key words views log s (subst (λ n. n < words.mark (n % key.ring)) here (ltb-true base found high)))),
      ) tt tt
      by_test false low = turns (call_after may.after) (holding-ends log.groups me base may.after)
          (λ first _. absurd ((mark_not_above-at_exposed key words views log s base passed below).1 first)) (ends-after key.start words.exposed log may.after)
          (loads-after log.groups seen may.after) (awaits-after v.books may.after)
        where
          below : found ≤ base
          below = dite (dec_lt base found) (λ lt. absurd (true≢false (sym (lt-ltb base found lt) ∙ low))) (λ ge. omega (arith, ge))

  task-is : task_of me (hands_of 0 views) ≡ InRing (slot_after may.after) (Holds base)
  task-is = task_of-hands_of 0 me me views v (omega arith) at ∙ ap task_in may.holding

  next-task : task_in (next_raise base found may.after) ≡ InRing (slot_after may.after) (stage_after base (is_marked base old_state.log.reservations))
  next-task = by_test (nat_lt base found)
      ∙ ap (λ b. InRing (slot_after may.after) (stage_after base b)) (sym (is_marked-mark_above key words views log s base passed))
    where
      by_test : (b : Bool) → task_in (cond b (Raising base found may.after) (call_after may.after)) ≡ InRing (slot_after may.after) (stage_after base b)
      by_test true = refl
      by_test false = task-after may.after

  pub look_mark-leads : Leads key words words views (set views me (record v { seen = seen; call = next_raise base found may.after })) log (looks_mark me)
  look_mark-leads = record {
    after = log;
    sound = sound;
    shows = (
      ap (λ task. is_some (looks_at (ring_stage task))) task-is,
      slots_of-turned key words views me v (record v { seen = seen; call = next_raise base found may.after }) log
          (InRing (slot_after may.after) (stage_after base (is_marked base old_state.log.reservations))) at next-task
          ∙ ap (λ task. after_look_mark old_state me task (looks_at (ring_stage task))) (sym task-is),
    );
  }

module _ (key : Start) (me : ℕ) (v : View) (base ring : ℕ) (same : key.ring ≡ ring) (may : MayLookMark base v) where
  pub look-step : (n : ℕ) → IsStep key me (Mark (base % ring)) n n v (saw_mark n v) (looks_mark me)
  look-step n = record {
    leads = λ words views log s at is.
        let found : words.mark (base % key.ring) ≡ n = ap (λ r. words.mark (base % r)) same ∙ is in
        let call : next_raise base (words.mark (base % key.ring)) may.after ≡ call_with_mark n v.call =
        ap (λ m. next_raise base m may.after) found ∙ sym (ap (call_with_mark n) may.holding) in
        subst (λ (f : ℕ → ℕ). Leads key words (record words { mark = f }) views (set views me (saw_mark n v)) log (looks_mark me))
        (λ i k. sym (put-same_value words.mark (base % ring) n k is) i)
        (subst (λ (p : ℕ × ℕ × Call). Leads key words words views (set views me (record v { seen = seen_mark p.0 p.1 v.seen; call = p.2 })) log (looks_mark me))
        (λ i. (sym (ap in_hand may.holding) i, found i, call i)) (look_mark-leads key words views me v base log s at may));
  }

  pub mark-tells_le_last : Tells key me (Mark (base % ring)) v (λ n. n ≤ LAST)
  mark-tells_le_last words views log s at = omega (arith, s.marks.below_tail (base % ring), s.ordered.within_log)

-- exposed has moved: the exchange is lost, and what was found is in hand
module _ (key : Start) (words : Words) (views : List View) (me : ℕ) (v : View) (from to : ℕ) (log : Log) (s : IsSound key words views log)
    (at : get_elem? views me ≡ some v) (may : MayRaise from to v) (differ : words.exposed ≢ from) where
  abbrev new : View
  new = record v { seen = seen_exposed words.exposed v.seen; call = Holding words.exposed may.after }

  abbrev was : SlotState
  was = slots_of key words views log

  raises-from : task_of me (hands_of 0 views) ≡ InRing (slot_after may.after) (Raises from)
  raises-from = task_of-hands_of 0 me me views v (omega arith) at ∙ ap task_in may.raising

  moved : words.exposed ≡ cond (words.exposed == from) (end_at from was.log.reservations) words.exposed
  moved = sym (ap (λ b. cond b (end_at from was.log.reservations) words.exposed) (ne_eqb words.exposed from differ))

  pub missed_raise-leads : Leads key words words views (set views me new) log (raises me)
  missed_raise-leads = record {
    after = log;
    sound = change_call-sound key words views me v log s at (λ idle. let gone : Raising from to may.after ≡ Idle = sym may.raising ∙ idle in cc)
        (seen_exposed words.exposed v.seen) (Holding words.exposed may.after) v.sending
        (subst (λ call. HasSame log.groups me call (Holding words.exposed may.after)) (sym may.raising)
        (raising-holds log.groups me from to words.exposed may.after)) (λ _ _. refl) (passed-now key words log s.contiguous)
        (seen_exposed-boundaries key words views me v log s at) refl tt tt (seen_exposed-keeps_seen log.groups words.exposed v.seen);
    shows = (
      ap (λ task. is_some (raises_from (ring_stage task))) raises-from,
      slots_of-turned key words views me v new log (InRing (slot_after may.after) (Holds words.exposed)) at refl
          ∙ ((λ i. record was { log = record was.log { exposed = moved i }; hands = with_task me (InRing (slot_after may.after) (Holds (moved i))) was.hands })
          ∙ ap (λ task. machine-raise was me task (raises_from (ring_stage task))) (sym raises-from)),
    );
  }
