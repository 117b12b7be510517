-- A leader stores the base of its group's range: the machine's PutBase. By the numbers that it loaded the group may have no room: then it stores
-- these, which is the machine's Place and PutBase in one.
use Rattle.std.proofs.Common.{◌≡◌, ⊎_elim, ℕ, ◌+◌, ◌/◌, ◌^◌, ◌<◌, ◌≤◌, ◌==◌, ◌&&◌, nat_le, leb-true, zero, suc, cond, Bool, true, false, true≢false}
use Rattle.std.proofs.Common.{List, [], ◌∷◌, set, get_or-set_same, sym, refl, ap, ◌∙◌, subst, arith, eq-eqb}
use Rattle.std.specs.Prelude.{IsSomeAnd}
use Rattle.std.specs.List.{AllByRecursion}
use mathlib.Core.Option.{some}
use lib.ListN.{get_elem?}
use Rattle.lsn_space.specs.declared.lsn.TheConstants.{LAST}
use Rattle.lsn_space.proofs.TilingLemmas.{all-both}
use Rattle.slot_core.specs.State.{Hand, Task, SlotState, Group as MachineGroup, empty_group as machine-empty, joined, row_of, task_of, with_task, membership, group, group_at}
use Rattle.slot_core.specs.Machine.{PutBase, IsMemberAt, MayPlace, closed_total, fits, after_place, after_lead, placed_group, next_phase}
use Rattle.slot_core.proofs.Hands.{task_of-with_task_self}
use Rattle.slot_parts.specs.declared.task.MemberStage.TheVariants as stage
use Rattle.ring_core.specs.RingLog.{reserved}
use Rattle.log_rule.specs.declared.group_view.MemberStep.TheVariants.{Places, Stores, Tells}
use Rattle.log_rule.specs.declared.start.Start.{Start}
use Rattle.log_rule.specs.declared.view.Call.{Call}
use Rattle.log_rule.specs.declared.view.Call.TheVariants.{Joined}
use Rattle.log_rule.specs.declared.view.Constants.{Constants}
use Rattle.log_rule.specs.declared.view.Role.TheVariants.{Active}
use Rattle.log_rule.specs.declared.view.View.{View}
use Rattle.log_rule.specs.Events.{task_in, group_shown, slots_of, Leads, IsStep, stores_base, refuses}
use Rattle.log_rule.specs.Groups.{Outcome, Granted, Refused, Piece, Member, Group, Closed, Placed, Ready, put_group}
use Rattle.table_layout.specs.Layout.{Base}
use Rattle.log_rule.specs.Log.{Log, ranges_of, IsRangeBoundary}
use Rattle.log_rule.specs.May.{MayStoreGranted, MayStoreRefused}
use Rattle.log_rule.specs.Members.{HadSeenUpTo, LacksRoom, HasOutcome, HasPhaseOutcome, LoadedSince, LoadsForGroup, AwaitsPlace}
use Rattle.log_rule.specs.Roles.{is_spent}
use Rattle.log_rule.specs.Slots.{PiecesTile, LiesWithin, sum_of, IsPlaced, IsClosed, IsReadyToTell}
use Rattle.log_rule.specs.SlotViews.{call_stored, stored_base}
use Rattle.log_rule.specs.Sound.{HasSeenBoundaries, IsSound}
use Rattle.log_rule.specs.Views.{counted}
use Rattle.log_rule.specs.Words.{Words, put}
use Rattle.log_rule.proofs.Filling.{put-at, put-other}
use Rattle.log_rule.proofs.Groups.{untold-placed, untold-closed}
use Rattle.log_rule.proofs.Lists.{all-among}
use Rattle.log_rule.proofs.Members.{KeepsMembers, one_step_more-keeps_seen, keeps_seen-keeps_members, total_of_workers-new_phase}
use Rattle.log_rule.proofs.RangeLists.{tiles-le}
use Rattle.log_rule.proofs.SlotLeading.{Leading, joined-active, phase_led-whole_phase, slot-is_at_phase, leader_step-sound, leader_step-leads}
use Rattle.log_rule.proofs.SlotShowing.{group-shown, slots_of-moved, length-groups_from}
use Rattle.log_rule.proofs.MachineShown.{task_of-hands_of}
use Rattle.log_rule.proofs.SlotChanges.{cond-same_slot, cond-other_slot}

granted-leads : (seat : ℕ) (piece : Piece) (total base : ℕ)
    → Leading seat piece (Stores total base) (Tells total (Granted base)) (Placed seat total (Granted base)) (Ready seat total (Granted base))
granted-leads seat piece total base = record {
  entry = refl;
  books = λ _. refl;
  leads = cond-same_slot seat (Ready seat total (Granted base) ∷ []);
  knows = tt;
  others = λ j differ. cond-other_slot seat j (Ready seat total (Granted base) ∷ []) differ ∙ sym (cond-other_slot seat j (Placed seat total (Granted base) ∷ []) differ);
  same = record { entry = λ _. refl; books = λ _ _. refl };
  untold = untold-placed seat total (Granted base);
  range = refl;
}

refused-leads : (seat : ℕ) (piece : Piece) (total closed tail durable : ℕ)
    → Leading seat piece (Places total closed) (Tells total (Refused tail durable)) (Closed seat total) (Ready seat total (Refused tail durable))
refused-leads seat piece total closed tail durable = record {
  entry = refl;
  books = λ _. refl;
  leads = cond-same_slot seat (Ready seat total (Refused tail durable) ∷ []);
  knows = tt;
  others = λ j differ. cond-other_slot seat j (Ready seat total (Refused tail durable) ∷ []) differ ∙ sym (cond-other_slot seat j (Closed seat total ∷ []) differ);
  same = record { entry = λ _. refl; books = λ _ _. refl };
  untold = untold-closed seat total;
  range = refl;
}

with-twice : (actor : ℕ) (first second : Task) (hands : List Hand)
    → with_task actor second (with_task actor first hands) ≡ with_task actor second hands
with-twice actor first second [] =
    ap (λ b. cond {A = List Hand} b (row_of actor second ∷ []) (row_of actor first ∷ with_task actor second [])) (eq-eqb actor actor refl)
with-twice actor first second (h ∷ hands) = by_test (h.actor == actor) refl (with-twice actor first second hands)
  where
    by_test : (b : Bool) → (h.actor == actor) ≡ b → with_task actor second (with_task actor first hands) ≡ with_task actor second hands
        → with_task actor second (cond b (row_of actor first ∷ hands) (h ∷ with_task actor first hands))
        ≡ cond b (row_of actor second ∷ hands) (h ∷ with_task actor second hands)
    by_test true is rest = ap (λ b. cond b (row_of actor second ∷ hands) (row_of actor first ∷ with_task actor second hands)) (eq-eqb actor actor refl)
    by_test false is rest = ap (λ b. cond b (row_of actor second ∷ with_task actor first hands) (h ∷ with_task actor second (with_task actor first hands))) is
        ∙ ap (λ l. h ∷ l) rest

set-twice : {A : Type 0} → (list : List A) (at : ℕ) (first second : A) → set (set list at first) at second ≡ set list at second
set-twice [] at first second = refl
set-twice (x ∷ xs) zero first second = refl
set-twice (x ∷ xs) (suc at) first second = ap (λ l. x ∷ l) (set-twice xs at first second)

le-not : (a b : ℕ) → b < a → nat_le a b ≡ false
le-not a b less = by_test (nat_le a b) refl
  where
    by_test : (t : Bool) → nat_le a b ≡ t → t ≡ false
    by_test true is = let least = leb-true a b is in absurd (omega arith)
    by_test false is = refl

-- pieces that tile lie within, and their sum is the whole
pub pieces_tile-sum_within : (from to total : ℕ) (members : List Member) → PiecesTile from members to → to ≤ total
    → (from + sum_of members ≡ to) × AllByRecursion (LiesWithin total) members
pieces_tile-sum_within from to total [] tiles within = (omega (arith, tiles), tt)
pieces_tile-sum_within from to total (m ∷ ms) tiles within = let rest = pieces_tile-sum_within (from + m.piece.size) to total ms tiles.2 within in
    (omega (arith, rest.0), ((tiles.1, omega (arith, tiles.0, rest.0, within)), rest.1))

module _ (key : Start) (words : Words) (views : List View) (me : ℕ) (v : View) (slot word : ℕ) (log : Log) (s : IsSound key words views log)
    (at : get_elem? views me ≡ some v) where
  sees : HasSeenBoundaries key.start words.tail words.exposed words.durable (ranges_of log) (counted v.seen)
  sees = let old = s.seen me v at in
      record { tail_seen = old.tail_seen; exposed_seen = old.exposed_seen; durable_seen = old.durable_seen; boundaries = old.boundaries }

  module _ (may : MayStoreGranted slot word v) where
    placed : IsPlaced (key.ring / 4) (words.slot slot) may.total (Granted word) (log.groups slot).members
    placed = slot-is_at_phase key words views me v slot may.piece (Stores may.total word) log s at may.stores (Placed me may.total (Granted word))
        (phase_led-whole_phase key words views me v slot may.piece (Stores may.total word) log s at may.stores (Placed me may.total (Granted word)) refl tt)

    was-placed : (log.groups slot).phase ≡ Placed me may.total (Granted word)
    was-placed = phase_led-whole_phase key words views me v slot may.piece (Stores may.total word) log s at may.stores (Placed me may.total (Granted word)) refl tt

    keeps : KeepsMembers key words views v log slot (record { members = (log.groups slot).members; phase = Ready me may.total (Granted word) })
        (counted v.seen) (Joined slot may.piece (Tells may.total (Granted word))) v.books
    keeps = keeps_seen-keeps_members key words views me v log s at (joined-active key words views me v slot may.piece (Stores may.total word) log s at may.stores) slot may.piece
        (Tells may.total (Granted word)) (Ready me may.total (Granted word)) (counted v.seen) v.books
        (one_step_more-keeps_seen log.groups v.seen (counted v.seen) refl refl refl refl refl refl refl)
        (subst (HasPhaseOutcome key.start key.ring words.tail words.durable (ranges_of log) (log.groups slot).members) was-placed (s.in_group slot).outcome) tt
        (subst (λ call. AwaitsPlace call v.books) may.stores (s.awaits me v at))
        (total_of_workers-new_phase key words views me v log s at (joined-active key words views me v slot may.piece (Stores may.total word) log s at may.stores) slot
        (Placed me may.total (Granted word)) (Ready me may.total (Granted word)) was-placed (λ _ is. is))

    pub base_store-leads : slot < key.slots → Leads key words (record words { base = put words.base slot word }) views
        (set views me (record v { seen = counted v.seen; call = Joined slot may.piece (Tells may.total (Granted word)) })) log (stores_base me)
    base_store-leads below = leader_step-leads key words views me v slot may.piece (Stores may.total word) log s at may.stores (Tells may.total (Granted word))
        (Placed me may.total (Granted word)) (Ready me may.total (Granted word))
        (phase_led-whole_phase key words views me v slot may.piece (Stores may.total word) log s at may.stores (Placed me may.total (Granted word)) refl tt)
        (granted-leads me may.piece may.total word) (counted v.seen) words.slot (put words.base slot word)
        record { word_is = placed.word_is; remains = placed.remains; base_is = record { is = put-at words.base slot word; fits = tt } }
        (λ q differ. (refl, put-other words.base slot word q differ)) sees refl keeps (PutBase me) below refl refl (λ _. refl) (λ _. refl)

  module _ (may : MayStoreRefused slot word v) where
    abbrev tail : ℕ
    tail = v.seen.tail

    abbrev durable : ℕ
    durable = v.seen.durable

    abbrev outcome : Outcome
    outcome = Refused tail durable

    was : (log.groups slot).phase ≡ Closed me may.total
    was = phase_led-whole_phase key words views me v slot may.piece (Places may.total may.closed) log s at may.places (Closed me may.total) refl tt

    closed : IsClosed (key.ring / 4) (words.slot slot) may.total (log.groups slot).members
    closed = slot-is_at_phase key words views me v slot may.piece (Places may.total may.closed) log s at may.places (Closed me may.total) was

    small : durable < 2 ^ 32
    small = omega (
      arith,
      (s.seen me v at).durable_seen,
      tiles-le _ _ _ log.exposed s.contiguous.to_exposed,
      tiles-le _ _ _ log.ahead s.contiguous.to_tail,
      s.ordered.within_log,
    )

    ready : IsReadyToTell (key.ring / 4) (words.slot slot) (put words.base slot word slot) may.total outcome (log.groups slot).members
    ready = let sum = pieces_tile-sum_within 0 may.total may.total (log.groups slot).members closed.joined.tiles (omega arith) in record {
      word_is = closed.word_is;
      remains = record {
        sum = omega (arith, sum.0);
        some_units = closed.joined.some_units;
        within = omega arith;
        few = closed.joined.few;
        each = sum.1;
      };
      base_is = record { is = put-at words.base slot word ∙ may.word_is; fits = small };
    }

    abbrev new : View
    new = record v { seen = counted v.seen; call = Joined slot may.piece (Tells may.total outcome) }

    abbrev g : Group
    g = record { members = (log.groups slot).members; phase = Ready me may.total outcome }

    abbrev old_state : SlotState
    old_state = slots_of key words views log

    abbrev storing : Task
    storing = joined slot may.piece.offset may.piece.size stage.Stores

    abbrev telling : Task
    telling = joined slot may.piece.offset may.piece.size stage.Tells

    abbrev total : ℕ
    total = closed_total (group_at slot old_state.groups).phase

    abbrev refused : MachineGroup
    refused = placed_group old_state me slot total tail durable false

    abbrev mid_state : SlotState
    mid_state = record old_state { hands = with_task me storing old_state.hands; groups = set old_state.groups slot refused }

    task-is : task_of me old_state.hands ≡ joined slot may.piece.offset may.piece.size stage.Places
    task-is = task_of-hands_of 0 me me views v (omega arith) at ∙ ap task_in may.places

    role : v.standing.role ≡ Active
    role = joined-active key words views me v slot may.piece (Places may.total may.closed) log s at may.places

    ring : v.constants.ring ≡ key.ring
    ring = ap (λ (c : Constants). c.ring) (s.constants me v at (ap is_spent role))

    -- the leader loaded both since it closed the group, so no member had seen more; and it saw them at boundaries of reservations
    refusal-outcome : HasOutcome key.start key.ring words.tail words.durable (ranges_of log) (log.groups slot).members may.total outcome
    refusal-outcome =
        let loaded : LoadedSince may.closed v.seen (log.groups slot).members = subst (LoadsForGroup log.groups v.seen) may.places (s.loads me v at) in
        let old = s.seen me v at in let last = s.lasts me v at (ap is_spent role) in record {
          members_seen = all-both (λ (m : Member). m.piece.tail ≤ tail) (λ (m : Member). m.piece.durable ≤ durable) (HadSeenUpTo tail durable)
              (log.groups slot).members (λ _ a b. record { tail_seen = a; durable_seen = b })
              (loaded.tail_loaded may.tail_loaded) (loaded.durable_loaded may.durable_loaded);
          is_true = record {
            tail_boundary = all-among (IsRangeBoundary key.start (ranges_of log)) tail v.seen.lsns old.boundaries last.tail_among;
            durable_boundary = all-among (IsRangeBoundary key.start (ranges_of log)) durable v.seen.lsns old.boundaries last.durable_among;
            tail_reached = old.tail_seen;
            durable_reached = old.durable_seen;
          };
          no_room = subst (λ r. LacksRoom r may.total tail durable) ring may.no_room;
        }

    refusal-kept : KeepsMembers key words views v log slot g (counted v.seen) (Joined slot may.piece (Tells may.total outcome)) v.books
    refusal-kept = keeps_seen-keeps_members key words views me v log s at role slot may.piece (Tells may.total outcome) (Ready me may.total outcome)
        (counted v.seen) v.books (one_step_more-keeps_seen log.groups v.seen (counted v.seen) refl refl refl refl refl refl refl) refusal-outcome tt
        (subst (λ call. AwaitsPlace call v.books) may.places (s.awaits me v at))
        (total_of_workers-new_phase key words views me v log s at role slot (Closed me may.total) (Ready me may.total outcome) was (λ _ is. is))

    module _ (below : slot < key.slots) where
      shown : group_at slot old_state.groups ≡ group_shown (log.groups slot)
      shown = group-shown key words words.slot (put words.base slot word) views me v new log slot g at below

      total-is : total ≡ may.total
      total-is = ap (λ (x : MachineGroup). closed_total x.phase) shown ∙ ap closed_total was

      unfit : fits old_state.log total tail durable ≡ false
      unfit = ⊎_elim
          (λ (over : LAST < tail + may.total). ap (λ b. b && nat_le (tail + total) (durable + key.ring)) (le-not (tail + total) LAST (omega (arith, over, total-is))))
          (λ (over : durable + v.constants.ring < tail + may.total).
          ap (λ b. nat_le (tail + total) LAST && b) (le-not (tail + total) (durable + key.ring) (omega (arith, over, total-is, ring)))
          ∙ none (nat_le (tail + total) LAST)) may.no_room
        where
          none : (b : Bool) → (b && false) ≡ false
          none true = refl
          none false = refl

      mid-is : mid_state ≡ after_place old_state me tail durable (membership (task_of me old_state.hands))
      mid-is = (λ i. record old_state {
        log = cond (sym unfit i) (reserved old_state.log total) old_state.log;
        hands = with_task me storing old_state.hands;
        groups = set old_state.groups slot (placed_group old_state me slot total tail durable (sym unfit i));
      })
          ∙ ap (λ task. after_place old_state me tail durable (membership task)) (sym task-is)

      group-is : group_shown g ≡ group (group_at slot mid_state.groups).members (next_phase (group_at slot mid_state.groups).phase)
      group-is = (λ i. group (sym shown i).members (Ready me (sym total-is i) outcome))
          ∙ ap (λ (x : MachineGroup). group x.members (next_phase x.phase))
          (sym (get_or-set_same old_state.groups slot refused machine-empty
          (subst (λ count. slot < count) (sym (length-groups_from 0 key.slots log.groups)) below)))

      new-is : slots_of key (record words { base = put words.base slot word }) (set views me new)
          (record { parts = log.parts; flushed = log.flushed; exposed = log.exposed; ahead = log.ahead; groups = put_group log.groups slot g })
          ≡ after_lead mid_state me (membership (task_of me mid_state.hands))
      new-is = slots_of-moved key words words.slot (put words.base slot word) views me v new log slot g at below telling refl
          ∙ ((λ i. record old_state {
            hands = sym (with-twice me storing telling old_state.hands) i;
            groups = (ap (set old_state.groups slot) group-is ∙ sym (set-twice old_state.groups slot refused _)) i;
          })
          ∙ ap (λ task. after_lead mid_state me (membership task)) (sym (task_of-with_task_self me storing old_state.hands)))

      pub refusal_store-leads : Leads key words (record words { base = put words.base slot word }) views (set views me new) log (refuses me tail durable)
      refusal_store-leads = record {
        after = record { parts = log.parts; flushed = log.flushed; exposed = log.exposed; ahead = log.ahead; groups = put_group log.groups slot g };
        sound = leader_step-sound key words views me v slot may.piece (Places may.total may.closed) log s at may.places (Tells may.total outcome)
            (Closed me may.total) (Ready me may.total outcome) was (refused-leads me may.piece may.total may.closed tail durable) (counted v.seen)
            words.slot (put words.base slot word) ready (λ q differ. (refl, put-other words.base slot word q differ)) sees refl refusal-kept;
        shows = record {
          mid = mid_state;
          before = (
            subst (λ task. IsSomeAnd (membership task) (MayPlace old_state tail durable)) (sym task-is) record {
              places = refl;
              tail_seen = (s.seen me v at).tail_seen;
              durable_seen = (s.seen me v at).durable_seen;
              present = λ fit. absurd (true≢false (sym fit ∙ unfit));
            },
            mid-is,
          );
          after = (subst (IsMemberAt stage.Stores) (sym (task_of-with_task_self me storing old_state.hands)) refl, new-is);
        };
      }

module _ (key : Start) (me : ℕ) (v : View) (slot number word : ℕ) (slotted : key.slots ≡ number) (below : slot < number) where
  pub granted-step : MayStoreGranted slot word v → (n : ℕ) → IsStep key me (Base slot) n word v (stored_base v) (stores_base me)
  granted-step may n = record {
    leads = λ words views log s at is. subst
        (λ (call : Call). Leads key words (record words { base = put words.base slot word }) views
        (set views me (record v { seen = counted v.seen; call = call })) log (stores_base me))
        (sym (ap (call_stored v.seen.tail v.seen.durable) may.stores))
        (base_store-leads key words views me v slot word log s at may (subst (λ k. slot < k) (sym slotted) below));
  }

  pub refused-step : MayStoreRefused slot word v → (n : ℕ)
      → IsStep key me (Base slot) n word v (stored_base v) (refuses me v.seen.tail v.seen.durable)
  refused-step may n = record {
    leads = λ words views log s at is. subst
        (λ (call : Call). Leads key words (record words { base = put words.base slot word }) views
        (set views me (record v { seen = counted v.seen; call = call })) log (refuses me v.seen.tail v.seen.durable))
        (sym (ap (call_stored v.seen.tail v.seen.durable) may.places))
        (refusal_store-leads key words views me v slot word log s at may (subst (λ k. slot < k) (sym slotted) below));
  }
