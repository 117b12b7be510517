-- A member of a refused group releases its piece: the machine's Release. No part or range changes, and the last has the slot to open.
use Rattle.std.proofs.Common.{◌≡◌, ◌≢◌, ℕ, ◌-◌, ◌/◌, ◌<◌, List, [], ◌∷◌, ◌++◌, set, sym, refl, ap, ◌∙◌, subst, arith}
use Rattle.std.specs.Option.{IsSomeAnd}
use mathlib.Core.Option.{some}
use lib.ListN.{get_elem?}
use Rattle.slot_parts.specs.Tasks.{HasDone}
use Rattle.slot_parts.specs.declared.task.MemberStage.TheVariants as stage
use Rattle.slot_core.specs.State.{SlotState, Membership, Group as MachineGroup, joined, membership, task_of, group, group_at, without}
use Rattle.slot_core.specs.Machine.{moved, after_release}
use Rattle.slot_parts.specs.Phases.{phase_released, task_released}
use Rattle.log_rule.specs.declared.group_view.MemberStep.TheVariants.{Leaves}
use Rattle.log_rule.specs.declared.start.Start.{Start}
use Rattle.log_rule.specs.declared.view.Call.{Call}
use Rattle.log_rule.specs.declared.view.Call.TheVariants.{Joined}
use Rattle.log_rule.specs.declared.view.Role.TheVariants.{Active}
use Rattle.log_rule.specs.declared.view.View.{View}
use Rattle.log_rule.specs.Events.{task_in, group_shown, slots_of, Leads, releases}
use Rattle.log_rule.specs.Groups.{Refused, GroupPhase, Piece, Group, put_group}
use Rattle.log_rule.specs.Log.{Log, ranges_of}
use Rattle.log_rule.specs.Marks.{Carries}
use Rattle.log_rule.specs.Slots.{pieces_at, led_phase, phase_at, range_of, IsAtPhase, told_word}
use Rattle.log_rule.specs.SlotViews.{seen_slot}
use Rattle.log_rule.specs.Sound.{HasSeenBoundaries, IsSound}
use Rattle.log_rule.specs.Views.{entries_in, books_in, claims_in}
use Rattle.log_rule.specs.Words.{Words, put}
use Rattle.log_rule.proofs.Filling.{put-at, put-other}
use Rattle.log_rule.proofs.GroupLeaving.{ToldMember, Left, task_in-left, group_shown-left, left-keeps_members}
use Rattle.log_rule.proofs.Groups.{Keeps, Others}
use Rattle.log_rule.proofs.MachineShown.{task_of-hands_of}
use Rattle.log_rule.proofs.SlotLeading.{joined-active}
use Rattle.log_rule.proofs.SlotShowing.{group-shown, slots_of-moved}
use Rattle.log_rule.proofs.SlotChanges.{Mine, cond-other_slot, slot-sound}

module _ (key : Start) (words : Words) (views : List View) (me : ℕ) (v : View) (slot : ℕ) (piece : Piece) (tail durable : ℕ) (log : Log)
    (s : IsSound key words views log) (at : get_elem? views me ≡ some v) (leaves : v.call ≡ Joined slot piece (Leaves tail durable))
    (m : ToldMember (key.ring / 4) (words.slot slot) (words.base slot) me piece (Refused tail durable) (log.groups slot)) where
  pub releasing-active : v.standing.role ≡ Active
  releasing-active = joined-active key words views me v slot piece (Leaves tail durable) log s at leaves

  module _ (phase : GroupPhase) (call : Call) (word : ℕ) (word-is : word ≡ told_word (Refused tail durable) m.total (m.remaining - piece.size))
      (l : Left (key.ring / 4) (words.slot slot) (words.base slot) me piece (Refused tail durable) (log.groups slot) m slot phase call)
      (no_range : range_of phase ≡ []) (no_claims : claims_in call ≡ []) where
    abbrev g : Group
    g = record { members = m.before ++ m.behind; phase = phase }

    abbrev states : ℕ → ℕ
    states = put words.slot slot word

    abbrev new : View
    new = record v { seen = seen_slot slot (words.slot slot) v.seen; call = call }

    abbrev after : Log
    after = record { parts = log.parts; flushed = log.flushed; exposed = log.exposed; ahead = log.ahead; groups = put_group log.groups slot g }

    moves : Mine log.groups me slot g v.call call
    moves = record {
      entries = l.entries (put_group log.groups slot g) ∙ sym (ap (entries_in log.groups) leaves);
      claims = no_claims ∙ sym (ap claims_in leaves);
      joins = m.own ∙ sym (l.pieces slot);
      leads = l.leads;
      else = λ q differ. (
        l.pieces q ∙ sym (ap (pieces_at q) leaves ∙ cond-other_slot slot q (piece ∷ []) differ),
        l.else q differ ∙ sym (ap (phase_at me q) leaves ∙ cond-other_slot slot q [] differ),
      );
      knows = l.knows (put_group log.groups slot g);
      carries = λ place carries. absurd (subst (Carries place) leaves carries);
      ends = l.ends;
    }

    others : (j : ℕ) → j ≢ me → Others (log.groups slot) g j
    others j differ =
        let same = m.others j differ in record {
          joins = same;
          leads = l.others j differ ∙ sym (ap (led_phase j) m.told);
          keep = λ p step one _. subst (λ q. Keeps q phase p step) (sym m.told) (l.keep j p step (same ∙ one));
        }

    sees : HasSeenBoundaries key.start words.tail words.exposed words.durable (ranges_of log) (seen_slot slot (words.slot slot) v.seen)
    sees = let old = s.seen me v at in
        record { tail_seen = old.tail_seen; exposed_seen = old.exposed_seen; durable_seen = old.durable_seen; boundaries = old.boundaries }

    sound : IsSound key (record words { slot = states }) (set views me new) after
    sound = slot-sound key words views me v log s at releasing-active slot g states words.base (seen_slot slot (words.slot slot) v.seen) call v.books v.contended moves
        (l.books (put_group log.groups slot g) v.books ∙ sym (ap (λ c. books_in log.groups c v.books) leaves)) others
        (no_range ∙ sym (ap range_of m.told))
        (subst (λ w. IsAtPhase (key.ring / 4) w (words.base slot) (m.before ++ m.behind) phase) (sym (put-at words.slot slot word ∙ word-is)) l.is)
        (λ q differ. (put-other words.slot slot word q differ, refl)) sees refl
        (left-keeps_members key words views me v slot piece (Refused tail durable) log s at releasing-active m phase call l)

    abbrev old_state : SlotState
    old_state = slots_of key words views log

    task-is : task_of me old_state.hands ≡ joined slot piece.offset piece.size stage.Leaves
    task-is = task_of-hands_of 0 me me views v (omega arith) at ∙ ap task_in leaves

    module _ (below : slot < key.slots) where
      abbrev shown : MachineGroup
      shown = group_at slot old_state.groups

      shown-is : shown ≡ group_shown (log.groups slot)
      shown-is = group-shown key words states words.base views me v new log slot g at below

      turns-to : task_in call ≡ task_released slot piece.size shown.phase
      turns-to =
          task_in-left (key.ring / 4) (words.slot slot) (words.base slot) me piece (Refused tail durable) (log.groups slot) m slot phase call l shown shown-is

      left-is : group_shown g ≡ group (without me shown.members) (phase_released me piece.size shown.phase)
      left-is =
          group_shown-left (key.ring / 4) (words.slot slot) (words.base slot) me piece (Refused tail durable) (log.groups slot) m slot phase call l shown shown-is

      pub refused_release-leads : Leads key words (record words { slot = states }) views (set views me new) log (releases me)
      refused_release-leads = record {
        after = after;
        sound = sound;
        shows = (
          subst (λ task. IsSomeAnd (membership task) (λ (m : Membership). HasDone m.size m.stage)) (sym task-is) tt,
          slots_of-moved key words states words.base views me v new log slot g at below (task_released slot piece.size shown.phase) turns-to
              ∙ (ap (moved old_state me slot (task_released slot piece.size shown.phase)) left-is
              ∙ ap (λ task. after_release old_state me (membership task)) (sym task-is)),
        );
      }
