-- What the machine is shown of a step on a slot.
use Rattle.std.proofs.Common.{◌≡◌, ℕ, zero, suc, ◌+◌, ◌<◌, List, length, map, set, sym, refl, ap, ◌∙◌, arith}
use mathlib.Core.Option.{some}
use lib.ListN.{get_elem?}
use Rattle.slot_core.specs.State.{Task, SlotState, joined, membership, task_of, with_task, group, group_at}
use Rattle.slot_core.specs.Machine.{moved, after_lead, next_stage, next_phase}
use Rattle.log_rule.specs.declared.group_view.MemberStep.{MemberStep}
use Rattle.log_rule.specs.declared.start.Start.{Start}
use Rattle.log_rule.specs.declared.view.Call.TheVariants.{Joined}
use Rattle.log_rule.specs.declared.view.View.{View}
use Rattle.log_rule.specs.Events.{task_in, hands_of, member_shown, group_shown, groups_from, slots_of}
use Rattle.log_rule.specs.Groups.{Piece, Group, put_group}
use Rattle.log_rule.specs.GroupViews.{stage_of}
use Rattle.log_rule.specs.Log.{Log}
use Rattle.log_rule.specs.Words.{Words}
use Rattle.log_rule.proofs.Groups.{groups_from-put_group, group_at-groups_from}
use Rattle.log_rule.proofs.MachineShown.{hands_of-set, task_of-hands_of}

pub length-groups_from : (slot count : ℕ) (groups : ℕ → Group) → length (groups_from slot count groups) ≡ count
length-groups_from slot zero groups = refl
length-groups_from slot (suc more) groups = ap suc (length-groups_from (slot + 1) more groups)

module _ (key : Start) (words : Words) (states bases : ℕ → ℕ) (views : List View) (me : ℕ) (v new : View) (log : Log) (slot : ℕ) (g : Group)
    (at : get_elem? views me ≡ some v) (below : slot < key.slots) where
  abbrev old_state : SlotState
  old_state = slots_of key words views log

  abbrev after : Log
  after = record { parts = log.parts; flushed = log.flushed; exposed = log.exposed; ahead = log.ahead; groups = put_group log.groups slot g }

  -- the group at the slot
  pub group-shown : group_at slot old_state.groups ≡ group_shown (log.groups slot)
  group-shown = group_at-groups_from 0 key.slots slot slot log.groups (omega arith) below

  -- one seat turns to another task, and the slot has another group
  pub slots_of-moved : (task : Task) → task_in new.call ≡ task
      → slots_of key (record words { slot = states; base = bases }) (set views me new) after ≡ moved old_state me slot task (group_shown g)
  slots_of-moved task is i = record old_state {
    hands = (hands_of-set 0 me me views v new (omega arith) at ∙ ap (λ t. with_task me t (hands_of 0 views)) is) i;
    groups = groups_from-put_group 0 key.slots slot slot log.groups g (omega arith) i;
  }

  -- a leader makes its next step, and the group comes to its next phase
  module _ (piece : Piece) (step step' : MemberStep) (old-call : v.call ≡ Joined slot piece step) (new-call : new.call ≡ Joined slot piece step')
      (stage : stage_of step' ≡ next_stage (stage_of step)) (members : g.members ≡ (log.groups slot).members)
      (phase : g.phase ≡ next_phase (log.groups slot).phase) where
    pub task_of-joined : task_of me (hands_of 0 views) ≡ joined slot piece.offset piece.size (stage_of step)
    task_of-joined = task_of-hands_of 0 me me views v (omega arith) at ∙ ap task_in old-call

    pub slots_of-after_lead : slots_of key (record words { slot = states; base = bases }) (set views me new) after
        ≡ after_lead old_state me (membership (task_of me (hands_of 0 views)))
    slots_of-after_lead = slots_of-moved (joined slot piece.offset piece.size (next_stage (stage_of step)))
        (ap task_in new-call ∙ ap (joined slot piece.offset piece.size) stage)
        ∙ ((λ i. moved old_state me slot (joined slot piece.offset piece.size (next_stage (stage_of step)))
        (group (map member_shown (members i)) (phase i)))
        ∙ ((λ i. moved old_state me slot (joined slot piece.offset piece.size (next_stage (stage_of step)))
        (group (sym group-shown i).members (next_phase (sym group-shown i).phase)))
        ∙ ap (λ task. after_lead old_state me (membership task)) (sym task_of-joined)))
