-- The last of a group to release opens the slot again: the machine's Reopen.
use Rattle.std.proofs.Common.{◌≡◌, ◌≢◌, ℕ, ◌<◌, List, [], ◌∷◌, set, sym, refl, ap, ◌∙◌, subst, arith, Some, ◌/◌}
use mathlib.Core.Option.{some}
use lib.ListN.{get_elem?}
use Rattle.slot_core.specs.State.{Idle as StageIdle, InRing, nothing, reopening, task_of}
use Rattle.slot_core.specs.Machine.{MayReopen as MayReopenNow, after_reopen}
use Rattle.log_rule.specs.declared.start.Start.{Start}
use Rattle.log_rule.specs.declared.view.Call.TheVariants.{Idle, Reopening}
use Rattle.log_rule.specs.declared.view.Role.TheVariants.{Active}
use Rattle.log_rule.specs.declared.view.View.{View}
use Rattle.log_rule.specs.Events.{task_in, hands_of, slots_of, Leads, IsStep, reopens}
use Rattle.log_rule.specs.Groups.{Emptied, empty_group, put_group}
use Rattle.table_layout.specs.Layout.{Slot}
use Rattle.log_rule.specs.Log.{Log, ranges_of}
use Rattle.log_rule.specs.Marks.{Carries}
use Rattle.log_rule.specs.May.{MayReopen}
use Rattle.log_rule.specs.Roles.{is_spent}
use Rattle.log_rule.specs.Slots.{own_pieces, pieces_at, led_phase, phase_at, range_of, IsAtPhase, IsEmptied}
use Rattle.log_rule.specs.SlotViews.{reopened}
use Rattle.log_rule.specs.Sound.{HasSeenBoundaries, HasWorkingOwner, IsSound}
use Rattle.log_rule.specs.Views.{entries_in, books_in, claims_in, counted}
use Rattle.log_rule.specs.Words.{Words, put}
use Rattle.log_rule.proofs.Filling.{put-at, put-other}
use Rattle.log_rule.proofs.Groups.{Others}
use Rattle.log_rule.proofs.Members.{one_step_more-keeps_seen}
use Rattle.log_rule.proofs.MachineShown.{task_of-hands_of}
use Rattle.log_rule.proofs.SlotLeading.{is_active-role_active, led_phase-known_phase, known_phase-equal_if_whole}
use Rattle.log_rule.proofs.SlotShowing.{slots_of-moved}
use Rattle.log_rule.proofs.SlotChanges.{Mine, cond-same_slot, cond-other_slot, slot-sound}
use Rattle.log_rule.proofs.ViewChanges.{each_seat-at}

module _ (key : Start) (words : Words) (views : List View) (me : ℕ) (v : View) (slot : ℕ) (log : Log) (s : IsSound key words views log)
    (at : get_elem? views me ≡ some v) (may : MayReopen slot v) where
  mine : HasWorkingOwner log.groups log.parts log.ahead me v
  mine = each_seat-at (HasWorkingOwner log.groups log.parts log.ahead) views me v at s.owners

  active : v.standing.role ≡ Active
  active = is_active-role_active v.standing.role (λ off. let gone : Reopening slot ≡ Idle = sym may ∙ s.resting me v at off in cc)

  was : (log.groups slot).phase ≡ Emptied me
  was = known_phase-equal_if_whole (log.groups slot).phase (Emptied me)
      (led_phase-known_phase me (log.groups slot).phase (Emptied me) (mine.leads slot ∙ (ap (phase_at me slot) may ∙ cond-same_slot slot (Emptied me ∷ [])))) tt

  emptied : IsEmptied (key.ring / 4) (words.slot slot) (log.groups slot).members
  emptied = subst (IsAtPhase (key.ring / 4) (words.slot slot) (words.base slot) (log.groups slot).members) was (s.slots slot).words

  abbrev new : View
  new = record v { seen = counted v.seen; call = Idle }

  abbrev states : ℕ → ℕ
  states = put words.slot slot 0

  abbrev after : Log
  after = record { parts = log.parts; flushed = log.flushed; exposed = log.exposed; ahead = log.ahead; groups = put_group log.groups slot empty_group }

  moves : Mine log.groups me slot empty_group v.call Idle
  moves = record {
    entries = sym (ap (entries_in log.groups) may);
    claims = sym (ap claims_in may);
    joins = refl;
    leads = refl;
    else = λ q differ. (sym (ap (pieces_at q) may), sym (ap (phase_at me q) may ∙ cond-other_slot slot q (Emptied me ∷ []) differ));
    knows = tt;
    carries = λ place carries. absurd (subst (Carries place) may carries);
    ends = λ start exposed log. tt;
  }

  others : (j : ℕ) → j ≢ me → Others (log.groups slot) empty_group j
  others j differ = record {
    joins = sym (ap (own_pieces j) emptied.nobody);
    leads = sym (ap (led_phase j) was ∙ cond-other_slot me j (Emptied me ∷ []) differ);
    keep = λ piece step one _. let gone : [] ≡ piece ∷ [] = sym (ap (own_pieces j) emptied.nobody) ∙ one in absurd (cc);
  }

  sees : HasSeenBoundaries key.start words.tail words.exposed words.durable (ranges_of log) (counted v.seen)
  sees = let old = s.seen me v at in
      record { tail_seen = old.tail_seen; exposed_seen = old.exposed_seen; durable_seen = old.durable_seen; boundaries = old.boundaries }

  sound : IsSound key (record words { slot = states }) (set views me new) after
  sound = slot-sound key words views me v log s at active slot empty_group states words.base (counted v.seen) Idle v.books v.contended moves
      (sym (ap (λ call. books_in log.groups call v.books) may)) others (sym (ap range_of was))
      record { word_is = put-at words.slot slot 0; nobody = refl } (λ q differ. (put-other words.slot slot 0 q differ, refl)) sees refl record {
        in_group = record { members_seen = tt; outcome = tt };
        loads = tt;
        awaits = tt;
        totals = λ _ _ _ _. tt;
        heard = λ j z there. s.heard j z there me v at;
        last = (one_step_more-keeps_seen log.groups v.seen (counted v.seen) refl refl refl refl refl refl refl).last (s.lasts me v at (ap is_spent active));
        others = λ _ _ _ _ _ _. record { tail_loaded = λ _. tt; durable_loaded = λ _. tt };
      }

  task-is : task_of me (hands_of 0 views) ≡ InRing (Some slot) StageIdle
  task-is = task_of-hands_of 0 me me views v (omega arith) at ∙ ap task_in may

  pub slot_reopen-leads : slot < key.slots → Leads key words (record words { slot = states }) views (set views me new) log (reopens me)
  slot_reopen-leads below = record {
    after = after;
    sound = sound;
    shows = (
      subst MayReopenNow (sym task-is) (refl, refl),
      slots_of-moved key words states words.base views me v new log slot empty_group at below nothing refl
          ∙ ap (λ task. after_reopen (slots_of key words views log) me (reopening task)) (sym task-is),
    );
  }

module _ (key : Start) (me : ℕ) (v : View) (slot number : ℕ) (slotted : key.slots ≡ number) (below : slot < number) (may : MayReopen slot v) where
  pub reopen-step : (n : ℕ) → IsStep key me (Slot slot) n 0 v (reopened v) (reopens me)
  reopen-step n = record {
    leads = λ words views log s at is. slot_reopen-leads key words views me v slot log s at may (subst (λ k. slot < k) (sym slotted) below);
  }
