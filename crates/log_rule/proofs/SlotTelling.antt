-- A leader tells its group: the machine's Tell.
use Rattle.std.proofs.Common.{◌≡◌, ℕ, ◌/◌, ◌<◌, List, [], ◌∷◌, set, sym, refl, ap, ◌∙◌, subst}
use mathlib.Core.Option.{some}
use lib.ListN.{get_elem?}
use Rattle.slot_word.specs.declared.slot_word.SlotWord.{SlotWord}
use Rattle.slot_word.specs.SlotWord.{word_of}
use Rattle.slot_core.specs.Machine.{Tell}
use Rattle.log_rule.specs.declared.group_view.MemberStep.TheVariants.{Waits, Tells}
use Rattle.log_rule.specs.declared.start.Start.{Start}
use Rattle.log_rule.specs.declared.view.Call.{Call}
use Rattle.log_rule.specs.declared.view.Call.TheVariants.{Joined}
use Rattle.log_rule.specs.declared.view.View.{View}
use Rattle.log_rule.specs.Events.{Leads, IsStep, tells}
use Rattle.log_rule.specs.Groups.{Outcome, Piece, Ready, Told}
use Rattle.table_layout.specs.Layout.{Slot}
use Rattle.log_rule.specs.Log.{Log, ranges_of}
use Rattle.log_rule.specs.May.{MayPublish}
use Rattle.log_rule.specs.Members.{HasPhaseOutcome, AwaitsPlace}
use Rattle.log_rule.specs.Slots.{IsReadyToTell}
use Rattle.log_rule.specs.SlotViews.{call_published, published}
use Rattle.log_rule.specs.Sound.{HasSeenBoundaries, IsSound}
use Rattle.log_rule.specs.Views.{counted}
use Rattle.log_rule.specs.Words.{Words, put}
use Rattle.log_rule.proofs.Filling.{put-at, put-other}
use Rattle.log_rule.proofs.Groups.{untold-ready}
use Rattle.log_rule.proofs.Members.{KeepsMembers, one_step_more-keeps_seen, keeps_seen-keeps_members, total_of_workers-new_phase}
use Rattle.log_rule.proofs.SlotLeading.{Leading, joined-active, phase_led-whole_phase, slot-is_at_phase, leader_step-leads}
use Rattle.log_rule.proofs.SlotChanges.{cond-other_slot}

telling-leads : (seat : ℕ) (piece : Piece) (total : ℕ) (outcome : Outcome)
    → Leading seat piece (Tells total outcome) Waits (Ready seat total outcome) (Told total outcome total)
telling-leads seat piece total outcome = record {
  entry = refl;
  books = λ _. refl;
  leads = refl;
  knows = tt;
  others = λ j differ. sym (cond-other_slot seat j (Ready seat total outcome ∷ []) differ);
  same = record { entry = λ _. refl; books = λ _ _. refl };
  untold = untold-ready seat total outcome;
  range = refl;
}

module _ (key : Start) (words : Words) (views : List View) (me : ℕ) (v : View) (slot : ℕ) (word : SlotWord) (log : Log) (s : IsSound key words views log)
    (at : get_elem? views me ≡ some v) (may : MayPublish slot word v) where
  ready : IsReadyToTell (key.ring / 4) (words.slot slot) (words.base slot) may.total may.outcome (log.groups slot).members
  ready = slot-is_at_phase key words views me v slot may.piece (Tells may.total may.outcome) log s at may.tells (Ready me may.total may.outcome)
      (phase_led-whole_phase key words views me v slot may.piece (Tells may.total may.outcome) log s at may.tells (Ready me may.total may.outcome) refl tt)

  sees : HasSeenBoundaries key.start words.tail words.exposed words.durable (ranges_of log) (counted v.seen)
  sees = let old = s.seen me v at in
      record { tail_seen = old.tail_seen; exposed_seen = old.exposed_seen; durable_seen = old.durable_seen; boundaries = old.boundaries }

  was : (log.groups slot).phase ≡ Ready me may.total may.outcome
  was = phase_led-whole_phase key words views me v slot may.piece (Tells may.total may.outcome) log s at may.tells (Ready me may.total may.outcome) refl tt

  keeps : KeepsMembers key words views v log slot (record { members = (log.groups slot).members; phase = Told may.total may.outcome may.total })
      (counted v.seen) (Joined slot may.piece Waits) v.books
  keeps = let role = joined-active key words views me v slot may.piece (Tells may.total may.outcome) log s at may.tells in
      keeps_seen-keeps_members key words views me v log s at role slot may.piece Waits (Told may.total may.outcome may.total) (counted v.seen) v.books
      (one_step_more-keeps_seen log.groups v.seen (counted v.seen) refl refl refl refl refl refl refl)
      (subst (HasPhaseOutcome key.start key.ring words.tail words.durable (ranges_of log) (log.groups slot).members) was (s.in_group slot).outcome) tt
      (subst (λ call. AwaitsPlace call v.books) may.tells (s.awaits me v at))
      (total_of_workers-new_phase key words views me v log s at role slot (Ready me may.total may.outcome) (Told may.total may.outcome may.total) was (λ _ is. is))

  pub slot_tell-leads : slot < key.slots → Leads key words (record words { slot = put words.slot slot (word_of word) }) views
      (set views me (record v { seen = counted v.seen; call = Joined slot may.piece Waits })) log (tells me)
  slot_tell-leads below = leader_step-leads key words views me v slot may.piece (Tells may.total may.outcome) log s at may.tells Waits
      (Ready me may.total may.outcome) (Told may.total may.outcome may.total)
      (phase_led-whole_phase key words views me v slot may.piece (Tells may.total may.outcome) log s at may.tells (Ready me may.total may.outcome) refl tt)
      (telling-leads me may.piece may.total may.outcome) (counted v.seen) (put words.slot slot (word_of word)) words.base
      record { word_is = put-at words.slot slot (word_of word) ∙ may.word_is; remains = ready.remains; base_is = ready.base_is }
      (λ q differ. (put-other words.slot slot (word_of word) q differ, refl)) sees refl keeps (Tell me) below refl refl (λ _. refl) (λ _. refl)

module _ (key : Start) (me : ℕ) (v : View) (slot number : ℕ) (word : SlotWord) (slotted : key.slots ≡ number) (below : slot < number)
    (may : MayPublish slot word v) where
  pub publish-step : (n : ℕ) → IsStep key me (Slot slot) n (word_of word) v (published v) (tells me)
  publish-step n = record {
    leads = λ words views log s at is. subst
        (λ (call : Call). Leads key words (record words { slot = put words.slot slot (word_of word) }) views
        (set views me (record v { seen = counted v.seen; call = call })) log (tells me)) (sym (ap call_published may.tells))
        (slot_tell-leads key words views me v slot word log s at may (subst (λ k. slot < k) (sym slotted) below));
  }
