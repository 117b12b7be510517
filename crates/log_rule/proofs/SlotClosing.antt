-- A leader closes its group: the machine's Close.
use Rattle.std.proofs.Common.{◌≡◌, ℕ, ◌+◌, ◌/◌, ◌^◌, ◌<◌, ◌≤◌, List, [], ◌∷◌, set, sym, refl, ap, ◌∙◌, subst, arith}
use mathlib.Core.Option.{some}
use lib.ListN.{get_elem?}
use Rattle.slot_word.specs.declared.phase.Phase.TheVariants as kind
use Rattle.slot_word.specs.SlotWord.{packed, phase_in, total_in}
use Rattle.slot_word.proofs.SlotWordLemmas.{phase_back, total_back}
use Rattle.slot_core.specs.Machine.{Close}
use Rattle.log_rule.specs.declared.group_view.MemberStep.TheVariants.{Closes, Places}
use Rattle.log_rule.specs.declared.start.Start.{Start}
use Rattle.log_rule.specs.declared.view.Call.{Call}
use Rattle.log_rule.specs.declared.view.Call.TheVariants.{Joined}
use Rattle.log_rule.specs.declared.view.Constants.{Constants}
use Rattle.log_rule.specs.declared.view.Role.TheVariants.{Active}
use Rattle.log_rule.specs.declared.view.View.{View}
use Rattle.log_rule.specs.Events.{Leads, IsStep, closes}
use Rattle.log_rule.specs.Groups.{GroupPhase, Vacant, Gathering, Closed, Placed, Ready, Told, Emptied, Piece}
use Rattle.table_layout.specs.Layout.{Slot}
use Rattle.log_rule.specs.Log.{Log, ranges_of}
use Rattle.log_rule.specs.May.{MayCloseSlot}
use Rattle.log_rule.specs.Members.{LoadedSince, AwaitsPlace}
use Rattle.log_rule.specs.Roles.{is_spent}
use Rattle.log_rule.specs.Slots.{known_phase, IsGathering}
use Rattle.log_rule.specs.SlotViews.{seen_slot, slot_in, call_closed, closed_slot, IsGatheringWord}
use Rattle.log_rule.specs.Sound.{HasSeenBoundaries, IsSound}
use Rattle.log_rule.specs.Words.{Words, put}
use Rattle.log_rule.proofs.Filling.{put-at, put-other}
use Rattle.log_rule.proofs.Groups.{untold-gathering}
use Rattle.log_rule.proofs.Lifting.{Tells}
use Rattle.log_rule.proofs.GroupTotals.{gathering-total_of_each}
use Rattle.log_rule.proofs.Members.{KeepsMembers, one_step_more-keeps_seen, keeps_seen-keeps_members}
use Rattle.log_rule.proofs.SlotLeading.{Leading, joined-active, phase_led-known_phase, slot-is_at_phase, leader_step-leads}
use Rattle.log_rule.proofs.SlotLooks.{quarter_ring-fits_31_bits}
use Rattle.log_rule.proofs.SlotWords.{at_phase-slot_word}
use Rattle.log_rule.proofs.SlotChanges.{cond-same_slot, cond-other_slot}

-- a group that gathers, led by this seat
pub record Gathers (seat : ℕ) (p : GroupPhase) : Type 0 where
  pub total : ℕ
  pub is : p ≡ Gathering seat total

pub known-gathers : (seat : ℕ) (p : GroupPhase) → known_phase p ≡ Gathering seat 0 → Gathers seat p
known-gathers seat Vacant is = absurd (cc)
known-gathers seat (Gathering leader total) is = record { total = total; is = let same : leader ≡ seat = cc in ap (λ n. Gathering n total) same }
known-gathers seat (Closed leader total) is = absurd (cc)
known-gathers seat (Placed leader total outcome) is = absurd (cc)
known-gathers seat (Ready leader total outcome) is = absurd (cc)
known-gathers seat (Told total outcome remaining) is = absurd (cc)
known-gathers seat (Emptied last) is = absurd (cc)

-- to the others it is as if nothing happened
closing-leads : (seat : ℕ) (piece : Piece) (total closed : ℕ)
    → Leading seat piece Closes (Places total closed) (Gathering seat total) (Closed seat total)
closing-leads seat piece total closed = record {
  entry = refl;
  books = λ _. refl;
  leads = cond-same_slot seat (Closed seat total ∷ []);
  knows = tt;
  others = λ j differ. cond-other_slot seat j (Closed seat total ∷ []) differ ∙ sym (cond-other_slot seat j (Gathering seat 0 ∷ []) differ);
  same = record { entry = λ _. refl; books = λ _ _. refl };
  untold = untold-gathering seat total;
  range = refl;
}

module _ (key : Start) (words : Words) (views : List View) (me : ℕ) (v : View) (slot : ℕ) (log : Log) (s : IsSound key words views log)
    (at : get_elem? views me ≡ some v) (may : MayCloseSlot slot v) where
  pub may_close-gathers : Gathers me (log.groups slot).phase
  may_close-gathers = known-gathers me (log.groups slot).phase (phase_led-known_phase key words views me v slot may.piece Closes log s at may.closes (Gathering me 0) refl)

  abbrev pub total : ℕ
  total = may_close-gathers.total

  gathering : IsGathering (key.ring / 4) (words.slot slot) total (log.groups slot).members
  gathering = slot-is_at_phase key words views me v slot may.piece Closes log s at may.closes (Gathering me total) may_close-gathers.is

  fits : total < 2 ^ 31
  fits = let few = gathering.joined.few in let quarter = quarter_ring-fits_31_bits key words views me v slot (words.slot slot) log s at refl in omega arith

  pub total_in-gathering_total : total_in (words.slot slot) ≡ total
  total_in-gathering_total = ap total_in gathering.word_is ∙ total_back kind.Gathering total 0 fits (omega arith)

  -- what the swap finds
  pub may_close-gathering_word : IsGatheringWord (v.constants.ring / 4) (words.slot slot)
  may_close-gathering_word = let role : v.standing.role ≡ Active = joined-active key words views me v slot may.piece Closes log s at may.closes in
      let ring : v.constants.ring ≡ key.ring = ap (λ (c : Constants). c.ring) (s.constants me v at (ap is_spent role)) in
      let some_units = gathering.joined.some_units in let few = gathering.joined.few in record {
        slot_word = at_phase-slot_word (key.ring / 4) (words.slot slot) (words.base slot) (log.groups slot).members (log.groups slot).phase
            (quarter_ring-fits_31_bits key words views me v slot (words.slot slot) log s at refl) (s.slots slot).words;
        gathers = ap phase_in gathering.word_is ∙ phase_back kind.Gathering total 0 fits (omega arith);
        some_units = omega (arith, total_in-gathering_total, some_units);
        few = subst (λ r. total_in (words.slot slot) ≤ r / 4) (sym ring) (omega (arith, total_in-gathering_total, few));
      }

  sees : HasSeenBoundaries key.start words.tail words.exposed words.durable (ranges_of log) (seen_slot slot (words.slot slot) v.seen)
  sees = let old = s.seen me v at in
      record { tail_seen = old.tail_seen; exposed_seen = old.exposed_seen; durable_seen = old.durable_seen; boundaries = old.boundaries }

  -- nothing counts as loaded since
  loads : LoadedSince (v.seen.steps + 1) (seen_slot slot (words.slot slot) v.seen) (log.groups slot).members
  loads = let last = s.lasts me v at (ap is_spent (joined-active key words views me v slot may.piece Closes log s at may.closes)) in record {
    tail_loaded = λ since. absurd (omega (arith, since, last.tail_made));
    durable_loaded = λ since. absurd (omega (arith, since, last.durable_made));
  }

  keeps : KeepsMembers key words views v log slot (record { members = (log.groups slot).members; phase = Closed me total })
      (seen_slot slot (words.slot slot) v.seen) (Joined slot may.piece (Places total (v.seen.steps + 1))) v.books
  keeps = keeps_seen-keeps_members key words views me v log s at (joined-active key words views me v slot may.piece Closes log s at may.closes) slot may.piece
      (Places total (v.seen.steps + 1)) (Closed me total) (seen_slot slot (words.slot slot) v.seen) v.books
      (one_step_more-keeps_seen log.groups v.seen (seen_slot slot (words.slot slot) v.seen) refl refl refl refl refl refl refl) tt loads
      (subst (λ call. AwaitsPlace call v.books) may.closes (s.awaits me v at))
      (λ j z there flusher. gathering-total_of_each key words views log s slot me total may_close-gathers.is gathering.joined j z there flusher)

  pub slot_close-leads : slot < key.slots → Leads key words (record words { slot = put words.slot slot (packed kind.Pending 0 0) }) views
      (set views me (record v { seen = seen_slot slot (words.slot slot) v.seen; call = Joined slot may.piece (Places total (v.seen.steps + 1)) })) log (closes me)
  slot_close-leads below = leader_step-leads key words views me v slot may.piece Closes log s at may.closes (Places total (v.seen.steps + 1))
      (Gathering me total) (Closed me total) may_close-gathers.is (closing-leads me may.piece total (v.seen.steps + 1)) (seen_slot slot (words.slot slot) v.seen)
      (put words.slot slot (packed kind.Pending 0 0)) words.base
      record { word_is = put-at words.slot slot (packed kind.Pending 0 0); joined = gathering.joined }
      (λ q differ. (put-other words.slot slot (packed kind.Pending 0 0) q differ, refl)) sees refl keeps (Close me) below refl refl (λ _. refl) (λ _. refl)

module _ (key : Start) (me : ℕ) (v : View) (slot number : ℕ) (slotted : key.slots ≡ number) (below : slot < number) (may : MayCloseSlot slot v) where
  pub close-step : (n : ℕ) → IsStep key me (Slot slot) n (packed kind.Pending 0 0) v (closed_slot n v) (closes me)
  close-step n = record {
    leads = λ words views log s at is.
        let step : ℕ = v.seen.steps + 1 in
        let call : Joined slot may.piece (Places (total key words views me v slot log s at may) step) ≡ call_closed (total_in n) step v.call =
        ap (λ t. Joined slot may.piece (Places t step)) (sym (total_in-gathering_total key words views me v slot log s at may) ∙ ap total_in is)
        ∙ sym (ap (call_closed (total_in n) step) may.closes) in
        subst (λ (p : ℕ × ℕ × Call). Leads key words (record words { slot = put words.slot slot (packed kind.Pending 0 0) }) views
        (set views me (record v { seen = seen_slot p.0 p.1 v.seen; call = p.2 })) log (closes me))
        (λ i. (sym (ap slot_in may.closes) i, is i, call i))
        (slot_close-leads key words views me v slot log s at may (subst (λ k. slot < k) (sym slotted) below));
  }

  pub close-tells_gathering_word : Tells key me (Slot slot) v (IsGatheringWord (v.constants.ring / 4))
  close-tells_gathering_word words views log s at = may_close-gathering_word key words views me v slot log s at may
