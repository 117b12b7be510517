-- What a member that waits finds in its slot's state once its group is told.
use Rattle.std.proofs.Common.{◌≡◌, ℕ, ◌/◌, ◌^◌, ◌≤◌, List, refl, sym, ap, subst, arith, le-ltb}
use mathlib.Core.Option.{some}
use lib.ListN.{get_elem?}
use Rattle.slot_word.specs.SlotWord.{total_in, remaining_in, IsSlotWord}
use Rattle.log_rule.specs.declared.group_view.MemberStep.TheVariants.{Waits}
use Rattle.log_rule.specs.declared.start.Start.{Start}
use Rattle.log_rule.specs.declared.view.Call.TheVariants.{Joined}
use Rattle.log_rule.specs.declared.view.Constants.{Constants}
use Rattle.log_rule.specs.declared.view.View.{View}
use Rattle.log_rule.specs.Groups.{Outcome, Piece}
use Rattle.table_layout.specs.Layout.{Slot}
use Rattle.log_rule.specs.Log.{Log}
use Rattle.log_rule.specs.Roles.{is_spent}
use Rattle.log_rule.specs.Slots.{IsToldAs}
use Rattle.log_rule.specs.SlotViews.{tells_refusal, IsToldWord, TellsWaiting}
use Rattle.log_rule.specs.Sound.{IsSound}
use Rattle.log_rule.specs.Words.{Words}
use Rattle.log_rule.proofs.GroupLeaving.{ToldMember, told-member, word-total, word-remaining}
use Rattle.log_rule.proofs.Lifting.{Tells}
use Rattle.log_rule.proofs.SlotLeading.{joined-active}
use Rattle.log_rule.proofs.SlotLooks.{quarter_ring-fits_31_bits, joined-some_members, slot-tells_slot_word}
use Rattle.log_rule.proofs.SlotWords.{at_phase-told_as}

module _ (key : Start) (words : Words) (views : List View) (me : ℕ) (v : View) (slot : ℕ) (piece : Piece) (log : Log)
    (s : IsSound key words views log) (at : get_elem? views me ≡ some v) (waits : v.call ≡ Joined slot piece Waits) where
  abbrev word : ℕ
  word = words.slot slot

  ring : v.constants.ring ≡ key.ring
  ring = ap (λ (c : Constants). c.ring) (s.constants me v at (ap is_spent (joined-active key words views me v slot piece Waits log s at waits)))

  told-word : (outcome : Outcome) → ToldMember (key.ring / 4) word (words.base slot) me piece outcome (log.groups slot)
      → IsToldWord (v.constants.ring / 4) piece word
  told-word outcome m =
      let total : total_in word ≡ m.total = word-total (key.ring / 4) word (words.base slot) me piece outcome (log.groups slot) m in
      let left : remaining_in word ≡ m.remaining =
      word-remaining (key.ring / 4) word (words.base slot) me piece outcome (log.groups slot) m in
      record {
        within = omega (arith, total, m.within);
        remains = omega (arith, left, m.enough);
        whole = omega (arith, total, left, m.is.remains.within);
        few = subst (λ r. total_in word ≤ r / 4) (sym ring) (omega (arith, total, m.is.remains.few));
      }

  pub waiting-told_word : 2 ^ 63 ≤ word → IsToldWord (v.constants.ring / 4) piece word
  waiting-told_word high =
      let told : IsToldAs (tells_refusal word) (total_in word) (log.groups slot).phase =
      at_phase-told_as (key.ring / 4) word (words.base slot) (log.groups slot).members (log.groups slot).phase
      (quarter_ring-fits_31_bits key words views me v slot word log s at refl) (s.slots slot).words
      (joined-some_members key words views me v slot word log s at refl slot piece Waits waits) (le-ltb word (2 ^ 63) high) in
      told-word told.outcome (told-member key words views me v slot piece Waits told.outcome log s at waits
      (λ _. record { total = total_in word; remaining = told.remaining; told = told.told }))

-- what the rule tells of the state at a load
pub slot-tells_waiting : (key : Start) (me : ℕ) (v : View) (slot : ℕ) → Tells key me (Slot slot) v (λ n. IsSlotWord n × TellsWaiting slot n v)
slot-tells_waiting key me v slot words views log s at = (
  slot-tells_slot_word key me v slot words views log s at,
  λ piece waits high. waiting-told_word key words views me v slot piece log s at waits high,
)
