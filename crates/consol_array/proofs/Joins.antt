-- A seat looked at its slot, to join the group there.
use Rattle.std.proofs.Common.{◌≡◌, ◌≢◌, ◌∙◌, ⊎_elim, ℕ, ◌+◌, ◌/◌, ◌≤◌, ◌<◌, false, ap, sym, subst}
use Rattle.slot_word.specs.declared.slot_word.SlotWord.{SlotWord}
use Rattle.slot_word.specs.SlotWord.{total_in, word_of}
use Rattle.slot_word.specs.declared.phase.Phase.TheVariants.{Gathering}
use Rattle.slot_word.proofs.SlotWordLemmas.{phase_back, total_back}
use Rattle.log_table.specs.declared.table.LogTable.{LogTable}
use Rattle.log_table.specs.declared.table.Seat.{Seat}
use Rattle.log_rule.specs.May.{IsAtRest, MayJoinSlot}
use Rattle.log_table.specs.Seats.{IsOf, Becomes, view_of}
use Rattle.log_table.proofs.Stepping.{Becomes-trans}
use Rattle.log_rule.specs.SlotViews.{own_slot_of, saw_slot, joined_slot, call_seeing, contended_seeing}
use Rattle.log_rule.proofs.Contention.{clears-unless_gathering, clears-without_room}
use Rattle.ring_buffer.specs.Calls.{MayPlace}
use Rattle.consol_array.specs.Joining.{IsStateJoined, LacksSlotRoom}

-- the first state is that which it saw
module _ (table : LogTable) (old mid : Seat) (n slot : ℕ) (from : SlotWord) (of : IsOf table old) (looks : Becomes old mid (saw_slot slot (word_of from) (view_of old)))
  where
    pub MayJoinSlot-looked : (to : SlotWord) → slot ≡ own_slot_of (view_of old) → IsAtRest (view_of old) → MayPlace n (view_of old).books
        → IsStateJoined table.ring n from to → MayJoinSlot slot from to (view_of mid)
    MayJoinSlot-looked to own rests next joins = subst (MayJoinSlot slot from to) (sym (ap (λ me. me.0) looks.me)) record {
      rests = record { active = rests.active; idle = ap (call_seeing slot (word_of from)) rests.idle; whole = rests.whole };
      enters = next.enters;
      own_slot = own;
      gathers = joins.room.gathers;
      phase = joins.phase;
      total = joins.total ∙ ap (λ units. from.total + units) next.size;
      remaining = joins.remaining;
      room = subst (λ (p : ℕ × ℕ). from.total + p.0 ≤ p.1 / 4) (λ i. (next.size i, sym of.ring i)) joins.room.room;
    }

    pub Becomes-looked_and_joined : (new : Seat) (offset : ℕ) → offset ≡ from.total → Becomes mid new (joined_slot slot from.total (word_of from) (view_of mid))
        → Becomes old new (joined_slot slot offset (word_of from) (saw_slot slot (word_of from) (view_of old)))
    Becomes-looked_and_joined new offset is joins =
        Becomes-trans old mid new (saw_slot slot (word_of from) (view_of old)) (λ view. joined_slot slot offset (word_of from) view) looks
        (subst (λ total. Becomes mid new (joined_slot slot total (word_of from) (view_of mid))) (sym is) joins)

    -- by that state the group took no more
    pub LacksSlotRoom-uncontended : slot ≡ own_slot_of (view_of old) → MayPlace n (view_of old).books → LacksSlotRoom table.ring n from → (view_of mid).contended ≡ false
    LacksSlotRoom-uncontended own next lacks = ap (λ me. me.0.contended) looks.me ∙ (ap (λ k. contended_seeing k (word_of from) (view_of old)) own
        ∙ ⊎_elim (λ (other : from.phase ≢ Gathering). clears-unless_gathering (word_of from) (view_of old)
        (λ is. other (sym (phase_back from.phase from.total from.remaining from.total_fits from.remaining_fits) ∙ is)))
        (λ (over : table.ring / 4 < from.total + n). clears-without_room (word_of from) (view_of old)
        (subst (λ (p : ℕ × ℕ × ℕ). p.0 / 4 < p.1 + p.2) (λ i. (sym of.ring i, sym total-is i, next.size i)) over)) lacks)
      where
        total-is : total_in (word_of from) ≡ from.total
        total-is = total_back from.phase from.total from.remaining from.total_fits from.remaining_fits
