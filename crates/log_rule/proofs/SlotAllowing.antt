-- Each kind of step on a slot is one that the base crate allows.
use Rattle.std.proofs.Common.{◌≡◌, ⊎_elim, ℕ, ◌+◌, ◌*◌, ◌/◌, ◌<◌, eqb, length, refl, subst, sym, ap, ◌∙◌}
use prog.Atomic.{either}
use Rattle.atomic_table.specs.Table.{Me, Allows}
use Rattle.slot_word.specs.declared.phase.Phase.TheVariants as kind
use Rattle.slot_word.specs.declared.slot_word.SlotWord.{SlotWord}
use Rattle.slot_word.specs.SlotWord.{packed, word_of, total_in, IsSlotWord}
use Rattle.slot_word.proofs.SlotWordLemmas.{total_back}
use Rattle.log_rule.specs.Events.{closes, hears, none, refuses, reopens, stores_base, tells}
use Rattle.table_layout.specs.declared.layout.TheConstants.{STRIDE, RING}
use Rattle.log_rule.specs.declared.start.Start.{Start}
use Rattle.log_rule.specs.declared.view.View.{View}
use Rattle.table_layout.specs.Layout.{Slot, Base}
use Rattle.log_rule.specs.May.{MayJoinSlot, MayCloseSlot, MayStoreBase, MayStoreGranted, MayStoreRefused, MayPublish, MayLoadBase, MayReopen}
use Rattle.log_rule.specs.SlotViews.{own_slot_of, saw_slot, after_join, closed_slot, stored_base, published, heard_base, reopened, IsGatheringWord, TellsMember, TellsWaiting}
use Rattle.log_rule.specs.Sound.{Ruled}
use Rattle.log_rule.proofs.Lifting.{allowed-if_step}
use Rattle.log_rule.proofs.SlotClosing.{close-step, close-tells_gathering_word}
use Rattle.log_rule.proofs.SlotHearing.{hear-step, hear-tells_member}
use Rattle.log_rule.proofs.SlotJoining.{join-event, join-step}
use Rattle.log_rule.proofs.SlotLooks.{saw_slot-step, slot-tells_slot_word}
use Rattle.log_rule.proofs.SlotReopening.{reopen-step}
use Rattle.log_rule.proofs.SlotStoring.{granted-step, refused-step}
use Rattle.log_rule.proofs.SlotTelling.{publish-step}
use Rattle.log_rule.proofs.ToldWaiting.{slot-tells_waiting}
use Rattle.table_layout.proofs.WordPlaces.{Fits, of_slot, of_base}

module _ (key : Start) (slots seat : ℕ) (me : Me (Unit {0}) View) where
  module _ (place ring number slot picked : ℕ) (at : place ≡ RING + ring + ring + STRIDE * slot) (same : key.ring ≡ ring)
      (slotted : key.slots ≡ number) (below : slot < number) (is : picked ≡ slot) where
    pub fits-slot : Fits key.ring key.slots (length key.accounts.rows) (Slot slot)
    fits-slot = of_slot slot (subst (λ n. slot < n) (sym slotted) below)

    -- the word at that place, with the number as it was picked
    pub allows-at_slot_place : (left : ℕ → ℕ) (then : ℕ → ℕ → Me (Unit {0}) View → Type 0)
        → Allows (Ruled key) slots seat me (RING + key.ring + key.ring + STRIDE * slot) left (then slot)
        → Allows (Ruled key) slots seat me place left (then picked)
    allows-at_slot_place left then allows = subst (λ (p : ℕ × ℕ). Allows (Ruled key) slots seat me p.0 left (then p.1))
        (λ i. ((ap (λ r. RING + r + r + STRIDE * slot) same ∙ sym at) i, sym is i)) allows

    pub load_slot-allowed : Allows (Ruled key) slots seat me place (λ n. n)
        (λ n new. (new ≡ (saw_slot picked n me.0, me.1)) × (IsSlotWord n × TellsWaiting picked n me.0))
    load_slot-allowed = allows-at_slot_place (λ n. n) (λ p n new. (new ≡ (saw_slot p n me.0, me.1)) × (IsSlotWord n × TellsWaiting p n me.0))
        (allowed-if_step key slots seat me (Slot slot) fits-slot (λ n. n) (λ n. saw_slot slot n me.0) (λ _. none)
        (λ n. IsSlotWord n × TellsWaiting slot n me.0) (slot-tells_waiting key seat me.0 slot) (λ n _. saw_slot-step key seat me.0 slot n))

  -- the slot's number stands in the seat's call
  module _ (place ring number slot : ℕ) (at : place ≡ RING + ring + ring + STRIDE * slot) (same : key.ring ≡ ring)
      (slotted : key.slots ≡ number) (below : slot < number) where
    pub join_slot-allowed : (from to : SlotWord) (free joined : ℕ) → free ≡ word_of from → joined ≡ word_of to → MayJoinSlot slot from to me.0
        → Allows (Ruled key) slots seat me place (λ n. either (eqb n free) joined n)
        (λ n new. (new ≡ (after_join (own_slot_of me.0) (total_in free) free n me.0, me.1)) × IsSlotWord n)
    join_slot-allowed from to free joined free-is joined-is may =
        subst (λ (p : ℕ × ℕ × ℕ × ℕ). Allows (Ruled key) slots seat me place (λ n. either (eqb n p.2) p.3 n)
        (λ n new. (new ≡ (after_join p.0 p.1 p.2 n me.0, me.1)) × IsSlotWord n)) (λ i. (may.own_slot i, total-is i, sym free-is i, sym joined-is i))
        (allows-at_slot_place place ring number slot slot at same slotted below refl (λ n. either (eqb n (word_of from)) (word_of to) n)
        (λ _ n new. (new ≡ (after_join slot from.total (word_of from) n me.0, me.1)) × IsSlotWord n)
        (allowed-if_step key slots seat me (Slot slot) (fits-slot place ring number slot slot at same slotted below refl)
        (λ n. either (eqb n (word_of from)) (word_of to) n) (λ n. after_join slot from.total (word_of from) n me.0)
        (join-event key seat me.0 slot number from to slotted below may) IsSlotWord (slot-tells_slot_word key seat me.0 slot)
        (λ n _. join-step key seat me.0 slot number from to slotted below may n)))
      where
        total-is : from.total ≡ total_in free
        total-is = sym (ap total_in free-is ∙ total_back from.phase from.total from.remaining from.total_fits from.remaining_fits)

    pub close_slot-allowed : (value : ℕ) → value ≡ packed kind.Pending 0 0 → MayCloseSlot slot me.0
        → Allows (Ruled key) slots seat me place (λ _. value)
        (λ n new. (new ≡ (closed_slot n me.0, me.1)) × IsGatheringWord (me.0.constants.ring / 4) n)
    close_slot-allowed value is may =
        subst (λ w. Allows (Ruled key) slots seat me place (λ _. w)
        (λ n new. (new ≡ (closed_slot n me.0, me.1)) × IsGatheringWord (me.0.constants.ring / 4) n)) (sym is)
        (allows-at_slot_place place ring number slot slot at same slotted below refl (λ _. packed kind.Pending 0 0)
        (λ _ n new. (new ≡ (closed_slot n me.0, me.1)) × IsGatheringWord (me.0.constants.ring / 4) n)
        (allowed-if_step key slots seat me (Slot slot) (fits-slot place ring number slot slot at same slotted below refl)
        (λ _. packed kind.Pending 0 0) (λ n. closed_slot n me.0) (λ _. closes seat) (IsGatheringWord (me.0.constants.ring / 4))
        (close-tells_gathering_word key seat me.0 slot number slotted below may) (λ n _. close-step key seat me.0 slot number slotted below may n)))

    pub reopen-allowed : MayReopen slot me.0 → Allows (Ruled key) slots seat me place (λ _. 0) (λ _ new. (new ≡ (reopened me.0, me.1)) × Unit {0})
    reopen-allowed may = allows-at_slot_place place ring number slot slot at same slotted below refl (λ _. 0)
        (λ _ _ new. (new ≡ (reopened me.0, me.1)) × Unit {0})
        (allowed-if_step key slots seat me (Slot slot) (fits-slot place ring number slot slot at same slotted below refl)
        (λ _. 0) (λ _. reopened me.0) (λ _. reopens seat) (λ _. Unit {0})
        (λ _ _ _ _ _. tt) (λ n _. reopen-step key seat me.0 slot number slotted below may n))

    pub publish-allowed : (word : SlotWord) (value : ℕ) → value ≡ word_of word → MayPublish slot word me.0
        → Allows (Ruled key) slots seat me place (λ _. value) (λ _ new. (new ≡ (published me.0, me.1)) × Unit {0})
    publish-allowed word value is may =
        subst (λ w. Allows (Ruled key) slots seat me place (λ _. w) (λ _ new. (new ≡ (published me.0, me.1)) × Unit {0})) (sym is)
        (allows-at_slot_place place ring number slot slot at same slotted below refl (λ _. word_of word)
        (λ _ _ new. (new ≡ (published me.0, me.1)) × Unit {0})
        (allowed-if_step key slots seat me (Slot slot) (fits-slot place ring number slot slot at same slotted below refl)
        (λ _. word_of word) (λ _. published me.0) (λ _. tells seat) (λ _. Unit {0})
        (λ _ _ _ _ _. tt) (λ n _. publish-step key seat me.0 slot number word slotted below may n)))

  module _ (place ring number slot : ℕ) (at : place ≡ RING + ring + ring + STRIDE * (number + slot)) (same : key.ring ≡ ring)
      (slotted : key.slots ≡ number) (below : slot < number) where
    fits-base : Fits key.ring key.slots (length key.accounts.rows) (Base slot)
    fits-base = of_base slot (subst (λ n. slot < n) (sym slotted) below)

    placed : RING + key.ring + key.ring + STRIDE * (key.slots + slot) ≡ place
    placed = (λ i. RING + same i + same i + STRIDE * (slotted i + slot)) ∙ sym at

    pub store_base-allowed : (word : ℕ) → MayStoreBase slot word me.0
        → Allows (Ruled key) slots seat me place (λ _. word) (λ _ new. (new ≡ (stored_base me.0, me.1)) × Unit {0})
    store_base-allowed word may =
        subst (λ n. Allows (Ruled key) slots seat me n (λ _. word) (λ _ new. (new ≡ (stored_base me.0, me.1)) × Unit {0})) placed
        (⊎_elim
        (λ (granted : MayStoreGranted slot word me.0). allowed-if_step key slots seat me (Base slot) fits-base (λ _. word)
        (λ _. stored_base me.0) (λ _. stores_base seat) (λ _. Unit {0}) (λ _ _ _ _ _. tt)
        (λ n _. granted-step key seat me.0 slot number word slotted below granted n))
        (λ (refused : MayStoreRefused slot word me.0). allowed-if_step key slots seat me (Base slot) fits-base (λ _. word)
        (λ _. stored_base me.0) (λ _. refuses seat me.0.seen.tail me.0.seen.durable) (λ _. Unit {0}) (λ _ _ _ _ _. tt)
        (λ n _. refused-step key seat me.0 slot number word slotted below refused n)) may)

    pub load_base-allowed : MayLoadBase slot me.0
        → Allows (Ruled key) slots seat me place (λ n. n) (λ n new. (new ≡ (heard_base n me.0, me.1)) × TellsMember n me.0)
    load_base-allowed may =
        subst (λ at. Allows (Ruled key) slots seat me at (λ n. n) (λ n new. (new ≡ (heard_base n me.0, me.1)) × TellsMember n me.0)) placed
        (allowed-if_step key slots seat me (Base slot) fits-base (λ n. n) (λ n. heard_base n me.0) (λ _. hears seat) (λ n. TellsMember n me.0)
        (hear-tells_member key seat me.0 slot number slotted below may) (λ n _. hear-step key seat me.0 slot number slotted below may n))
