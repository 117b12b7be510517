use Rattle.std.proofs.Common.{arith, ◌≡◌, ◌/◌, ◌∙◌, ap, subst}
use Rattle.slot_word.specs.declared.phase.Phase.TheVariants as kind
use Rattle.slot_word.specs.SlotWord.{packed, word_of}
use Rattle.log_table.specs.Seats.{view_of, number_of, key_of}
use Rattle.log_rule.specs.SlotViews.{closed_slot, IsGatheringWord}
use Rattle.log_rule.proofs.SlotAllowing.{close_slot-allowed}
use Rattle.log_rule.proofs.SlotClosing.{close-step}
use Rattle.log_table.proofs.Stepping.{MovesBase-becomes_called, word-of_state}
use Rattle.log_table.proofs.table.LogTable.close_slot.Goals as goal

pub swap-word-requires : goal.swap-word-requires
swap-word-requires c =
    let is : c.pack-closed.result ≡ packed kind.Pending 0 0 = c.pack-closed.ensures.word
    ∙ (λ i. packed (c.pending.ensures.phase i) (c.pending.ensures.total i) (c.pending.ensures.remaining i)) in (
      c.requires.seat.table_is,
      omega (arith, c.args.self.now.sized, c.slot_place-place.ensures, c.requires.slot),
      close_slot-allowed (key_of c.args.self.now) _ (number_of c.args.seat.now) c.args.seat.now.base.me _ _ _ _ c.slot_place-place.ensures
          c.args.self.now.keyed c.args.self.now.slotted c.requires.slot _ is c.requires.next,
    )

pub unpack-requires : goal.unpack-requires
unpack-requires c = c.swap-word.ensures.2.1.slot_word

-- the word that was found is that of the answer
found : (c : goal.After-unpack) → c.swap-word.result ≡ word_of c.unpack.result
found c = let state = c.unpack.ensures in word-of_state _ c.unpack.result c.swap-word.type_inv state.phase state.total state.remaining

pub returns-clause-view : goal.returns-clause-view
returns-clause-view c = MovesBase-becomes_called _ (ap (λ word. closed_slot word (view_of c.args.seat.now)) (found c)) c.swap-word.ensures

pub returns-clause-gathers : goal.returns-clause-gathers
returns-clause-gathers c = subst (IsGatheringWord ((view_of c.args.seat.now).constants.ring / 4)) (found c) c.swap-word.ensures.2.1

pub returns-clause-event : goal.returns-clause-event
returns-clause-event c = close-step _ _ _ _ _ c.args.self.now.slotted c.requires.slot c.requires.next _
