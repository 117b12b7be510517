use Rattle.std.proofs.Common.{arith, ◌≡◌, ◌/◌, ap, subst}
use Rattle.slot_word.specs.SlotWord.{word_of}
use Rattle.log_table.specs.Seats.{view_of, number_of, key_of}
use Rattle.log_rule.specs.SlotViews.{released_piece, HasToRelease}
use Rattle.log_rule.proofs.SlotReleased.{release_slot-allowed, release-step, less-minus}
use Rattle.log_table.proofs.Stepping.{MovesBase-becomes_called, word-of_state}
use Rattle.log_table.proofs.table.LogTable.release_slot.Goals as goal

pub fetch_sub-word-requires : goal.fetch_sub-word-requires
fetch_sub-word-requires c = (
  c.requires.seat.table_is,
  omega (arith, c.args.self.now.sized, c.slot_place-place.ensures, c.requires.slot),
  release_slot-allowed (key_of c.args.self.now) _ (number_of c.args.seat.now) c.args.seat.now.base.me _ _ _ _ _ c.slot_place-place.ensures
      c.args.self.now.keyed c.args.self.now.slotted c.requires.slot c.requires.next,
)

pub unpack-requires : goal.unpack-requires
unpack-requires c = c.fetch_sub-word.ensures.2.1.slot_word

-- the word that was found is that of the answer
found : (c : goal.After-unpack) → c.fetch_sub-word.result ≡ word_of c.unpack.result
found c = let state = c.unpack.ensures in word-of_state _ c.unpack.result c.fetch_sub-word.type_inv state.phase state.total state.remaining

pub returns-clause-view : goal.returns-clause-view
returns-clause-view c = MovesBase-becomes_called _ (ap (λ word. released_piece word (view_of c.args.seat.now)) (found c)) c.fetch_sub-word.ensures

pub returns-clause-told : goal.returns-clause-told
returns-clause-told c = subst (HasToRelease ((view_of c.args.seat.now).constants.ring / 4) c.args.n (view_of c.args.seat.now).call) (found c) c.fetch_sub-word.ensures.2.1

pub returns-clause-event : goal.returns-clause-event
returns-clause-event c = release-step _ _ _ _ _ _ c.args.self.now.slotted c.requires.slot c.requires.next _ _ (less-minus _ _)
