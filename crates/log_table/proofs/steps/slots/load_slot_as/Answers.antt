use Rattle.std.proofs.Common.{arith, ℕ, subst}
use Rattle.log_table.specs.Seats.{view_of}
use Rattle.log_rule.specs.SlotViews.{saw_slot, TellsWaiting}
use Rattle.log_rule.proofs.SlotAllowing.{load_slot-allowed}
use Rattle.log_rule.proofs.SlotLooks.{saw_slot-step}
use Rattle.log_table.proofs.Stepping.{MovesBase-becomes_called, word-of_state}
use Rattle.log_table.proofs.steps.slots.load_slot_as.Goals as goal

pub load-word-requires : goal.load-word-requires
load-word-requires g c = (
  c.requires.seat.table_is,
  omega (arith, c.args.table.now.sized, c.slot_place-place.ensures, c.requires.slot),
  load_slot-allowed _ _ _ _ _ _ _ _ _ c.slot_place-place.ensures c.args.table.now.keyed c.args.table.now.slotted c.requires.slot c.requires.named,
)

pub unpack-requires : goal.unpack-requires
unpack-requires g c = c.load-word.ensures.2.1.0

pub returns : goal.returns
returns g c =
    let step = c.load-word.ensures in
    let state = c.unpack.ensures in
    let is = word-of_state _ c.unpack.result c.load-word.type_inv state.phase state.total state.remaining in record {
      view = MovesBase-becomes_called _ (λ i. saw_slot (c.requires.named i) (is i) (view_of c.args.seat.now)) step;
      tells = subst (λ (p : ℕ × ℕ). TellsWaiting p.0 p.1 (view_of c.args.seat.now)) (λ i. (c.requires.named i, is i)) step.2.1.1;
      event = saw_slot-step _ _ _ _ _;
    }
