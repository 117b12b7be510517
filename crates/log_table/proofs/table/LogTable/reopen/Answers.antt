use Rattle.std.proofs.Common.{arith}
use Rattle.log_table.specs.Seats.{number_of, key_of}
use Rattle.log_rule.proofs.SlotAllowing.{reopen-allowed}
use Rattle.log_rule.proofs.SlotReopening.{reopen-step}
use Rattle.log_table.proofs.Stepping.{MovesBase-becomes}
use Rattle.log_table.proofs.table.LogTable.reopen.Goals as goal

pub store-requires : goal.store-requires
store-requires c = (
  c.requires.seat.table_is,
  omega (arith, c.args.self.now.sized, c.slot_place-place.ensures, c.requires.slot),
  reopen-allowed (key_of c.args.self.now) _ (number_of c.args.seat.now) c.args.seat.now.base.me _ _ _ _ c.slot_place-place.ensures
      c.args.self.now.keyed c.args.self.now.slotted c.requires.slot c.requires.next,
)

pub returns : goal.returns
returns c = record { view = MovesBase-becomes c.store.ensures; event = reopen-step _ _ _ _ _ c.args.self.now.slotted c.requires.slot c.requires.next }
