use Rattle.std.proofs.Common.{arith}
use Rattle.log_table.specs.Seats.{number_of, key_of}
use Rattle.log_rule.proofs.SlotAllowing.{publish-allowed}
use Rattle.log_rule.proofs.SlotTelling.{publish-step}
use Rattle.log_table.proofs.Stepping.{MovesBase-becomes}
use Rattle.log_table.proofs.table.LogTable.publish.Goals as goal

pub store-requires : goal.store-requires
store-requires c = (
  c.requires.seat.table_is,
  omega (arith, c.args.self.now.sized, c.slot_place-place.ensures, c.requires.slot),
  publish-allowed (key_of c.args.self.now) _ (number_of c.args.seat.now) c.args.seat.now.base.me _ _ _ _ c.slot_place-place.ensures
      c.args.self.now.keyed c.args.self.now.slotted c.requires.slot c.args.word _ c.pack-told.ensures.word c.requires.next,
)

pub returns : goal.returns
returns c = record { view = MovesBase-becomes c.store.ensures; event = publish-step _ _ _ _ _ _ c.args.self.now.slotted c.requires.slot c.requires.next }
