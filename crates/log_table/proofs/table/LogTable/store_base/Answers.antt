use Rattle.std.proofs.Common.{arith}
use Rattle.log_table.specs.Seats.{number_of, key_of}
use Rattle.log_rule.proofs.SlotAllowing.{store_base-allowed}
use Rattle.log_rule.proofs.SlotStoring.{granted-step, refused-step}
use Rattle.log_table.proofs.Stepping.{MovesBase-becomes}
use Rattle.log_table.proofs.table.LogTable.store_base.Goals as goal

pub store-requires : goal.store-requires
store-requires c = (
  c.requires.seat.table_is,
  omega (arith, c.args.self.now.sized, c.base_place-place.ensures, c.requires.slot),
  store_base-allowed (key_of c.args.self.now) _ (number_of c.args.seat.now) c.args.seat.now.base.me _ _ _ _ c.base_place-place.ensures
      c.args.self.now.keyed c.args.self.now.slotted c.requires.slot c.args.word c.requires.next,
)

pub returns-clause-view : goal.returns-clause-view
returns-clause-view c = MovesBase-becomes c.store.ensures

pub returns-clause-granted : goal.returns-clause-granted
returns-clause-granted c = granted-step _ _ _ _ _ _ c.args.self.now.slotted c.requires.slot

pub returns-clause-refused : goal.returns-clause-refused
returns-clause-refused c = refused-step _ _ _ _ _ _ c.args.self.now.slotted c.requires.slot
