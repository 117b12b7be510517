use Rattle.std.proofs.Common.{arith}
use Rattle.log_table.specs.Seats.{number_of, key_of}
use Rattle.log_rule.proofs.SlotAllowing.{load_base-allowed}
use Rattle.log_rule.proofs.SlotHearing.{hear-step}
use Rattle.log_table.proofs.Stepping.{MovesBase-becomes}
use Rattle.log_table.proofs.table.LogTable.load_base.Goals as goal

pub load-requires : goal.load-requires
load-requires c = (
  c.requires.seat.table_is,
  omega (arith, c.args.self.now.sized, c.base_place-place.ensures, c.requires.slot),
  load_base-allowed (key_of c.args.self.now) _ (number_of c.args.seat.now) c.args.seat.now.base.me _ _ _ _ c.base_place-place.ensures
      c.args.self.now.keyed c.args.self.now.slotted c.requires.slot c.requires.next,
)

pub returns-clause-event : goal.returns-clause-event
returns-clause-event c = hear-step _ _ _ _ _ c.args.self.now.slotted c.requires.slot c.requires.next _

pub returns-clause-view : goal.returns-clause-view
returns-clause-view c = MovesBase-becomes c.load.ensures

pub returns-clause-tells : goal.returns-clause-tells
returns-clause-tells c = c.load.ensures.2.1
