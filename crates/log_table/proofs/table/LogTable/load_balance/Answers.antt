use Rattle.std.proofs.Common.{arith, rules, refl}
use Rattle.log_rule.proofs.Allowing.{load_balance-allowed}
use Rattle.log_rule.proofs.AccountSteps.{load_balance-step}
use Rattle.log_table.proofs.table.LogTable.load_balance.Goals as goal

pub load-requires : goal.load-requires
load-requires c = (
  c.requires.seat.table_is,
  omega (arith, c.args.self.now.sized, c.balance_place-place.ensures, c.requires.account),
  load_balance-allowed _ _ _ _ _ _ _ _ _ c.args.account c.balance_place-place.ensures c.args.self.now.keyed c.args.self.now.slotted c.args.self.now.counted c.requires.account refl c.requires.next,
)

pub returns : goal.returns
returns c = record { view = search rules steps 2000000; range = search rules steps 2000000; event = load_balance-step _ _ _ _ c.requires.next _ }
