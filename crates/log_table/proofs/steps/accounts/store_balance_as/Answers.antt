use Rattle.std.proofs.Common.{arith, ap}
use Rattle.log_rule.specs.AccountViews.{stored_balance}
use Rattle.log_table.specs.Seats.{view_of}
use Rattle.log_rule.proofs.Allowing.{store_balance-allowed}
use Rattle.log_rule.proofs.AccountSteps.{store_balance-step}
use Rattle.log_table.proofs.Stepping.{MovesBase-becomes_called}
use Rattle.log_table.proofs.steps.accounts.store_balance_as.Goals as goal

pub store-requires : goal.store-requires
store-requires g c = (
  c.requires.seat.table_is,
  omega (arith, c.args.table.now.sized, c.balance_place-place.ensures, c.requires.account),
  store_balance-allowed _ _ _ _ _ _ _ _ _ _ c.balance_place-place.ensures c.args.table.now.keyed c.args.table.now.slotted c.args.table.now.counted c.requires.account
      c.requires.named _ c.requires.next,
)

pub returns : goal.returns
returns g c = record {
  view = MovesBase-becomes_called _ (ap (λ account. stored_balance account c.args.balance (view_of c.args.seat.now)) c.requires.named) c.store.ensures;
  event = store_balance-step _ _ _ _ _ c.requires.next;
}
