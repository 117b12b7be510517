use Rattle.std.proofs.Common.{rules, arith}
use Rattle.log_rule.proofs.Allowing.{load_account-allowed}
use Rattle.log_rule.proofs.AccountSteps.{saw_account-step}
use Rattle.log_table.proofs.steps.accounts.load_account_as.Goals as goal

pub load-requires : goal.load-requires
load-requires g c = (
  c.requires.seat.table_is,
  omega (arith, c.args.table.now.sized, c.account_place-place.ensures, c.requires.account),
  load_account-allowed _ _ _ _ _ _ _ _ _ _ c.account_place-place.ensures c.args.table.now.keyed c.args.table.now.slotted c.args.table.now.counted c.requires.account c.requires.named,
)

pub returns : goal.returns
returns g c = record { view = search rules steps 2000000; own = search rules steps 2000000; event = saw_account-step _ _ _ _ _ }
