use Rattle.std.proofs.Common.{rules, arith, ap}
use Rattle.log_rule.specs.AccountViews.{gave_account}
use Rattle.log_table.specs.Seats.{view_of}
use Rattle.log_rule.proofs.Allowing.{store_account-allowed}
use Rattle.log_rule.proofs.AccountSteps.{FitsWord, give-step}
use Rattle.log_table.proofs.Stepping.{MovesBase-becomes_called}
use Rattle.log_table.proofs.steps.accounts.store_account_as.Goals as goal

pub store-requires : goal.store-requires
store-requires g c =
    let fits : FitsWord c.args.word = search rules in (
      c.requires.seat.table_is,
      omega (arith, c.args.table.now.sized, c.account_place-place.ensures, c.requires.account),
      store_account-allowed _ _ _ _ _ _ _ _ _ _ c.account_place-place.ensures c.args.table.now.keyed c.args.table.now.slotted c.args.table.now.counted c.requires.account
          c.requires.named _ _ c.pack.ensures fits c.requires.next,
    )

pub returns : goal.returns
returns g c =
    let fits : FitsWord c.args.word = search rules in record {
      view = MovesBase-becomes_called _ (ap (λ account. gave_account account (view_of c.args.seat.now)) c.requires.named) c.store.ensures;
      event = give-step _ _ _ _ _ fits c.requires.next;
    }
