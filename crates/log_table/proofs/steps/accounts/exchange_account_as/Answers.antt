use Rattle.std.proofs.Common.{rules, arith}
use Rattle.log_rule.proofs.Allowing.{exchange_account-allowed}
use Rattle.log_rule.proofs.AccountSteps.{FitsWord, took_account-step, saw_account-step}
use Rattle.log_table.proofs.steps.accounts.exchange_account_as.Goals as goal

pub compare_exchange-found-requires : goal.compare_exchange-found-requires
compare_exchange-found-requires g c =
    let from-fits : FitsWord c.args.from = search rules in
    let to-fits : FitsWord c.args.to = search rules in (
      c.requires.seat.table_is,
      omega (arith, c.args.table.now.sized, c.account_place-place.ensures, c.requires.account),
      exchange_account-allowed _ _ _ _ _ _ _ _ _ _ c.account_place-place.ensures c.args.table.now.keyed c.args.table.now.slotted c.args.table.now.counted c.requires.account
          c.requires.named _ _ _ _ c.pack.ensures c.pack-2.ensures from-fits to-fits c.requires.next,
    )

pub returns-then-found-pack : goal.returns-then-found-pack
returns-then-found-pack g c =
    let table = c.args.table.now in
    let fits : FitsWord c.args.from = search rules in
    let fits_to : FitsWord c.args.to = search rules in record {
      ok = search rules steps 2000000;
      ok_event = took_account-step _ _ _ _ _ table.counted c.requires.account _ _ fits fits_to c.requires.next;
      err = tt;
      own = tt;
      err_event = tt;
    }

pub returns-else-found-pack : goal.returns-else-found-pack
returns-else-found-pack g c = record {
  ok = tt;
  ok_event = tt;
  err = search rules steps 2000000;
  own = search rules steps 2000000;
  err_event = saw_account-step _ _ _ _ _;
}
