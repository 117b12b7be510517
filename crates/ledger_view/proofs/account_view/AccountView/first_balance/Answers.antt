use Rattle.std.proofs.Common.{◌<◌, arith}
use Rattle.lock_core.specs.Lawful.{base_with}
use Rattle.ledger_view.proofs.AccountViewLemmas.{kept-sums}
use Rattle.ledger_view.proofs.account_view.AccountView.first_balance.Goals as goal

pub first_balance-requires : goal.first_balance-requires
first_balance-requires c =
    let given = c.requires.kept in let kept = given.3 in
    let inside : c.args.self.now.account < (base_with given.1 given.2).accounts
    = omega (arith, c.if-self-accounts.true, c.accounts.ensures.accounts given.1 given.2 kept.judged) in
    record { sums = kept-sums given.0 given.1 c.args.self.now given.2 kept inside c.balance.result (c.balance.ensures given.1 given.2 kept.judged) }
