use Rattle.std.proofs.Common.{[]}
use Rattle.lock_core.specs.AccountRows.{opening_of}
use Rattle.ledger_view.proofs.ViewLemmas.{views-none}
use Rattle.ledger_view.proofs.view.View.make.Goals as goal

pub returns : goal.returns
returns c = views-none (opening_of c.args.opening.now) c.in_ok-judge.judge c.accounts.result c.in_ok-accounts.accounts
    c.in_ok-judge.ensures
    (c.accounts.ensures.accounts (opening_of c.args.opening.now) [] c.in_ok-judge.ensures)
    c.in_ok-accounts.ensures
