use Rattle.std.proofs.Common.{◌≤◌, length, sym}
use Rattle.ledger_view.proofs.ViewLemmas.{unknown-up_to}
use Rattle.ledger_view.proofs.view.View.balance_at.Goals as goal

pub returns-in_default-2-clause-balance : goal.returns-in_default-2-clause-balance
returns-in_default-2-clause-balance c =
    let none : length c.args.self.now.accounts ≤ c.args.account = rw c.in_default.is at c.account.ensures.none in
    λ opening h viewed. sym (unknown-up_to opening c.args.self.now h c.args.account c.args.lsn viewed none)
