use Rattle.std.proofs.Common.{◌≡◌, replicate}
use Rattle.ledger_view.specs.ViewedAccounts.{untouched}
use Rattle.ledger_view.proofs.accounts.Accounts.make.Given as goal

abbrev pub invariant-accounts : goal.invariant-accounts
invariant-accounts l = l.accounts ≡ replicate l.counter untouched
