use Rattle.std.proofs.Common.{◌≢◌}
use Rattle.std.specs.List.{AllWithin}
use Rattle.txn_parts.specs.declared.taken_account.TakenAccount.{TakenAccount}
use Rattle.txn_parts.proofs.leg.holding_of.Given as goal

abbrev pub invariant-holdings : goal.invariant-holdings
invariant-holdings l = AllWithin (λ (holding : TakenAccount). holding.taken.account ≢ l.account) l.holdings 0 l.holding-index
