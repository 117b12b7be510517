use Rattle.std.proofs.Common.{◌*◌, ◌≤◌, length, take, All}
use Rattle.std.specs.List.Sorted.{IsStrictlyIncreasing}
use Rattle.txn_jobs.specs.Accounts.{HasAccountsOf, IsAccountOf}
use Rattle.txn_jobs.proofs.accounts.list_accounts.Given as goal

pub record Lists (l : goal.Live-legs) : Type 0 where
  pub rising : IsStrictlyIncreasing l.accounts.items
  pub all : All (HasAccountsOf l.accounts.items) (take l.leg-index l.leg-items)
  pub only : All (IsAccountOf l.leg-items) l.accounts.items
  pub few : length l.accounts.items ≤ 2 * l.leg-index

abbrev pub invariant-legs : goal.invariant-legs
invariant-legs l = Lists l
