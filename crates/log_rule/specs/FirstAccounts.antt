-- What a table starts with.
use Rattle.std.specs.Prelude.{ℕ, ◌<◌, ◌≤◌, length}
use Rattle.lsn_space.specs.declared.opening.TheConstants.{MOST_ACCOUNTS}
use Rattle.lock_core.specs.AccountRows.{row, AreRowsInRange}
use Rattle.log_rule.specs.declared.start.Start.{Start}

-- 1 to MOST_ACCOUNTS accounts, with balances in their range and last commits that end at most where the log does
pub record HasAccounts (key : Start) : Type 0 where
  pub some_accounts : 1 ≤ length key.accounts.rows
  pub few : length key.accounts.rows ≤ MOST_ACCOUNTS
  pub balances : AreRowsInRange key.accounts.rows
  pub last_commits : (account : ℕ) → account < length key.accounts.rows → (row key.accounts.rows account).1 ≤ key.start
