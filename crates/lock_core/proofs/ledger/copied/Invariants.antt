use Rattle.std.proofs.Common.{◌≡◌, ◌≤◌, length, take}
use Rattle.lsn_space.specs.declared.opening.TheConstants.{MOST_ACCOUNTS}
use Rattle.lock_core.proofs.ledger.copied.Given as goal

-- the accounts so far are copied
abbrev pub invariant-accounts : goal.invariant-accounts
invariant-accounts l = record {
  end : l.account-end ≡ length l.fn.accounts.rows;
  below : l.account ≤ l.account-end;
  rows : l.copy.rows ≡ take l.account l.fn.accounts.rows;
  room : l.copy.room ≡ MOST_ACCOUNTS;
}
