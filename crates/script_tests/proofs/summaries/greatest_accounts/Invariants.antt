use Rattle.std.proofs.Common.{◌≡◌, length}
use Rattle.script_tests.proofs.summaries.greatest_accounts.Given as goal

abbrev pub invariant-accounts : goal.invariant-accounts
invariant-accounts l = record {
  count : length l.accounts.rows ≡ l.counter;
  room : l.accounts.room ≡ 4096;
}
