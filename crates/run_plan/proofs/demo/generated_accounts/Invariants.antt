use Rattle.std.proofs.Common.{◌≡◌, replicate}
use Rattle.run_plan.proofs.demo.generated_accounts.Given as goal

abbrev pub invariant-accounts : goal.invariant-accounts
invariant-accounts l = record {
  rows : l.accounts.rows ≡ replicate l.counter (1000000, 0);
  room : l.accounts.room ≡ 64;
}
