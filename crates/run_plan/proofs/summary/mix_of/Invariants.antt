use Rattle.std.proofs.Common.{◌≡◌, ◌≤◌, ◌*◌}
use Rattle.run_plan.specs.Summary.{balance_in, mix_below}
use Rattle.run_plan.proofs.summary.mix_of.Given as goal

abbrev pub invariant-loop-account : goal.invariant-loop-account
invariant-loop-account l = record {
  mix : l.mix ≡ mix_below l.account (balance_in l.accounts.rows);
  small : l.mix ≤ l.account * (4096 * 18446744073709551615);
}
