use Rattle.std.proofs.Common.{◌≡◌, ◌≤◌, ◌*◌}
use Rattle.lock_core.specs.Sums.{sum_below}
use Rattle.run_plan.specs.Summary.{balance_in}
use Rattle.run_plan.proofs.summary.total_of.Given as goal

abbrev pub invariant-loop-account : goal.invariant-loop-account
invariant-loop-account l = record {
  total : l.total ≡ sum_below l.account (balance_in l.accounts.rows);
  small : l.total ≤ l.account * 18446744073709551615;
}
