-- The summary of generated transfers.
use Rattle.std.specs.Prelude.{ℕ, ◌+◌, ◌*◌, List, replicate}
use Rattle.lock_core.specs.Sums.{sum_below}
use Rattle.txn_script.specs.declared.generator.TheConstants.{GENERATED_ACCOUNTS, GENERATED_BALANCE}
use Rattle.txn_script.specs.Generator.{generated_balance}
use Rattle.log_recovery.specs.Opened.{OpenedList}
use Rattle.cli_shared.specs.Creation.{new_list}
pub use Rattle.run_plan.specs.Generated.{generated_rows}
pub use Rattle.run_plan.specs.Summary.{balance_in, mix_below, summary_lines, summary_of}

-- the list on which generated transfers run: their accounts, each with the balance that it begins with
abbrev pub generated_opening : OpenedList
generated_opening = new_list (replicate GENERATED_ACCOUNTS GENERATED_BALANCE)

-- the summary of so many generated transfers: all are done, 5 units each behind the 2 of each account
abbrev pub summary_text : ℕ → ℕ → List ℕ
summary_text n seed =
    let balance = generated_balance n seed in
    summary_lines n n 0 (2 * GENERATED_ACCOUNTS + 5 * n) (sum_below GENERATED_ACCOUNTS balance) (mix_below GENERATED_ACCOUNTS balance)
