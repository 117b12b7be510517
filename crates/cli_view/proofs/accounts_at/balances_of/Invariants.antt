use Rattle.std.proofs.Common.{◌≡◌, List, length}
use Rattle.log_record.specs.declared.rec.Placed.{Placed}
use Rattle.lock_core.specs.Sums.{Opening}
use Rattle.lock_core.specs.Taking.{HasJudged}
use Rattle.cli_view.specs.Balances.{AreBalances}
use Rattle.cli_view.proofs.accounts_at.balances_of.Given as goal

abbrev pub invariant-accounts : goal.invariant-accounts
invariant-accounts l = record {
  count : length l.balances.rows ≡ l.account;
  room : l.balances.room ≡ l.initial.balances.room;
  each : (opening : Opening) (h : List Placed) → HasJudged opening l.judge h → AreBalances opening h l.balances.rows;
}
