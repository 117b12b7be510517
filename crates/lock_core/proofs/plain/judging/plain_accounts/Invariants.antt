use Rattle.std.proofs.Common.{◌≡◌, take, reverse}
use Rattle.lock_core.specs.History.{end_from}
use Rattle.lock_core.specs.Sums.{no_opening}
use Rattle.lock_core.specs.Judging.{IsJudged}
use Rattle.lock_core.proofs.plain.judging.plain_accounts.Given as goal

abbrev pub invariant-entries : goal.invariant-entries
invariant-entries l = record {
  judged : IsJudged no_opening l.accounts (reverse (take l.i l.entries));
  start : l.start ≡ end_from 0 (reverse (take l.i l.entries));
}
