use Rattle.std.proofs.Common.{◌≡◌, ◌≤◌, List, ℕ, ◌++◌, length, map, All}
use Rattle.lsn_space.specs.Number.{number_text}
use Rattle.log_record.specs.Spelling.{IsBalance}
use Rattle.lsn_space.specs.declared.opening.TheConstants.{MOST_ACCOUNTS}
use Rattle.txn_script.specs.Lines.{lines}
use Rattle.txn_script.proofs.opening.balances.Given as goal

abbrev pub invariant-lines : goal.invariant-lines
invariant-lines l = record {
  read : List ℕ;
  most : length read ≤ MOST_ACCOUNTS;
  each : All IsBalance read;
  rows : l.balances.rows ≡ map (λ balance. (balance, 0)) read;
  room : l.balances.room ≡ MOST_ACCOUNTS;
  text : lines l.bytes ≡ map number_text read ++ lines l.rest;
}

abbrev pub decreases-lines : goal.decreases-lines
decreases-lines l = length l.rest
