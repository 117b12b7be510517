-- What is kept of a history that comes by for one account.
use Rattle.std.specs.Prelude.{ℕ, List}
use Rattle.log_record.specs.declared.rec.Placed.{Placed}
use Rattle.lock_core.specs.Sums.{Opening}
use Rattle.ledger_view.specs.KeptAccount.{HasKept}
use Rattle.cli_view.specs.declared.one_account.OneAccount.{OneAccount}

-- asked for this account, the taker has taken the history
abbrev pub HasKeptOne : ℕ → Opening → OneAccount → List Placed → Type 0
HasKeptOne account opening taker h = HasKept account opening taker.0 h
