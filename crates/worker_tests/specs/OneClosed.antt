-- What is known of a table that was closed behind one transfer.
use Rattle.std.specs.Prelude.{◌≡◌, ℕ, List, [], ◌∷◌}
use Rattle.std.specs.List.{AllByRecursion}
use Rattle.lsn_space.specs.Tiling.{IsTiling}
use Rattle.lock_core.specs.declared.job.Job.{Job}
use Rattle.log_table.specs.declared.closed.Closed.{Closed}
use Rattle.log_rule.specs.declared.start.Start.{Start}
use Rattle.log_rule.specs.declared.view.Entry.{Entry}
use Rattle.log_rule.specs.Books.{task_of}
use Rattle.log_rule.specs.ClosedLog.{IsLedger, history_of}
use Rattle.log_rule.specs.Log.{IsSpelled}
use Rattle.log_rule.specs.Sound.{base_of}

-- The log went on from this LSN and these accounts, lawfully, with the transfer run whole or cut short and no other transaction. Its records
-- follow one another from there to the closed table's end, and all are released. The closed table's accounts are the log's.
pub record ClosesOne (start : ℕ) (rows : List (ℕ × ℕ)) (number : ℕ) (transfer : Job) (closed : Closed) : Type 0 where
  pub key : Start
  pub start_is : key.start ≡ start
  pub rows_are : key.accounts.rows ≡ rows
  pub entries : List Entry
  pub tiles : IsTiling (λ (entry : Entry). entry.start) (λ (entry : Entry). entry.size) start entries closed.tail
  pub spelled : AllByRecursion IsSpelled entries
  pub released : closed.exposed ≡ closed.tail
  pub ledger : IsLedger (base_of key) (history_of (base_of key) entries) (task_of (record { number = number; job = transfer }) ∷ []) closed.accounts.rows
