-- How a transfer ends.
use Rattle.std.specs.Prelude.{◌≡◌, ℕ, ◌+◌, true, List, [], ◌∷◌, ◌++◌, All}
use Rattle.log_record.specs.LogList.{size_of}
use Rattle.lock_core.specs.Alone.{outcome_alone}
use Rattle.lock_core.specs.History.{end_from}
use Rattle.lock_core.specs.Transactions.{recs_of, has_end}
use Rattle.lock_core.specs.declared.job.Job.{Job}
use Rattle.log_table.specs.declared.table.Seat.{Seat}
use Rattle.log_rule.specs.declared.view.Entry.{Entry}
use Rattle.log_rule.specs.Books.{balance_taken}
use Rattle.lock_core.specs.Transfers.{transfer_of}
use Rattle.log_table.specs.Seats.{view_of}
use Rattle.ring_buffer.specs.Calls.{entry_of}
use Rattle.txn_parts.specs.declared.taken_account.TakenAccount.{TakenAccount}
use Rattle.txn_parts.specs.declared.ended.TransferEnd.{TransferEnd}
pub use Rattle.txn_parts.specs.Holdings.{release_at}
use Rattle.txn_making.specs.Holdings.{GoesBack}
use Rattle.txn_making.specs.Inserts.{Adds, IsLeft}
use Rattle.txn_making.specs.Legs.{last_record}
use Rattle.txn_jobs.specs.Rows.{outcome_of}

-- The seat inserted records of the transfer, its end record last, and none is left. The answer is the outcome of the transfer run alone on
-- the balances as taken, and the holdings have the values with which they go back.
pub record EndsTransfer (number : ℕ) (job : Job) (ended : TransferEnd) (holdings : List TakenAccount) (old new : Seat) : Type 0 where
  pub before : List Entry
  pub start : ℕ
  pub end_is : ended.end ≡ start + size_of (last_record number job ended.answer)
  pub adds : Adds (before ++ entry_of start (last_record number job ended.answer) ∷ []) old new
  pub left : IsLeft [] (view_of new).books
  pub outcome : outcome_of ended.answer ≡ outcome_alone (transfer_of job) (balance_taken (view_of old).books.held)
  pub back : All (GoesBack (release_at ended.end ended.answer) (view_of new).books) holdings
  pub is_last : end_from 0 (view_of new).books.placed ≡ ended.end
  pub has_ended : has_end (recs_of (view_of new).books.placed) ≡ true
