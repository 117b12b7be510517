-- The accounts that a transfer holds, and how they go back.
use Rattle.std.specs.Prelude.{ℕ}
use Rattle.early_locks.specs.declared.taken.Taken.{Taken}
use Rattle.txn_jobs.specs.declared.rows.Answer.{Answer}
use Rattle.txn_jobs.specs.declared.rows.Answer.TheVariants.{Done, Short, Over}
use Rattle.txn_parts.specs.declared.taken_account.TakenAccount.{TakenAccount}
use Rattle.txn_parts.specs.declared.release.Release.{Release}
use Rattle.txn_parts.specs.declared.release.Release.TheVariants.{Unchanged, Committed}

abbrev pub taken_of : TakenAccount → Taken
taken_of holding = holding.taken

abbrev pub account_of : TakenAccount → ℕ
account_of holding = holding.taken.account

-- the balance and the last commit with which an account goes back
abbrev pub back_of : Release → TakenAccount → ℕ × ℕ
back_of Unchanged holding = (holding.taken.balance, holding.taken.mark)
back_of (Committed end) holding = (holding.balance, end)

-- with which values the accounts go back where the end record ends there
abbrev pub release_at : ℕ → Answer → Release
release_at end Done = Committed end
release_at end (Short leg) = Unchanged
release_at end (Over leg) = Unchanged
