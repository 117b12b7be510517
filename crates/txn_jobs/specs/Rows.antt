-- The rows of one worker.
use Rattle.std.specs.Prelude.{◌≡◌, ◌<◌, ℕ, length, List, [], ◌∷◌, ◌++◌, Option, None, Some, Result, Ok, Err, vec_capacity}
use Rattle.lock_core.specs.Alone.{Outcome, Done, ShortAt, OverAt}
use Rattle.txn_jobs.specs.declared.cause.Cause.{Cause}
use Rattle.txn_jobs.specs.declared.cause.Worked.{Worked}
use Rattle.txn_jobs.specs.declared.cause.Worked.TheVariants.{Cut}
use Rattle.txn_jobs.specs.declared.rows.Answer.{Answer}
use Rattle.txn_jobs.specs.declared.rows.Answer.TheVariants as answer
use Rattle.txn_jobs.specs.declared.rows.Row.{Row}
use Rattle.txn_jobs.specs.declared.rows.Rows.{Rows}

-- the outcome that an answer tells
abbrev pub outcome_of : Answer → Outcome
outcome_of answer.Done = Done
outcome_of (answer.Short leg) = ShortAt leg
outcome_of (answer.Over leg) = OverAt leg

abbrev pub rows_in : Rows → List Row
rows_in rows = rows.rows.items

abbrev pub room_of : Rows → ℕ
room_of rows = vec_capacity rows.rows

-- one more row takes no memory
abbrev pub HasRoom : Rows → Type 0
HasRoom rows = length (rows_in rows) < room_of rows

-- a transfer that ended has its row behind those before; one that was cut off has none, and the worker ends so
abbrev pub IsTold : Result Row Cause → Option Worked → List Row → List Row → Type 0
IsTold (Ok row) None old new = new ≡ old ++ row ∷ []
IsTold (Ok row) (Some worked) old new = ⊥
IsTold (Err cause) None old new = ⊥
IsTold (Err cause) (Some worked) old new = (worked ≡ Cut cause) × (new ≡ old)
