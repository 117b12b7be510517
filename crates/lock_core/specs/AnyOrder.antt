-- Transfers for which there is room: what they move, and what they leave in a history, whatever their order.
use Rattle.std.specs.Prelude.{◌≡◌, ◌==◌, ℕ, ◌+◌, ◌≤◌, ◌<◌, if◌then◌else◌, List, [], ◌∷◌, ◌++◌}
use Rattle.std.specs.List.{AllByRecursion}
use Rattle.log_record.specs.declared.rec.Rec.{Rec}
use Rattle.log_record.specs.declared.rec.Placed.{Placed}
use Rattle.lsn_space.specs.declared.opening.TheConstants.{MOST_BALANCE}
use Rattle.lock_core.specs.Transactions.{own_records_of, all_without_prev, in_order}
use Rattle.lock_core.specs.Sums.{BaseState}
use Rattle.lock_core.specs.Alone.{PlainTransfer, IsAllowedTransfer, Done, outcome_records}
use Rattle.lock_core.specs.Serial.{NumberedTransfer}

-- what legs give to the account
abbrev pub given : ℕ → List (ℕ × ℕ × ℕ) → ℕ
given account [] = 0
given account (leg ∷ legs) = (if leg.1 == account then leg.2 else 0) + given account legs

-- what they take from it
abbrev pub taken : ℕ → List (ℕ × ℕ × ℕ) → ℕ
taken account [] = 0
taken account (leg ∷ legs) = (if leg.0 == account then leg.2 else 0) + taken account legs

-- the legs of all transfers
abbrev pub legs_of : List PlainTransfer → List (ℕ × ℕ × ℕ)
legs_of [] = []
legs_of (job ∷ jobs) = job.legs ++ legs_of jobs

-- The log allows each transfer. Each account has what all of them take from it, and room for what all of them give to it.
pub record HasRoomFor (base : BaseState) (jobs : List PlainTransfer) : Type 0 where
  pub allowed : AllByRecursion (IsAllowedTransfer base.accounts) jobs
  pub covered : (account : ℕ) → account < base.accounts → taken account (legs_of jobs) ≤ base.balance account
  pub room : (account : ℕ) → account < base.accounts → base.balance account + given account (legs_of jobs) ≤ MOST_BALANCE

-- the history has the records of a transfer that is done, `prev` left out, and no others of it
abbrev pub IsDoneIn : List Placed → NumberedTransfer → Type 0
IsDoneIn h task = in_order (all_without_prev (own_records_of task.number h)) [] ≡ outcome_records task.number task.job Done

-- the records of these transfers one after another, where all are done
abbrev pub done_records : List NumberedTransfer → List Rec
done_records [] = []
done_records (task ∷ tasks) = outcome_records task.number task.job Done ++ done_records tasks

-- the sum of what each record weighs
abbrev pub weight_of : (Rec → ℕ) → List Rec → ℕ
weight_of weight [] = 0
weight_of weight (rec ∷ records) = weight rec + weight_of weight records
