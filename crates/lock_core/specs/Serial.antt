-- Serial lists: each transfer answers as if one thread ran them in the order of their end records.
use Rattle.std.specs.Prelude.{◌≡◌, ◌≢◌, ℕ, ◌+◌, true, ◌⊎◌, List, [], ◌∷◌, ◌++◌}
use Rattle.std.specs.List.{AllByRecursion}
use Rattle.log_record.specs.declared.rec.Rec.{Rec}
use Rattle.log_record.specs.declared.rec.Placed.{Placed}
use Rattle.lock_core.specs.Records.{txn_of, ends}
use Rattle.lock_core.specs.Transactions.{of_transaction, own_records_of, all_without_prev, in_order}
use Rattle.lock_core.specs.Sums.{BaseState, Opening, balance_of}
use Rattle.lock_core.specs.Lawful.{base_state_of}
use Rattle.lock_core.specs.Alone.{PlainTransfer, outcome_alone, outcome_records, with_note, leg_updates}

-- a transfer under its transaction number
pub record NumberedTransfer : Type 0 where
  pub number : ℕ
  pub job : PlainTransfer

-- these transfers under the numbers from this one on
abbrev pub numbered : ℕ → List PlainTransfer → List NumberedTransfer
numbered first [] = []
numbered first (job ∷ jobs) = record { number = first; job = job } ∷ numbered (first + 1) jobs

-- After the base state the history has one end record of the transfer, and its records up to there are those of its
-- outcome, run alone on the balances before that end record, and none of its records stands behind it.
pub record IsRunWhole (base : BaseState) (h : List Placed) (task : NumberedTransfer) : Type 0 where
  pub later : List Placed
  pub end : Placed
  pub front : List Placed
  pub whole : h ≡ later ++ end ∷ front
  pub own : txn_of end.rec ≡ task.number
  pub ended : ends end.rec ≡ true
  pub last : of_transaction task.number later ≡ []
  pub records : in_order (all_without_prev (end.rec ∷ own_records_of task.number front)) []
      ≡ outcome_records task.number task.job (outcome_alone task.job (balance_of base front))

-- the history has a prefix of the transfer's Note and Updates, and no end record of it
pub record IsCutShort (h : List Placed) (task : NumberedTransfer) : Type 0 where
  pub rest : List Rec
  pub front : in_order (all_without_prev (own_records_of task.number h)) rest
      ≡ with_note task.number task.job.note (leg_updates task.number task.job.legs)

-- the history has no other transactions than these transfers
abbrev pub HasNoOthers : List NumberedTransfer → List Placed → Type 0
HasNoOthers tasks h = (txn : ℕ) → AllByRecursion (λ task. task.number ≢ txn) tasks → of_transaction txn h ≡ []

-- a history that follows a base state is serial
pub record IsSerialAfter (base : BaseState) (tasks : List NumberedTransfer) (h : List Placed) : Type 0 where
  pub each : AllByRecursion (IsRunWhole base h) tasks
  pub others : HasNoOthers tasks h

-- a history that follows a base state is partly serial: each transfer is run whole or cut short
pub record IsPartlySerialAfter (base : BaseState) (tasks : List NumberedTransfer) (h : List Placed) : Type 0 where
  pub each : AllByRecursion (λ task. IsRunWhole base h task ⊎ IsCutShort h task) tasks
  pub others : HasNoOthers tasks h

-- a list behind an opening is a list before it and then a serial history of these transfers, under the numbers from this one on
pub record IsSerial (opening : Opening) (before : List Placed) (first : ℕ) (jobs : List PlainTransfer) (h : List Placed) : Type 0 where
  pub later : List Placed
  pub whole : h ≡ later ++ before
  pub serial : IsSerialAfter (base_state_of opening before) (numbered first jobs) later

-- the same with a partly serial history
pub record IsPartlySerial (opening : Opening) (before : List Placed) (first : ℕ) (jobs : List PlainTransfer)
    (h : List Placed) : Type 0 where
  pub later : List Placed
  pub whole : h ≡ later ++ before
  pub serial : IsPartlySerialAfter (base_state_of opening before) (numbered first jobs) later
