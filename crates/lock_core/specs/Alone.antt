-- One transfer, run alone: its legs in order, each on the balances as the legs before it changed them.
use Rattle.std.specs.Prelude.{◌≡◌, ◌≢◌, ◌==◌, ℕ, ◌+◌, ◌-◌, ◌≤◌, ◌<◌, nat_lt, pos, neg_ℤ, Bool, if◌then◌else◌, ◌⊎◌, List, [], ◌∷◌, ◌++◌, length, take}
use Rattle.std.specs.List.{AllByRecursion}
use Rattle.log_record.specs.declared.rec.Rec.{Rec}
use Rattle.log_record.specs.declared.rec.Rec.TheVariants.{Update, Commit, Short, Over, Note}
use Rattle.log_record.specs.Spelling.{IsNoteText}
use Rattle.lsn_space.specs.declared.opening.TheConstants.{MOST_AMOUNT, MOST_BALANCE}
use Rattle.log_record.specs.declared.limits.TheConstants.{MOST_LEGS}

-- a transfer: its legs in order, each the account that pays, the account that receives and the amount, and the bytes of its note,
-- none where it has no note
pub record PlainTransfer : Type 0 where
  pub legs : List (ℕ × ℕ × ℕ)
  pub note : List ℕ

-- a leg that a log of so many accounts allows
pub record IsAllowedLeg (accounts : ℕ) (leg : ℕ × ℕ × ℕ) : Type 0 where
  pub payer : leg.0 < accounts
  pub payee : leg.1 < accounts
  pub two : leg.0 ≢ leg.1
  pub some : 1 ≤ leg.2
  pub most : leg.2 ≤ MOST_AMOUNT

-- 1 to 8 legs that a log of so many accounts allows
pub record AreAllowedLegs (accounts : ℕ) (legs : List (ℕ × ℕ × ℕ)) : Type 0 where
  pub some : 1 ≤ length legs
  pub few : length legs ≤ MOST_LEGS
  pub each : AllByRecursion (IsAllowedLeg accounts) legs

-- a transfer that a log of so many accounts allows
pub record IsAllowedTransfer (accounts : ℕ) (job : PlainTransfer) : Type 0 where
  pub legs : AreAllowedLegs accounts job.legs
  pub note : (job.note ≡ []) ⊎ IsNoteText job.note

-- Done; or the number of the first leg, from 1, at which the payer has too little, or else the payee would have too much
pub data Outcome : Type 0 where
  Done : Outcome
  ShortAt : ℕ → Outcome
  OverAt : ℕ → Outcome

-- the payer has too little
abbrev pub lacks : ℕ × ℕ × ℕ → (ℕ → ℕ) → Bool
lacks leg balance = nat_lt (balance leg.0) leg.2

-- the payee would have too much
abbrev pub overfills : ℕ × ℕ × ℕ → (ℕ → ℕ) → Bool
overfills leg balance = nat_lt MOST_BALANCE (balance leg.1 + leg.2)

-- the balances after a leg
abbrev pub after_leg : ℕ × ℕ × ℕ → (ℕ → ℕ) → ℕ → ℕ
after_leg leg balance account =
    if leg.0 == account then balance account - leg.2 else (if leg.1 == account then balance account + leg.2 else balance account)

-- the outcome of the legs behind the first k
abbrev pub outcome_from : ℕ → List (ℕ × ℕ × ℕ) → (ℕ → ℕ) → Outcome
outcome_from k [] balance = Done
outcome_from k (leg ∷ legs) balance =
    if lacks leg balance then ShortAt (k + 1) else
    (if overfills leg balance then OverAt (k + 1) else outcome_from (k + 1) legs (after_leg leg balance))

-- the balances after all legs
abbrev pub after_legs : List (ℕ × ℕ × ℕ) → (ℕ → ℕ) → ℕ → ℕ
after_legs [] balance = balance
after_legs (leg ∷ legs) balance = after_legs legs (after_leg leg balance)

-- the outcome of the transfer, run alone on these balances
abbrev pub outcome_alone : PlainTransfer → (ℕ → ℕ) → Outcome
outcome_alone job balance = outcome_from 0 job.legs balance

-- an outcome's balances: only a transfer that is done changes them
abbrev pub balances_after : Outcome → PlainTransfer → (ℕ → ℕ) → ℕ → ℕ
balances_after Done job balance = after_legs job.legs balance
balances_after (ShortAt leg) job balance = balance
balances_after (OverAt leg) job balance = balance

-- the balances after the transfer, run alone on these
abbrev pub balances_after_alone : PlainTransfer → (ℕ → ℕ) → ℕ → ℕ
balances_after_alone job balance = balances_after (outcome_alone job balance) job balance

-- the Note of a transfer, if it has one, and then more records
abbrev pub with_note : ℕ → List ℕ → List Rec → List Rec
with_note txn [] records = records
with_note txn (byte ∷ bytes) records = Note txn (byte ∷ bytes) ∷ records

-- two Updates for each leg, `prev` left out, which is written as 0
abbrev pub leg_updates : ℕ → List (ℕ × ℕ × ℕ) → List Rec
leg_updates txn [] = []
leg_updates txn (leg ∷ legs) = Update txn leg.0 (neg_ℤ (pos leg.2)) 0 ∷ Update txn leg.1 (pos leg.2) 0 ∷ leg_updates txn legs

-- how many legs an outcome counts: all, or those before the one that it names
abbrev pub legs_passed : PlainTransfer → Outcome → ℕ
legs_passed job Done = length job.legs
legs_passed job (ShortAt leg) = leg - 1
legs_passed job (OverAt leg) = leg - 1

-- the end record of an outcome
abbrev pub end_record : ℕ → PlainTransfer → Outcome → Rec
end_record txn job Done = Commit txn (length job.legs)
end_record txn job (ShortAt leg) = Short txn leg
end_record txn job (OverAt leg) = Over txn leg

-- the records of a transfer that had this outcome, in order, `prev` left out: its Note, if it has one; two Updates for each
-- leg that the outcome counts; its end record
abbrev pub outcome_records : ℕ → PlainTransfer → Outcome → List Rec
outcome_records txn job outcome =
    with_note txn job.note (leg_updates txn (take (legs_passed job outcome) job.legs) ++ end_record txn job outcome ∷ [])

-- The same records leg by leg, each Update with the last Commit on its account as `prev`: of the legs behind the first k,
-- on these balances.
abbrev pub planned_from : ℕ → (ℕ → ℕ) → (ℕ → ℕ) → ℕ → List (ℕ × ℕ × ℕ) → List Rec
planned_from txn last_commit balance k [] = Commit txn k ∷ []
planned_from txn last_commit balance k (leg ∷ legs) =
    if lacks leg balance then Short txn (k + 1) ∷ [] else
    (if overfills leg balance then Over txn (k + 1) ∷ [] else
    (Update txn leg.0 (neg_ℤ (pos leg.2)) (last_commit leg.0) ∷ Update txn leg.1 (pos leg.2) (last_commit leg.1)
    ∷ planned_from txn last_commit (after_leg leg balance) (k + 1) legs))

-- all records of the transfer, run alone on these balances and last Commits
abbrev pub planned_records : ℕ → PlainTransfer → (ℕ → ℕ) → (ℕ → ℕ) → List Rec
planned_records txn job last_commit balance = with_note txn job.note (planned_from txn last_commit balance 0 job.legs)
