-- What a judge answers on one record more.
use Rattle.std.specs.Prelude.{◌≡◌, ℕ, List, ◌∷◌, length, Result, MatchResult}
use Rattle.log_record.specs.declared.rec.Rec.{Rec}
use Rattle.log_record.specs.declared.rec.Placed.{Placed}
use Rattle.lock_core.specs.declared.reason.JudgeFault.{JudgeFault}
use Rattle.lock_core.specs.declared.reason.JudgeFault.TheVariants as fault
use Rattle.lock_core.specs.declared.ledger.Ledger.{Ledger}
use Rattle.lock_core.specs.declared.judge.Judge.{Judge}
use Rattle.lock_core.specs.Sums.{Opening}
use Rattle.lock_core.specs.Lawful.{Passes, opening_after}
use Rattle.lock_core.specs.Faults.{IsFirstFailing}
use Rattle.lock_core.specs.KeptLedger.{KeepsLedger}

-- why the entry isn't taken: the first test that it fails on the history before it; want of memory says nothing of them
abbrev pub IsTakeFault : Opening → List Placed → Placed → JudgeFault → Type 0
IsTakeFault opening h entry (fault.Why why) = IsFirstFailing (Passes opening h entry) why
IsTakeFault opening h entry fault.NoMemory = Unit {0}

-- on a record that ends here: what was kept of the history is then kept of the history with it, or this is the fault
abbrev pub TakesEntry : {A : Type 0} → Ledger → Ledger → ℕ → Rec → Result A JudgeFault → Type 0
TakesEntry old new end rec result = (opening : Opening) (h : List Placed) → KeepsLedger opening old h
    → MatchResult result (λ _. KeepsLedger opening new (record { end = end; rec = rec } ∷ h))
    (IsTakeFault opening h (record { end = end; rec = rec }))

-- the judge has taken this history behind the opening, so it is lawful
pub record HasJudged (opening : Opening) (judge : Judge) (h : List Placed) : Type 0 where
  pub ledger : KeepsLedger opening judge.ledger h
  pub greatest : judge.greatest ≡ (opening_after opening h).txn

-- how many accounts the judge has
abbrev pub count_of : Judge → ℕ
count_of judge = length judge.ledger.accounts.rows
