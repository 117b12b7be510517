-- One leg of a transfer, on the balances of the accounts that are held.
use Rattle.std.specs.Prelude.{◌≡◌, ℕ, ◌+◌, ◌-◌, ◌<◌, ◌≤◌, List, Contains}
use Rattle.lsn_space.specs.declared.opening.TheConstants.{MOST_BALANCE}
use Rattle.lock_core.specs.Alone.{after_leg}
use Rattle.txn_jobs.specs.declared.rows.Answer.{Answer}
use Rattle.txn_jobs.specs.declared.rows.Answer.TheVariants.{Done, Short, Over}
use Rattle.txn_parts.specs.declared.taken_account.TakenAccount.{TakenAccount}

-- one of the holdings is of this account, and has such a balance
pub record HasBalance (holdings : List TakenAccount) (account : ℕ) (Such : ℕ → Type 0) : Type 0 where
  pub holding : TakenAccount
  pub contains : Contains holdings holding
  pub account_is : holding.taken.account ≡ account
  pub balance : Such holding.balance

-- The leg at this place, from 1, can't be made: its payer has too little; or else its payee would have too much.
abbrev pub IsRefused : List TakenAccount → ℕ × ℕ × ℕ → ℕ → Answer → Type 0
IsRefused holdings leg place Done = ⊥
IsRefused holdings leg place (Short at) = (at ≡ place) × HasBalance holdings leg.0 (λ balance. balance < leg.2)
IsRefused holdings leg place (Over at) = (at ≡ place) × HasBalance holdings leg.0 (λ balance. leg.2 ≤ balance)
    × HasBalance holdings leg.1 (λ balance. MOST_BALANCE - leg.2 < balance)

-- the leg can be made: its payer has the amount, and its payee has room for it
pub record CanMake (holdings : List TakenAccount) (leg : ℕ × ℕ × ℕ) : Type 0 where
  pub payer : HasBalance holdings leg.0 (λ balance. leg.2 ≤ balance)
  pub payee : HasBalance holdings leg.1 (λ balance. balance ≤ MOST_BALANCE - leg.2)

-- what a leg makes of a holding
pub record IsAfter (leg : ℕ × ℕ × ℕ) (old new : TakenAccount) : Type 0 where
  pub taken : new.taken ≡ old.taken
  pub balance : new.balance ≡ after_leg leg (λ account. old.balance) old.taken.account

-- an account that pays has enough, and one that receives has room
pub record CanBear (leg : ℕ × ℕ × ℕ) (holding : TakenAccount) : Type 0 where
  pub pays : holding.taken.account ≡ leg.0 → leg.2 ≤ holding.balance
  pub receives : holding.taken.account ≡ leg.1 → holding.balance + leg.2 ≤ MOST_BALANCE
