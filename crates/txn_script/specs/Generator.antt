-- Transfers that are made from a number: a row of numbers follows it, and each number of the row makes a transfer.
use Rattle.std.specs.Prelude.{◌≡◌, ℕ, zero, suc, ◌+◌, ◌-◌, ◌*◌, ◌/◌, ◌%◌, ◌<◌, None, List, [], ◌∷◌, map}
use Rattle.lock_core.specs.Alone.{PlainTransfer}
use Rattle.lock_core.specs.AnyOrder.{given, taken}
use Rattle.lock_core.specs.Sums.{BaseState}
use Rattle.lock_core.specs.Transfers.{transfer_of}
use Rattle.txn_script.specs.declared.generator.TheConstants.{GENERATED_ACCOUNTS, GENERATED_BALANCE}
use Rattle.lock_core.specs.declared.job.Job.{Job}

-- the number that follows this one
abbrev pub number_after : ℕ → ℕ
number_after x = (75 * x + 74) % 65537

-- so many numbers, the first of which follows this one
abbrev pub numbers_after : ℕ → ℕ → List ℕ
numbers_after zero x = []
numbers_after (suc n) x = number_after x ∷ numbers_after n (number_after x)

-- the leg that a number makes: two different accounts below GENERATED_ACCOUNTS, and an amount from 1 to 9
abbrev pub leg_from : ℕ → ℕ × ℕ × ℕ
leg_from x =
    (x % GENERATED_ACCOUNTS, (x % GENERATED_ACCOUNTS + 1 + (x / GENERATED_ACCOUNTS) % (GENERATED_ACCOUNTS - 1)) % GENERATED_ACCOUNTS, 1 + (x / 4096) % 9)

-- the transfer that a number makes: one leg, and no note
abbrev pub job_from : ℕ → Job
job_from x = record { legs = leg_from x ∷ []; note = None }

-- the transfers of a seed
abbrev pub generated_jobs : ℕ → ℕ → List Job
generated_jobs n seed = map job_from (numbers_after n seed)

-- the same as a log runs them
abbrev pub generated_transfers : ℕ → ℕ → List PlainTransfer
generated_transfers n seed = map transfer_of (generated_jobs n seed)

-- their legs
abbrev pub generated_legs : ℕ → ℕ → List (ℕ × ℕ × ℕ)
generated_legs n seed = map leg_from (numbers_after n seed)

-- there are GENERATED_ACCOUNTS accounts, each with GENERATED_BALANCE
pub record OpensGenerated (base : BaseState) : Type 0 where
  pub accounts : base.accounts ≡ GENERATED_ACCOUNTS
  pub balance : (account : ℕ) → account < GENERATED_ACCOUNTS → base.balance account ≡ GENERATED_BALANCE

-- the balance of the account once all of them are done
abbrev pub generated_balance : ℕ → ℕ → ℕ → ℕ
generated_balance n seed account = GENERATED_BALANCE + given account (generated_legs n seed) - taken account (generated_legs n seed)
