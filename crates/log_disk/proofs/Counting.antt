-- Faults and costs that are counted, one call after another.
use Rattle.std.proofs.Common.{◌≡◌, ◌≤◌, ℕ, ◌+◌, subst, arith}
use Rattle.log_disk.specs.Costs.{Costs}
use Rattle.log_disk.specs.Faults.{CountsWhere}
use Rattle.log_disk.specs.declared.disk.LogDisk.{Ghosts}

-- first nothing was counted, and then what is said
pub CountsWhere-same_before : (P : Type 0) (before mid now : ℕ) → mid ≡ before → CountsWhere P mid now → CountsWhere P before now
CountsWhere-same_before P before mid now same counts = subst (λ n. CountsWhere P n now) same counts

module _ {D : Type 0} (g : Ghosts D) where
  -- nothing costs nothing
  pub Costs-none : (disk : D) → Costs g 0 0 disk disk
  Costs-none disk = record { successes = omega arith; calls = omega arith }

  -- a bound may be a greater one
  pub Costs-weaken : (successes more calls more_calls : ℕ) (old new : D) → successes ≤ more → calls ≤ more_calls → Costs g successes calls old new
      → Costs g more more_calls old new
  Costs-weaken successes more calls more_calls old new most most_calls costs =
      record { successes = omega (arith, most, costs.successes); calls = omega (arith, most_calls, costs.calls) }

  -- one after another
  pub Costs-trans : (first second first_calls second_calls : ℕ) (old mid new : D) → Costs g first first_calls old mid → Costs g second second_calls mid new
      → Costs g (first + second) (first_calls + second_calls) old new
  Costs-trans first second first_calls second_calls old mid new before behind =
      record { successes = omega (arith, before.successes, behind.successes); calls = omega (arith, before.calls, behind.calls) }
