-- How long a file gets, one call after another.
use Rattle.std.proofs.Common.{◌≡◌, ◌≤◌, ℕ, length, ap, arith}
use Rattle.log_disk.specs.Lengths.{GrowsAtMostTo}
use Rattle.log_disk.specs.declared.disk.LogDisk.{Ghosts}

module _ {D : Type 0} (g : Ghosts D) where
  -- a file that reads as before
  pub GrowsAtMostTo-same : (place : ℕ) (old new : D) → g.reads new ≡ g.reads old → GrowsAtMostTo g place old new
  GrowsAtMostTo-same place old new same = omega (arith, ap length same)

  -- the place may be a later one
  pub GrowsAtMostTo-weaken : (place later : ℕ) (old new : D) → place ≤ later → GrowsAtMostTo g place old new → GrowsAtMostTo g later old new
  GrowsAtMostTo-weaken place later old new before grows = omega (arith, before, grows)

  -- one after another
  pub GrowsAtMostTo-trans : (place : ℕ) (old mid new : D) → GrowsAtMostTo g place old mid → GrowsAtMostTo g place mid new → GrowsAtMostTo g place old new
  GrowsAtMostTo-trans place old mid new first second = omega (arith, first, second)
