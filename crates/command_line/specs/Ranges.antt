-- What may be asked of `run` and `demo`.
use Rattle.std.specs.Prelude.{◌≡◌, ◌≤◌, ◌^◌, ℕ}
use Rattle.lsn_space.specs.declared.lsn.TheConstants.{LEAST_RING, GREATEST_RING, MOST_SLOTS}
use Rattle.command_line.specs.declared.options.RunOptions.{RunOptions}
use Rattle.command_line.specs.declared.options.TheConstants.{MOST_WORKERS}

-- one worker or more, a ring of a lawful length that is a power of two, and no more workers and slots than may be asked for
pub record AreInRange (options : RunOptions) : Type 0 where
  pub workers : (1 ≤ options.workers) × (options.workers ≤ MOST_WORKERS)
  pub ring : (LEAST_RING ≤ options.ring) × (options.ring ≤ GREATEST_RING)
  pub power : (n : ℕ) × (options.ring ≡ 2 ^ n)
  pub slots : options.slots ≤ MOST_SLOTS
