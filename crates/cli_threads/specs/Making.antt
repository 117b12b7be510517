-- What `prepare` asks for, and what it makes.
use Rattle.std.specs.Prelude.{◌≡◌, ℕ, ◌^◌, ◌≤◌, List, Result, IfOk}
use Rattle.lsn_space.specs.declared.lsn.TheConstants.{LEAST_RING, GREATEST_RING, MOST_SLOTS}
use Rattle.lock_core.specs.declared.job.Job.{Job}
use Rattle.log_rule.specs.declared.start.Start.{Start}
use Rattle.log_table.specs.Seats.{key_of}
use Rattle.job_queue.specs.Passes.{workers_of}
use Rattle.cli_threads.specs.declared.transfers.Prepared.{Prepared}
use Rattle.cli_threads.specs.Prepared.{IsPrepared}

-- a table may have a ring of this length, a power of two, and so many slots
pub record HasSizes (start : Start) : Type 0 where
  pub ring : (LEAST_RING ≤ start.ring) × (start.ring ≤ GREATEST_RING)
  pub power : (n : ℕ) × (start.ring ≡ 2 ^ n)
  pub slots : start.slots ≤ MOST_SLOTS

-- The table is made as it was asked for, and the queue has these transfers, the first of them under this number, for so many workers.
pub record Prepares {E : Type 0} (start : Start) (list : List Job) (lowest size : ℕ) (result : Result Prepared E) : Type 0 where
  pub script : IfOk result (λ p. p.jobs.queue.script ≡ list)
  pub first : IfOk result (λ p. p.jobs.queue.first ≡ lowest)
  pub workers : IfOk result (λ p. workers_of p.jobs ≡ size)
  pub key : IfOk result (λ p. key_of p.table ≡ start)
  pub prepared : IfOk result IsPrepared
