-- Passes are handed out one after another.
use Rattle.std.proofs.Common.{◌≡◌, ◌<◌, ◌+◌, ◌∙◌, ℕ, List, [], length, sym, ap, subst, arith}
use Rattle.log_table.specs.declared.table.LogTable.{LogTable}
use Rattle.job_queue.specs.declared.jobs.Jobs.{Jobs}
use Rattle.job_queue.specs.Passes.{marks_back, passes_out, workers_of}
use Rattle.cli_workers.specs.declared.workers.Worker.{Worker}
use Rattle.cli_workers.specs.Workers.{AreUnused, HandsOut}

pub HandsOut-next : (number : ℕ) (first old new : Jobs) → HandsOut number first old → HandsOut 1 old new → HandsOut (number + 1) first new
HandsOut-next number first old new before one = record {
  same = record { queue = one.same.queue ∙ before.same.queue; workers = one.same.workers ∙ before.same.workers };
  out = omega (arith, one.out, before.out);
  places = one.places ∙ before.places;
  marks = one.marks ∙ before.marks;
}

-- while fewer passes are out than there are workers, one more may be had, where no mark was taken
pub mark-left : (number : ℕ) (first jobs : Jobs) → HandsOut number first jobs → passes_out first ≡ 0 → marks_back first ≡ []
    → number < workers_of first → passes_out jobs + length (marks_back jobs) < workers_of jobs
mark-left number first jobs out none fresh below =
    omega (arith, out.out, none, ap length (out.marks ∙ fresh), out.same.workers, below)

-- the workers before stay unused, whatever the first pass came to know
pub AreUnused-same : (table : LogTable) (old new : Jobs) (workers : List Worker) → new.queue ≡ old.queue → AreUnused table old.queue workers
    → AreUnused table new.queue workers
AreUnused-same table old new workers same unused = subst (λ queue. AreUnused table queue workers) (sym same) unused
