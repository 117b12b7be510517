use Rattle.std.proofs.Common.{◌∙◌, ap, ◌++◌, ◌∷◌, []}
use Rattle.std.specs.Prelude.{None}
use Rattle.lock_core.proofs.job.Job.become_single.Goals as goal

pub returns-then-is_some : goal.returns-then-is_some
returns-then-is_some c = ap (λ legs. record { legs = legs; note = None }) (c.push.ensures ∙ ap (λ legs. legs ++ c.args.leg ∷ []) c.clear.ensures)
