use Rattle.std.proofs.Common.{rules, ◌≡◌, All, List, [], ◌∷◌, ◌++◌, sym, subst}
use Rattle.std.proofs.lemmas.List.Elements.{All-push}
use Rattle.lock_core.specs.declared.job.Job.{Job}
use Rattle.lock_core.specs.Transfers.{IsAllowedJob}
use Rattle.run_rig.proofs.workers.thirties.Goals as goal

pub loop-preserved : goal.loop-preserved
loop-preserved g c =
    let grown : c.push.new.self ≡ c.loop.script ++ c.job_of.result ∷ [] = search rules in
    subst (λ (jobs : List Job). All (IsAllowedJob 2) jobs) (sym grown)
    (All-push (IsAllowedJob 2) c.loop.script c.job_of.result c.loop.invariant c.job_of.ensures.allowed)
