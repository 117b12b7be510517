use Rattle.std.proofs.Common.{rules, ◌≡◌, All, List, [], ◌∷◌, ◌++◌, sym, subst}
use Rattle.std.proofs.lemmas.List.Elements.{All-push}
use Rattle.lock_core.specs.declared.job.Job.{Job}
use Rattle.lock_core.specs.Transfers.{IsAllowedJob}
use Rattle.daemon_tests.proofs.group_script.noted_thirties.Goals as goal

pub loop-preserved : goal.loop-preserved
loop-preserved g c =
    let grown : c.push.new.self ≡ c.loop.script ++ c.in-Some.job ∷ [] = search rules in
    subst (λ (jobs : List Job). All (IsAllowedJob 2) jobs) (sym grown)
    (All-push (IsAllowedJob 2) c.loop.script c.in-Some.job c.loop.invariant c.in-Some.ensures.allowed)
