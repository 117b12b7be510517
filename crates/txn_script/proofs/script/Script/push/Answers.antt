use Rattle.std.proofs.Common.{◌≡◌, ◌∙◌, ap, ◌++◌, ◌∷◌, [], List, map, length, arith}
use Rattle.std.proofs.lemmas.Result.{IfOk-weaker, on_err_weaker}
use Rattle.lock_core.specs.declared.job.Job.{Job}
use Rattle.txn_script.specs.declared.stored.Stored.TheVariants.{Long}
use Rattle.txn_script.specs.StoredJob.{job_stored}
use Rattle.txn_script.proofs.StoringLemmas.{job_stored-last_long, jobs_stored-append, jobs_stored-push}
use Rattle.txn_script.proofs.script.Script.push.Goals as goal

pub returns-clause-added : goal.returns-clause-added
returns-clause-added c =
    let long = c.self.inside.long.items in
    let stored = c.self.inside.stored.items in
    let job = c.args.job in
    let place : c.len-at.result ≡ length long = omega (arith, c.len-at.ensures) in
    IfOk-weaker c.put-2.result _ _ (λ _ stored_is.
    ap (λ (l : List Job). map (job_stored l) c.put-2.new.list.items) c.in_ok-put.ensures.put
    ∙ ap (map (job_stored (long ++ job ∷ []))) (stored_is ∙ ap (λ at. stored ++ Long at ∷ []) place)
    ∙ jobs_stored-push (long ++ job ∷ []) stored (Long (length long)) job (job_stored-last_long long job)
    ∙ ap (λ jobs. jobs ++ job ∷ []) (jobs_stored-append long (job ∷ []) stored c.self.invariant ∙ c.self.view_is)) c.put-2.ensures.put

pub returns-clause-kept : goal.returns-clause-kept
returns-clause-kept c =
    let long = c.self.inside.long.items in
    let stored = c.self.inside.stored.items in
    let job = c.args.job in
    on_err_weaker c.put-2.result (λ stored_is.
    ap (λ (l : List Job). map (job_stored l) c.put-2.new.list.items) c.in_ok-put.ensures.put
    ∙ ap (map (job_stored (long ++ job ∷ []))) stored_is
    ∙ jobs_stored-append long (job ∷ []) stored c.self.invariant
    ∙ c.self.view_is) c.put-2.ensures.kept
