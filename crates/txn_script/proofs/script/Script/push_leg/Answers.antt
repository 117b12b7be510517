use Rattle.std.proofs.Common.{◌∙◌, ◌++◌, ◌∷◌, [], None, ap, refl, map}
use Rattle.std.proofs.lemmas.Result.{IfOk-weaker, on_err_weaker}
use Rattle.txn_script.specs.declared.stored.Stored.TheVariants.{Single}
use Rattle.txn_script.specs.StoredJob.{job_stored}
use Rattle.txn_script.proofs.StoringLemmas.{jobs_stored-push}
use Rattle.txn_script.proofs.script.Script.push_leg.Goals as goal

pub returns-clause-added : goal.returns-clause-added
returns-clause-added c =
    let long = c.self.inside.long.items in
    let stored = c.self.inside.stored.items in
    IfOk-weaker c.put.result _ _ (λ _ stored_is.
    ap (map (job_stored long)) stored_is ∙ jobs_stored-push long stored (Single c.args.leg) _ refl
    ∙ ap (λ jobs. jobs ++ record { legs = c.args.leg ∷ []; note = None } ∷ []) c.self.view_is) c.put.ensures.put

pub returns-clause-kept : goal.returns-clause-kept
returns-clause-kept c =
    on_err_weaker c.put.result (λ stored_is. ap (map (job_stored c.self.inside.long.items)) stored_is ∙ c.self.view_is) c.put.ensures.kept
