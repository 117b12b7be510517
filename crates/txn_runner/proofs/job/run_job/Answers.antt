use Rattle.std.proofs.lemmas.Result.{err_from_is_err_and}
use Rattle.txn_parts.proofs.DeskLemmas.{WorksOn-trans}
use Rattle.txn_runner.proofs.StageLemmas.{TakesAccounts-makes_taken}
use Rattle.txn_runner.proofs.job.run_job.Goals as goal

pub returns-in_err-take_accounts-clause-made : goal.returns-in_err-take_accounts-clause-made
returns-in_err-take_accounts-clause-made g c =
    let failed = err_from_is_err_and c.from_residual.result c.from_residual.ensures.1 in
    let err = c.in_err-take_accounts.ensures in
    rw (failed.1, failed.2) record { let_go = err.let_go; run = tt; cut = err.cut c.args.wait }

pub make_transfer-requires-clause-may : goal.make_transfer-requires-clause-may
make_transfer-requires-clause-may g c = c.in_ok-take_accounts.ensures.taken.may

pub make_transfer-requires-clause-runs : goal.make_transfer-requires-clause-runs
make_transfer-requires-clause-runs g c = c.in_ok-take_accounts.ensures.taken.runs

pub returns-clause-made : goal.returns-clause-made
returns-clause-made g c = TakesAccounts-makes_taken _ _ _ _ _ _ _ c.in_ok-take_accounts.ensures.taken c.args.wait c.make_transfer.result
    c.make_transfer.ensures.made

pub returns-clause-work : goal.returns-clause-work
returns-clause-work g c = WorksOn-trans g.Q.Relief g.met.Q.Relief.later_trans _ _ _ c.in_ok-take_accounts.ensures.work
    c.make_transfer.ensures.work
