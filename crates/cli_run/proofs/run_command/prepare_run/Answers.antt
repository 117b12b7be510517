use Rattle.std.proofs.Common.{refl}
use Rattle.cli_run.proofs.OpenedAccounts.{has-accounts}
use Rattle.cli_run.proofs.ReadyLemmas.{IfOk-prepared_for}
use Rattle.cli_run.proofs.run_command.prepare_run.Goals as goal

pub prepare-requires-clause-accounts : goal.prepare-requires-clause-accounts
prepare-requires-clause-accounts g c = has-accounts c.requires.opened.0 c.args.opened c.requires.opened.1 _ refl refl

pub returns : goal.returns
returns g c =
    let made = c.prepare.ensures in
    let plan = c.plan_of_run-plan.ensures in
    IfOk-prepared_for c.args.options.now c.args.opened c.args.script _ c.prepare.result refl refl plan.ring plan.slots plan.workers made.script
    made.first made.workers made.key made.prepared
