use Rattle.std.proofs.Common.{◌∙◌, ap}
use Rattle.std.proofs.lemmas.Result.{IfOk-weaker}
use Rattle.clap.specs.Words.{App, app_of, with_subcommand}
use Rattle.command_line.proofs.definition.with_subcommand.Goals as goal

pub returns : goal.returns
returns c = λ sub built.
    let below = rw c.in_ok-subcommand.was at built in
    IfOk-weaker c.subcommand.result _ _
    (λ r h. h.shape below.1 ∙ ap (with_subcommand (app_of c.args.command)) (ap (λ (a : App). a.top) below.0)) c.subcommand.ensures
