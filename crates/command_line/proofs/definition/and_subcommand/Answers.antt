use Rattle.std.proofs.Common.{◌∙◌, ap}
use Rattle.std.proofs.lemmas.Result.{IfOk-weaker}
use Rattle.clap.specs.Words.{App, with_subcommand}
use Rattle.command_line.proofs.definition.and_subcommand.Goals as goal

pub returns : goal.returns
returns c = λ app sub is built.
    let before = rw c.in_ok-command.was at is in
    IfOk-weaker c.with_subcommand.result _ _ (λ r h. h ∙ ap (λ (a : App). with_subcommand a sub.top) before) (c.with_subcommand.ensures sub built)
