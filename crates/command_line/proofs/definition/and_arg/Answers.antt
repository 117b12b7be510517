use Rattle.std.proofs.Common.{◌∙◌, ap₂}
use Rattle.std.proofs.lemmas.Result.{IfOk-weaker}
use Rattle.clap.specs.Words.{with_rule}
use Rattle.command_line.proofs.Facts.{both_false}
use Rattle.command_line.proofs.definition.and_arg.Goals as goal

pub returns : goal.returns
returns c = λ app rule built is local.
    let before = rw c.in_ok-command.was at built in
    IfOk-weaker c.arg.result _ _ (λ r h. (h.shape local ∙ ap₂ with_rule before.0 is, both_false _ _ _ h.globals before.1 local)) c.arg.ensures
