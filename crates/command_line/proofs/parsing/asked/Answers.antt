use Rattle.command_line.proofs.Asking.{Answers-command_or_refusal, Answers-memory_or_numbers}
use Rattle.command_line.proofs.parsing.asked.Goals as goal

pub returns-clause-exact : goal.returns-clause-exact
returns-clause-exact c = λ words known named.
    Answers-command_or_refusal words c.subcommand.result _ (rw c.subcommand.ensures at named) known c.answer.result c.answer.ensures

pub returns-clause-taken : goal.returns-clause-taken
returns-clause-taken c = λ words known named.
    Answers-memory_or_numbers words c.subcommand.result _ (rw c.subcommand.ensures at named) c.answer.result c.answer.ensures
