use Rattle.std.proofs.Common.{inl}
use Rattle.command_line.proofs.Asking.{refuses-mismatch}
use Rattle.command_line.proofs.parsing.parse.Goals as goal

pub asked_by-requires : goal.asked_by-requires
asked_by-requires c = (c.args.words.now, c.in-Ok.ensures.exact, c.in-Ok.ensures.ok)

pub returns-in-Ok-clause-exact : goal.returns-in-Ok-clause-exact
returns-in-Ok-clause-exact c = c.asked_by.ensures.exact c.args.words.now c.in-Ok.ensures.exact c.in-Ok.ensures.ok

pub returns-in-Ok-clause-taken : goal.returns-in-Ok-clause-taken
returns-in-Ok-clause-taken c = λ takes. c.asked_by.ensures.taken c.args.words.now c.in-Ok.ensures.exact c.in-Ok.ensures.ok

pub returns-in-Err-clause-exact : goal.returns-in-Err-clause-exact
returns-in-Err-clause-exact c = refuses-mismatch c.args.words.now _ c.in-Err.ensures.exact

pub returns-in-Err-clause-taken : goal.returns-in-Err-clause-taken
returns-in-Err-clause-taken c = λ takes. inl (c.in-Err.ensures.taken takes)
