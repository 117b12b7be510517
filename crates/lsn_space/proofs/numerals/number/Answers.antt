use Rattle.std.proofs.Common.{arith}
use Rattle.std.proofs.lemmas.Option.{same_Some}
use Rattle.lsn_space.proofs.numerals.number.Goals as goal

pub returns-in_default-3-clause-none : goal.returns-in_default-3-clause-none
returns-in_default-3-clause-none c = λ n least most text. omega (arith, same_Some _ _ (c.in-Some.ensures n (omega arith) text))
