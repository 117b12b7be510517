use Rattle.std.proofs.Common.{drop, length, ap, arith, length-append, length-drop}
use Rattle.std.proofs.lemmas.Fmt.{length-decimal-le}
use Rattle.lsn_space.specs.Number.{number_text}
use Rattle.log_recovery.proofs.line.Line.put_balance.Goals as goal

pub write_digits-self-inside-requires : goal.write_digits-self-inside-requires
write_digits-self-inside-requires c =
    let long = ap length c.self.view_is in let rest = length-drop c.self.inside.start c.self.inside.bytes in
    let digits = length-decimal-le 20 c.args.balance (omega arith) (omega arith) (omega arith) in
    (omega (arith, c.requires, c.self.invariant, c.self.told), omega (arith, c.self.invariant, c.self.told))

pub returns-clause-short : goal.returns-clause-short
returns-clause-short c =
    let digits = length-decimal-le 20 c.args.balance (omega arith) (omega arith) (omega arith) in
    let whole = ap length c.write_digits-self-inside.ensures.written in
    let parts = length-append (number_text c.args.balance) (drop c.self.inside.start c.self.inside.bytes) in
    omega (arith, digits, whole, parts, ap length c.self.view_is)
