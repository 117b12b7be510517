use Rattle.std.proofs.Common.{◌<◌, length, arith}
use Rattle.std.proofs.lemmas.Int.{ints}
use Rattle.ledger_view.proofs.EntryLemmas.{no_entry, first_entry-adds_net}
use Rattle.ledger_view.proofs.entries.Entries.first_balance.Goals as goal

pub returns-else-count-eq0 : goal.returns-else-count-eq0
returns-else-count-eq0 c = λ first sums last.
    let some : 0 < length c.args.self.now = omega (arith, c.if-count-eq0.false, c.count.ensures) in
    let sum = first_entry-adds_net first c.args.self.now no_entry sums some in let net = c.balance_before.ensures.net no_entry in
    omega (arith, ints, sum, net)
