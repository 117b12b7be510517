use Rattle.std.proofs.Common.{subst, sym}
use Rattle.lock_core.specs.Transactions.{own_records_of, updates_of}
use Rattle.lock_core.specs.KeptLedger.{KeepsRecords}
use Rattle.lock_core.proofs.ChainLemmas.{chain-inside}
use Rattle.lock_core.proofs.transactions.Transactions.place.Goals as goal

pub returns-else-place-clause-inside : goal.returns-else-place-clause-inside
returns-else-place-clause-inside c =
    let h = c.requires.kept.0 in let kept = c.requires.kept.1 in
    let own = subst (λ place. KeepsRecords c.args.self.now.updates place (own_records_of c.args.txn h)) (sym c.value-place.ensures) (kept.each c.args.txn) in
    chain-inside c.args.self.now.updates c.value-place.result (updates_of c.args.txn h) kept.some (own.unended c.if-place.false).chain
