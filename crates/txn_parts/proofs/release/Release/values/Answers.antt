use Rattle.txn_parts.proofs.release.Release.values.Goals as goal

pub returns-in-Committed-clause-values : goal.returns-in-Committed-clause-values
returns-in-Committed-clause-values c = rw c.in-Committed.is (λ i. (c.args.holding.now.balance, c.units.ensures i))
