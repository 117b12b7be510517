use Rattle.lock_core.specs.Transactions.{updates_of}
use Rattle.lock_core.proofs.ChainLemmas.{chain-unique}
use Rattle.lock_core.proofs.transactions.Transactions.changes.Goals as goal

pub returns : goal.returns
returns c = λ txn h open'. chain-unique c.args.self.now.updates c.args.place c.chain.new.changes.items (updates_of txn h) c.chain.ensures open'.chain
