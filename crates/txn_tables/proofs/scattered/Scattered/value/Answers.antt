use Rattle.txn_tables.specs.Roots.{root_of}
use Rattle.txn_tables.proofs.SearchLemmas.{IsEnd-own_value, IsEnd-no_value}
use Rattle.txn_tables.proofs.scattered.Scattered.value.Goals as goal

pub returns-then-node-txn : goal.returns-then-node-txn
returns-then-node-txn c = let root = root_of c.args.self.now.roots c.args.txn in
    IsEnd-own_value c.args.self.now.nodes.items root c.args.txn c.in-Some.end c.index-node.result.now c.in-Some.ensures c.index-node.ensures c.if-node-txn.true

pub returns-else-node-txn : goal.returns-else-node-txn
returns-else-node-txn c = let root = root_of c.args.self.now.roots c.args.txn in
    IsEnd-no_value c.args.self.now.nodes.items root c.args.txn c.in-Some.end c.index-node.result.now c.in-Some.ensures c.index-node.ensures c.if-node-txn.false
