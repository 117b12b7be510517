use Rattle.std.proofs.Common.{◌≢◌, ◌<◌, rules}
use Rattle.txn_tables.specs.Roots.{root_of}
use Rattle.txn_tables.proofs.SearchLemmas.{BeginInside-comes, LeadInside-comes}
use Rattle.txn_tables.proofs.scattered.Scattered.search.Goals as goal

pub nodes-init : goal.nodes-init
nodes-init c =
    let begin = BeginInside-comes c.args.self.now.nodes.items c.args.self.now.roots c.args.txn c.at-root.result c.args.self.now.begin c.at-root.ensures c.if-root-eq0.false in
    record { inside = begin.0; comes = begin.1 }

pub nodes-preserved : goal.nodes-preserved
nodes-preserved c =
    let other : c.index-node.result.now.txn ≢ c.args.txn = search rules in
    let some : 0 < c.ahead-ahead.result = search rules in
    let on = LeadInside-comes c.args.self.now.nodes.items (root_of c.args.self.now.roots c.args.txn) c.args.txn c.nodes.at c.nodes.path c.ahead-ahead.result c.index-node.result.now
    c.args.self.now.inside c.nodes.invariant.inside c.nodes.invariant.comes c.index-node.ensures other c.ahead-ahead.ensures some in
    record { inside = on.0; comes = on.1 }
