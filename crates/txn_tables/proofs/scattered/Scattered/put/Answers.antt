use Rattle.std.proofs.Common.{◌≡◌, ◌∙◌, refl, ap, sym}
use Rattle.txn_tables.specs.declared.node.Node.{Node}
use Rattle.txn_tables.specs.Roots.{root_of}
use Rattle.txn_tables.proofs.SearchLemmas.{get_or-no_node, IsEnd-own_value, IsEnd-no_value, put-set}
use Rattle.txn_tables.proofs.scattered.Scattered.put.Goals as goal

pub returns-then-found-txn-clause-put : goal.returns-then-found-txn-clause-put
returns-then-found-txn-clause-put c = λ other.
    let nodes = c.args.self.now.nodes.items in let end = c.in-Some.end in let ends = c.in-Some.ensures in
    let new : Node = record { txn = c.index_mut.result.now.txn; value = c.args.value; ways = c.index_mut.result.now.ways } in
    let same : c.index_mut.result.now ≡ c.index-found.result.now =
    sym (get_or-no_node nodes end.at c.index_mut.result.now ends.inside c.index_mut.ensures.value) ∙ get_or-no_node nodes end.at c.index-found.result.now ends.inside c.index-found.ensures in
    put-set nodes (root_of c.args.self.now.roots) c.args.txn end c.index_mut.result.now new ends c.index_mut.ensures.value (ap (λ (n : Node). n.txn) same ∙ c.if-found-txn.true)
    refl refl other

pub returns-then-found-txn-clause-before : goal.returns-then-found-txn-clause-before
returns-then-found-txn-clause-before c = let root = root_of c.args.self.now.roots c.args.txn in
    IsEnd-own_value c.args.self.now.nodes.items root c.args.txn c.in-Some.end c.index-found.result.now c.in-Some.ensures c.index-found.ensures c.if-found-txn.true

pub returns-clause-before : goal.returns-clause-before
returns-clause-before c = let root = root_of c.args.self.now.roots c.args.txn in
    IsEnd-no_value c.args.self.now.nodes.items root c.args.txn c.in-Some.end c.index-found.result.now c.in-Some.ensures c.index-found.ensures c.if-found-txn.false
