use Rattle.std.proofs.Common.{◌≡◌, ◌==◌, ◌/◌, ◌∙◌, ◌++◌, [], ◌∷◌, Some, cond, set, get_or, ap, subst}
use Rattle.txn_tables.specs.declared.scattered.TheConstants.{ROOTS}
use Rattle.txn_tables.specs.Nodes.{node_value}
use Rattle.txn_tables.specs.Roots.{root_of}
use Rattle.txn_tables.proofs.SearchLemmas.{put-linked}
use Rattle.txn_tables.proofs.scattered.Scattered.append.Goals as goal

pub returns : goal.returns
returns c = λ other.
    let nodes = c.args.self.now.nodes.items in let at = c.args.end.at in let root = root_of c.args.self.now.roots in
    let items : c.push.new.self.items ≡ nodes ++ c.new.result ∷ [] = c.in-Ok.ensures.items in
    let read = subst (λ more. c.index_mut.result.now ≡ get_or more at c.index_mut.result.now) items c.index_mut.ensures.value in
    ap (λ more. node_value (set more at c.link.new.self) (root other) (other / ROOTS) other) items
    ∙ put-linked nodes root c.args.txn c.in-Some.places c.args.end c.index_mut.result.now c.link.new.self c.new.result
    c.args.self.now.inside c.args.self.now.begin c.requires.end c.requires.other read c.link.ensures c.in-Some.ensures c.new.ensures.last c.new.ensures.txn other
    ∙ ap (λ value. cond (c.args.txn == other) (Some value) (node_value nodes (root other) (other / ROOTS) other)) c.new.ensures.value
