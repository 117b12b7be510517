use Rattle.std.proofs.Common.{◌≡◌, ◌==◌, ◌/◌, ◌%◌, ◌+◌, ◌∙◌, ◌++◌, [], ◌∷◌, Some, cond, length, ap, subst, rules}
use Rattle.std.proofs.lemmas.Result.{on_ok_weaker}
use Rattle.txn_tables.specs.declared.scattered.TheConstants.{ROOTS}
use Rattle.txn_tables.specs.Nodes.{node_value}
use Rattle.txn_tables.specs.Roots.{root_of}
use Rattle.txn_tables.specs.Rows.{PutsNumber}
use Rattle.txn_tables.proofs.SearchLemmas.{put-root}
use Rattle.txn_tables.proofs.scattered.Scattered.append_root.Goals as goal

pub returns : goal.returns
returns c =
    let nodes = c.args.self.now.nodes.items in let old = c.args.self.now.roots in let new = c.put.new.self in
    let items : c.push.new.self.items ≡ nodes ++ c.new.result ∷ [] = c.in-Ok.ensures.items in
    let root : c.in-Ok-try_from.root ≡ length nodes + 1 = search rules in
    on_ok_weaker c.put.result
    (λ puts other.
    ap (λ more. node_value more (root_of new other) (other / ROOTS) other) items
    ∙ put-root nodes old new c.args.txn c.new.result c.args.self.now.inside c.args.self.now.begin c.requires
    (subst (PutsNumber old new (c.args.txn % ROOTS)) root puts) c.new.ensures.last c.new.ensures.txn other
    ∙ ap (λ value. cond (c.args.txn == other) (Some value) (node_value nodes (root_of old other) (other / ROOTS) other)) c.new.ensures.value)
    c.put.ensures.put
