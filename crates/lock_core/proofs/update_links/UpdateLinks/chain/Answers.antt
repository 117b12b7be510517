use Rattle.std.proofs.Common.{◌<◌, sym, subst, arith}
use Rattle.lock_core.proofs.ChainLemmas.{Collects, collects-inside_and_room, collects-more, collects_to_zero-has_chain}
use Rattle.lock_core.proofs.update_links.UpdateLinks.chain.Goals as goal

pub at-link-requires : goal.at-link-requires
at-link-requires c =
    let some : 0 < c.links.at = omega arith in (collects-inside_and_room c.args.self.now c.args.place c.links.changes.items c.links.at some c.links.invariant).0

pub links-preserved : goal.links-preserved
links-preserved c =
    let some : 0 < c.links.at = omega arith in
    subst (λ collected. Collects c.args.self.now c.args.place collected c.at-link.result.older) (sym c.push.ensures.items)
    (collects-more c.args.self.now c.args.place c.links.changes.items c.links.at c.at-link.result some c.at-link.ensures c.links.invariant)

pub returns : goal.returns
returns c = collects_to_zero-has_chain c.args.self.now c.args.place c.links.changes.items c.links.at (omega arith) c.links.invariant
