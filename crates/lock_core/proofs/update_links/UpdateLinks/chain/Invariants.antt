use Rattle.std.proofs.Common.{◌-◌, length}
use Rattle.lock_core.proofs.ChainLemmas.{Collects}
use Rattle.lock_core.proofs.update_links.UpdateLinks.chain.Given as goal

abbrev pub invariant-links : goal.invariant-links
invariant-links l = Collects l.self l.place l.changes.items l.at

abbrev pub decreases-links : goal.decreases-links
decreases-links l = 16 - length l.changes.items
