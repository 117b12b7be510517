use Rattle.std.proofs.Common.{◌<◌, ◌-◌, ◌/◌, length}
use Rattle.txn_tables.specs.declared.scattered.TheConstants.{ROOTS}
use Rattle.txn_tables.specs.Nodes.{Comes}
use Rattle.txn_tables.specs.Roots.{root_of}
use Rattle.txn_tables.proofs.scattered.Scattered.search.Given as goal

abbrev pub invariant-nodes : goal.invariant-nodes
invariant-nodes l = record {
  inside : l.at < length l.self.nodes.items;
  comes : Comes l.self.nodes.items (root_of l.self.roots l.txn) (l.txn / ROOTS) l.txn l.at l.path;
}

abbrev pub decreases-nodes : goal.decreases-nodes
decreases-nodes l = length l.self.nodes.items - l.at
