use Rattle.std.specs.List.{AllByRecursion}
use Rattle.run_rig.specs.Enlisted.{IsHand}
use Rattle.run_rig.proofs.crew.start_all.Given as goal

abbrev pub invariant-loop-hand : goal.invariant-loop-hand
invariant-loop-hand g l = AllByRecursion (IsHand l.table l.queue) l.hand-iterator.rest.items
