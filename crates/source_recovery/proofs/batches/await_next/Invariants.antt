use Rattle.std.proofs.Common.{◌≡◌, List, ℕ, Option}
use Rattle.source_recovery.specs.Window.{HasPassed}
use Rattle.source_recovery.proofs.WindowLemmas.{reads_left}
use Rattle.source_recovery.proofs.batches.await_next.Given as goal

abbrev pub invariant-fills : goal.invariant-fills
invariant-fills g l = record {
  passed : (first : Option (List ℕ)) (passed : List ℕ) → HasPassed first (g.S.Source.left l.fn.source) l.fn.window passed
      → HasPassed first (g.S.Source.left l.source) l.window passed;
  no_fault : g.S.Source.faults l.source ≡ g.S.Source.faults l.fn.source;
}

abbrev pub decreases-fills : goal.decreases-fills
decreases-fills g l = reads_left l.window.ended (g.S.Source.read_allowance l.source)
