use Rattle.std.proofs.Common.{◌≡◌, true, ℕ, List, []}
use Rattle.std.specs.Io.KnownBytes.{Consumes, IsAtEnd}
use Rattle.source_recovery.proofs.WindowLemmas.{reads_left}
use Rattle.source_recovery.proofs.window.Window.drop_rest.Given as goal

abbrev pub invariant-reads : goal.invariant-reads
invariant-reads g l = record {
  rest : List ℕ;
  read : Consumes (g.S.Source.left l.fn.source) (g.S.Source.left l.source) rest;
  none : l.fn.self.ended ≡ true → rest ≡ [];
  ended : l.fn.self.ended ≡ true → l.self.ended ≡ true;
  end : (l.fn.self.ended ≡ true → IsAtEnd (g.S.Source.left l.fn.source)) → l.self.ended ≡ true → IsAtEnd (g.S.Source.left l.source);
  no_fault : g.S.Source.faults l.source ≡ g.S.Source.faults l.fn.source;
}

abbrev pub decreases-reads : goal.decreases-reads
decreases-reads g l = reads_left l.self.ended (g.S.Source.read_allowance l.source)
