use Rattle.std.proofs.Common.{◌≡◌, ◌++◌, false, rules}
use Rattle.std.proofs.KnownBytes.{Consumes-trans}
use Rattle.source_recovery.proofs.WindowLemmas.{true-no_false, rest_read-DropsRest}
use Rattle.source_recovery.proofs.window.Window.drop_rest.Goals as goal

pub reads-preserved : goal.reads-preserved
reads-preserved g c =
    let was = c.reads.invariant in
    let goes_on : c.reads.self.ended ≡ false = search rules in
    let filled = c.in_ok-fill.ensures in
    record {
      rest = was.rest ++ filled.read.0;
      read = Consumes-trans _ _ _ was.rest filled.read.0 was.read filled.read.1;
      none = λ ended. absurd (true-no_false _ (was.ended ended) goes_on);
      ended = λ ended. absurd (true-no_false _ (was.ended ended) goes_on);
      end = λ before. filled.end;
      no_fault = search rules;
    }

pub returns-clause-rest : goal.returns-clause-rest
returns-clause-rest g c = λ first passed before.
    let was = c.reads.invariant in
    rest_read-DropsRest first _ _ _ passed was.rest before was.read was.none (was.end before.end (search rules))
