use Rattle.std.proofs.Common.{sym, subst}
use Rattle.log_recovery.specs.Recovery.{list_of}
use Rattle.cli_cut.specs.Cutting.{IsCutOf}
use Rattle.cli_cut.proofs.reading.ask.Goals as goal

pub returns-clause-head : goal.returns-clause-head
returns-clause-head c = λ genesis later whole place.
    subst (IsCutOf (list_of c.args.listed.now genesis)) (sym c.in_ok-head.ensures) (c.in_ok-opening.ensures.cut genesis later whole place)
