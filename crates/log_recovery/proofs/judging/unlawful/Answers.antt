use Rattle.std.proofs.Common.{subst, arith}
use Rattle.log_recovery.specs.ListedRecords.{IsBadRecAt}
use Rattle.log_recovery.proofs.UnitsLemmas.{FailsBefore-IsUnlawfulAt}
use Rattle.log_recovery.proofs.judging.unlawful.Goals as goal

pub first_bad-requires-clause-fits : goal.first_bad-requires-clause-fits
first_bad-requires-clause-fits c = omega (arith, c.requires.fits, c.begin_of.ensures)

pub returns-in-None-clause-fault : goal.returns-in-None-clause-fault
returns-in-None-clause-fault c = FailsBefore-IsUnlawfulAt c.args.opening.now c.args.units.now c.args.rest.now c.args.lsn c.args.why c.requires.fails c.in-None.ensures.none

pub returns-in-Some-clause-fault : goal.returns-in-Some-clause-fault
returns-in-Some-clause-fault c = subst (λ begin. IsBadRecAt begin c.args.units.now c.in-Some.lsn) c.begin_of.ensures c.in-Some.ensures.bad
