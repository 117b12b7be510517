use Rattle.std.proofs.Common.{rules, sym, subst}
use Rattle.cli_ending.specs.Conclusion.{NoneStopped}
use Rattle.cli_ending.proofs.conclusion.stopped.Goals as goal

pub returns-in-Some-DiskFault-clause-some : goal.returns-in-Some-DiskFault-clause-some
returns-in-Some-DiskFault-clause-some c = search rules steps 300000

pub returns-in-Some-WriteFault-clause-some : goal.returns-in-Some-WriteFault-clause-some
returns-in-Some-WriteFault-clause-some c = search rules steps 300000

pub first_log_end-requires : goal.first_log_end-requires
first_log_end-requires c = subst NoneStopped (sym c.as_slice.ensures.value) (c.requires c.in-None.is)

pub returns-in_ok-tail-in-None-clause-some : goal.returns-in_ok-tail-in-None-clause-some
returns-in_ok-tail-in-None-clause-some c = (c.in-None.is, search rules steps 300000)

pub returns-in_err-tail-in-None-clause-none : goal.returns-in_err-tail-in-None-clause-none
returns-in_err-tail-in-None-clause-none c = search rules steps 1000000
