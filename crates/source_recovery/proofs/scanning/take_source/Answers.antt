use Rattle.source_recovery.proofs.JudgedLemmas.{ReadsAll-IsSourceFaultOf}
use Rattle.source_recovery.proofs.scanning.take_source.Goals as goal

pub returns-in-Err-clause-fault : goal.returns-in-Err-clause-fault
returns-in-Err-clause-fault g c =
    let found = c.in_ok-scan.ensures.found in
    ReadsAll-IsSourceFaultOf _ _ found.0 c.in-Err.fault found.1 (c.in-Err.ensures.fault found.0 found.2)
