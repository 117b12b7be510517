use Rattle.log_recovery.proofs.recovery.scanned.Goals as goal

pub returns-in-Err-clause-fault : goal.returns-in-Err-clause-fault
returns-in-Err-clause-fault c = c.scan_fault.ensures.fault c.args.bytes.now c.in-Err.ensures.fault
