use Rattle.log_recovery.proofs.listing.listed.Goals as goal

pub returns-in-Err-clause-fault : goal.returns-in-Err-clause-fault
returns-in-Err-clause-fault c = c.scan_fault.ensures.listed c.args.bytes.now c.in-Err.ensures.fault
