use Rattle.std.proofs.Common.{subst}
use Rattle.segment_file.specs.Scan.{IsScanFaultOf}
use Rattle.log_recovery.proofs.recovery.scan_fault.Goals as goal

pub returns-in-BadBatch-clause-fault : goal.returns-in-BadBatch-clause-fault
returns-in-BadBatch-clause-fault c = λ bytes fault. subst (IsScanFaultOf bytes) c.in-BadBatch.is fault

pub returns-in-BadBatch-clause-listed : goal.returns-in-BadBatch-clause-listed
returns-in-BadBatch-clause-listed c = λ bytes fault. subst (IsScanFaultOf bytes) c.in-BadBatch.is fault
