-- Why a source gives no log.
use Rattle.std.proofs.Common.{◌≡◌, ◌∙◌, Err, IsErrOf, List, [], Option, Some, None, IfSome, ℕ, ap, subst, sym}
use Rattle.log_disk.specs.Faults.{CountsWhere}
use Rattle.log_recovery.specs.declared.recovery.RecoverFault.{RecoverFault}
use Rattle.log_recovery.specs.declared.recovery.RecoverFault.TheVariants as fault
use Rattle.log_recovery.specs.Recovery.{HasSourceFault, IsFaultOf}
use Rattle.cli_shared.specs.declared.report.Detail.{Detail}
use Rattle.cli_shared.specs.declared.report.Detail.TheVariants.{Read}
use Rattle.source_recovery.specs.Recovery.{IsSourceFaultOf}
use Rattle.source_recovery.specs.declared.recovery.SourceFault.{SourceFault}
use Rattle.source_recovery.specs.declared.recovery.SourceFault.TheVariants as source
use Rattle.cli_shared.specs.Answers.{IsSourceFault, recover_detail}
use Rattle.cli_shared.specs.LogInput.{TellsSource}
use Rattle.cli_shared.proofs.ToldLemmas.{TellsRead}

-- the fault that a source has, of all its bytes
pub HasSourceFault-fault_of_bytes : (left left_new : Option (List ℕ)) (f : RecoverFault) → HasSourceFault left left_new f
    → IfSome left (λ bytes. (left_new ≡ Some []) × IsFaultOf bytes f)
HasSourceFault-fault_of_bytes None left_new f is = tt
HasSourceFault-fault_of_bytes (Some all) left_new f is = (is.1.1, subst (λ b. IsFaultOf b f) is.1.0 is.2)

-- why nothing is recovered is why a source gives no log
pub HasSourceFault-is_source_fault : (left left_new : Option (List ℕ)) (f : RecoverFault) → HasSourceFault left left_new f
    → IsSourceFault left left_new (recover_detail f)
HasSourceFault-is_source_fault left left_new fault.NoMemory is = tt
HasSourceFault-is_source_fault left left_new f is = is

pub IsSourceFaultOf-is_source_fault : (left left_new : Option (List ℕ)) (f : RecoverFault) → IsSourceFaultOf left left_new (source.Log f)
    → IsSourceFault left left_new (recover_detail f)
IsSourceFaultOf-is_source_fault left left_new fault.NoMemory is = tt
IsSourceFaultOf-is_source_fault left left_new f is = HasSourceFault-is_source_fault left left_new f is

-- what is told of a log is no failed read
recover_detail-other_than_read : (f : RecoverFault) → recover_detail f ≡ Read → ⊥
recover_detail-other_than_read f is = no_read f (subst TellsRead (sym is) tt)
  where
    no_read : (f : RecoverFault) → TellsRead (recover_detail f) → ⊥
    no_read fault.NotALog tells = tells
    no_read f tells = tells

pub recover_detail-TellsSource : (f : RecoverFault) (detail : Detail) → detail ≡ recover_detail f → TellsSource (source.Log f) detail
recover_detail-TellsSource f detail is = record {
  is = λ left left_new has. subst (IsSourceFault left left_new) (sym is) (IsSourceFaultOf-is_source_fault left left_new f has);
  failed = λ failed. absurd (cc);
  only = λ read. absurd (recover_detail-other_than_read f (sym is ∙ read));
}

-- a source's fault is told, and counted where it is a failed read
pub TellsSource-CountsWhere : {T U : Type 0} (from : SourceFault) (told : Detail) (before now : ℕ) → TellsSource from told
    → CountsWhere (IsErrOf {T = T} (Err from) source.Failed) before now → CountsWhere (IsErrOf {T = U} (Err told) Read) before now
TellsSource-CountsWhere from told before now tells read = record {
  counted = λ is. let same : told ≡ Read = cc in read.counted (ap Err (tells.only same));
  fine = λ other. read.fine (λ is. let same : from ≡ source.Failed = cc in other (ap Err (tells.failed same)));
}
