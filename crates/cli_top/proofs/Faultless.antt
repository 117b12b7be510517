-- A log that holds a list has no fault.
use Rattle.std.proofs.Common.{subst, sym, ℕ, List}
use Rattle.log_recovery.specs.declared.recovery.RecoverFault.{RecoverFault}
use Rattle.log_recovery.specs.declared.recovery.RecoverFault.TheVariants as fault
use Rattle.log_recovery.specs.Opened.{OpenedList}
use Rattle.log_recovery.specs.Recovery.{HoldsLawful, HoldsList, IsFaultOf, IsListedFaultOf}
use Rattle.log_recovery.proofs.AnswerLemmas.{HoldsLawful-fault_no_memory, HoldsList-fault_no_memory}

-- it is want of memory, and no fault of the bytes
abbrev pub IsMemory : RecoverFault → Type 0
IsMemory fault.NoMemory = Unit {0}
IsMemory found = ⊥

pub HoldsLawful-fault_is_memory : (bytes : List ℕ) (list : OpenedList) (found : RecoverFault) → HoldsLawful bytes list → IsFaultOf bytes found → IsMemory found
HoldsLawful-fault_is_memory bytes list found held is = subst IsMemory (sym (HoldsLawful-fault_no_memory bytes list found held is)) tt

pub HoldsList-fault_is_memory : (bytes : List ℕ) (list : OpenedList) (found : RecoverFault) → HoldsList bytes list → IsListedFaultOf bytes found
    → IsMemory found
HoldsList-fault_is_memory bytes list found held is = subst IsMemory (sym (HoldsList-fault_no_memory bytes list found held is)) tt
