-- What is wrong with bytes that were read, as it is answered.
use Rattle.std.proofs.Common.{◌≡◌, sym, subst, ℕ, List, Result, IfErr, IsErrAnd}
use Rattle.std.proofs.lemmas.Result.{err_from_is_err_and}
use Rattle.own_records.specs.Opening.{open_fault, IsOpenFaultOf}
use Rattle.own_records.specs.Records.{IsRecordsFaultOf}
use Rattle.own_records.specs.declared.opening.OpenFault.{OpenFault}
use Rattle.own_records.specs.declared.reading.RecordsFault.{RecordsFault}
use Rattle.own_records.specs.declared.reading.RecordsFault.TheVariants.{NotRecords, BadRecord, NoMemory}

records_fault-open_fault : (bytes : List ℕ) (fault : RecordsFault) → IsRecordsFaultOf bytes fault → IsOpenFaultOf bytes (open_fault fault)
records_fault-open_fault bytes NotRecords is = is
records_fault-open_fault bytes BadRecord is = is
records_fault-open_fault bytes NoMemory is = is

pub fault-answered : {T : Type 0} (file bytes : List ℕ) (fault : RecordsFault) (answer : Result T OpenFault) → bytes ≡ file → IsRecordsFaultOf bytes fault
    → IsErrAnd answer (λ f. f ≡ open_fault fault) → IfErr answer (IsOpenFaultOf file)
fault-answered file bytes fault answer same is failed =
    let found = err_from_is_err_and answer failed in
    rw found.1 (subst (IsOpenFaultOf file) (sym found.2) (subst (λ read. IsOpenFaultOf read (open_fault fault)) same (records_fault-open_fault bytes fault is)))
