use Rattle.std.proofs.Common.{◌∙◌, sym, subst}
use Rattle.own_records.specs.Records.{Holds}
use Rattle.own_records.proofs.OpenFaults.{fault-answered}
use Rattle.own_records.proofs.Readings.{one_list-holds}
use Rattle.own_records.proofs.opening.read_all.Goals as goal

pub returns-in_err-records_in-clause-fault : goal.returns-in_err-records_in-clause-fault
returns-in_err-records_in-clause-fault g c = λ honest.
    fault-answered _ _ _ _ (c.as_slice.ensures.value ∙ c.in_ok-bytes.ensures.bytes honest) c.in_err-records_in.ensures.fault
    c.from_residual-in_err-records_in.ensures.1

pub returns-clause-all : goal.returns-clause-all
returns-clause-all g c = λ honest texts held.
    one_list-holds _ _ texts (subst (Holds _) (c.as_slice.ensures.value ∙ c.in_ok-bytes.ensures.bytes honest) c.in_ok-records_in.ensures.found)
    (held _ (g.met.D.LogDisk.read_is_image _ honest))

pub returns-clause-held : goal.returns-clause-held
returns-clause-held g c = λ honest crash left.
    let opened = c.in_ok-bytes.ensures in
    subst (Holds _) (c.as_slice.ensures.value ∙ opened.bytes honest ∙ sym (c.open_image.ensures.reads honest) ∙ sym (opened.settled honest crash left))
    c.in_ok-records_in.ensures.found
