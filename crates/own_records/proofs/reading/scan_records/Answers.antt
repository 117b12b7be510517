use Rattle.own_records.proofs.Readings.{bad_record-holds_none}
use Rattle.own_records.proofs.reading.scan_records.Goals as goal

pub returns-in_default-split_text-clause-fault : goal.returns-in_default-split_text-clause-fault
returns-in_default-split_text-clause-fault c =
    let before = c.records.invariant in
    let gate = c.in-Some-after_gate.ensures.some in
    bad_record-holds_none c.args.bytes.now c.records.records.items c.records.rest.now c.in-Some-after_gate.body.now before.each before.whole gate.0 gate.1
    c.in_default-split_text.ensures.none
