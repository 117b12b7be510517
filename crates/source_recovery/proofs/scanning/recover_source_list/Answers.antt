use Rattle.log_recovery.specs.Opened.{OpenedList}
use Rattle.log_recovery.specs.Recovery.{list_of}
use Rattle.source_recovery.proofs.scanning.recover_source_list.Goals as goal

pub returns-clause-found : goal.returns-clause-found
returns-clause-found g c =
    let found = c.in_ok-judge.ensures.found in
    let taken = found.2 in
    let list : OpenedList = list_of c.in_ok-judge.listed taken.records in (
      found.0,
      found.1,
      c.recovered_of.ensures.found found.0 (record { list = list; held = taken.held; stands = taken.stands; taken = taken.taken }),
      record { records = taken.records; held = taken.held.list; has = taken.has; stands = taken.stands },
    )
