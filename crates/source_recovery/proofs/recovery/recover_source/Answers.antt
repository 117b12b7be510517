use Rattle.source_recovery.proofs.recovery.recover_source.Goals as goal

pub returns : goal.returns
returns g c =
    let taken = c.in_ok-judge.ensures.found in record {
      found = (
        taken.bytes,
        taken.read,
        c.recovered_of.ensures.found taken.bytes (record { list = taken.list; held = taken.held; stands = taken.stands; taken = taken.taken }),
      );
      number = c.recovered_of.ensures.number;
      fault = tt;
      failed = record { counted = λ is. absurd (cc); fine = λ _. c.in_ok-judge.ensures.failed.fine (λ is. cc) };
    }
