use Rattle.std.proofs.Common.{List, ℕ, ◌∷◌, [], ◌++◌, ◌∙◌, ap, subst, length, arith}
use Rattle.std.specs.List.{flat_map}
use Rattle.lsn_space.specs.Opening.{Opening}
use Rattle.segment_file.specs.File.{gated}
use Rattle.segment_file.specs.Log.{later_batch, IsFront}
use Rattle.segment_file.proofs.FileLemmas.{counted-more}
use Rattle.segment_file.proofs.ScanLemmas.{front_and_batches-ReadsTo, rest-shorter, read_bytes-push, read_units-push}
use Rattle.segment_file.proofs.scanning.scan.Goals as goal

pub batches-preserved : goal.batches-preserved
batches-preserved c =
    let before = c.batches.invariant in
    let taken = c.in-Ok-take_batch.ensures.taken in
    let gate = c.in-Some.ensures.some in
    record {
      front = before.front;
      first = before.first;
      begins = before.begins;
      read = before.read ++ taken.units ∷ [];
      each = counted-more _ _ before.each taken.counted;
      whole = read_bytes-push _ before.front before.read _ _ taken.units _ before.whole gate.0 taken.front;
      units = read_units-push before.first before.read _ taken.units _ before.units taken.added;
      begin = before.begin;
      total = taken.total;
    }

pub returns-in-Err-Bad-clause-fault : goal.returns-in-Err-Bad-clause-fault
returns-in-Err-Bad-clause-fault c =
    let before = c.batches.invariant in
    let gate = c.in-Some.ensures.some in
    let recorded : List ℕ = before.front ++ flat_map gated before.read in
    let opening : Opening = record { lsn = c.opening.inside.lsn; txn = c.opening.inside.txn; accounts = c.opening.inside.accounts.rows } in
    later_batch (record { opening = opening; units = c.batches.units.items }) (record {
      body = c.in-Some.body.now;
      some = gate.1;
      reads = front_and_batches-ReadsTo _ before.front before.first opening before.read _ _ before.begins before.each (before.whole ∙ ap (λ rest. recorded ++ rest) gate.0)
          before.units before.total;
      place = omega (arith, ap length gate.0, rest-shorter c.args.bytes.now recorded c.batches.rest.now before.whole);
      none = c.in-Err-Bad.ensures.bad (cc);
    })

pub returns-clause-found : goal.returns-clause-found
returns-clause-found c =
    let before = c.batches.invariant in
    let recorded : List ℕ = before.front ++ flat_map gated before.read in
    let begins = subst (λ (opening : Opening). IsFront before.front opening before.first) c.opening.view_is before.begins in
    let same = ap length c.new-2.ensures in
    let begin = ap (λ (opening : Opening). opening.lsn) c.opening.view_is in
    record {
      held = record {
        rest = c.batches.rest.now;
        reads = front_and_batches-ReadsTo _ before.front before.first _ before.read _ _ begins before.each before.whole (c.new-2.ensures ∙ before.units)
            (omega (arith, before.total, same, begin));
        closed = c.in_default.ensures.none;
      };
      place = omega (arith, rest-shorter c.args.bytes.now recorded c.batches.rest.now before.whole);
      next = omega (arith, c.new.ensures, c.units.ensures, c.len.ensures, same, begin);
    }
