use Rattle.std.proofs.Common.{◌≡◌, ◌+◌, ◌*◌, Ok, arith}
use Rattle.segment_file.specs.Lengths.{new_tail}
use Rattle.segment_file.proofs.GateCloses.{creates-close_failed, creates-write_failed, creates-succeeded}
use Rattle.segment_file.proofs.creating.create.Goals as goal

pub returns-in_err-close_gate : goal.returns-in_err-close_gate
returns-in_err-close_gate g c =
    creates-close_failed g.D.LogDisk _ _ _ _ c.close_gate.ensures c.in_err-close_gate.ensures.cause.failed _ _ c.from_residual.ensures.1

pub returns-in_err-create_sealed : goal.returns-in_err-create_sealed
returns-in_err-create_sealed g c =
    creates-write_failed g.D.LogDisk _ _ _ _ c.close_gate.ensures c.in_ok-close_gate.ensures.cause.fine _ _ _ c.create_sealed.ensures
    c.in_err-create_sealed.ensures.cause.failed _ _ c.from_residual-in_err-create_sealed.ensures.1

pub returns : goal.returns
returns g c =
    let made = c.in_ok-create_sealed.ensures in
    let end = new_tail c.args.batch.now.units in
    let at : 12 + 8 * c.count-count.result ≡ end.at = omega (arith, c.count-count.ensures) in
    let next : c.new.result ≡ end.next = omega (arith, c.new.ensures, c.count-count.ensures) in
    creates-succeeded g.D.LogDisk _ _ _ _ c.close_gate.ensures c.in_ok-close_gate.ensures.cause.fine _ _ _ c.create_sealed.ensures
    made.created made.shut made.settled made.cause.fine _ (λ i. Ok (record { at = at i; next = next i }))
