use Rattle.std.proofs.Common.{◌≡◌, Ok, arith}
use Rattle.segment_file.specs.StandingLog.{tail_after}
use Rattle.segment_file.proofs.LogGrows.{appends-failed, appends-succeeded}
use Rattle.segment_file.proofs.appending.append.Goals as goal

pub returns-in_err-append_sealed : goal.returns-in_err-append_sealed
returns-in_err-append_sealed g c =
    appends-failed g.D.LogDisk _ _ _ _ _ _ c.append_sealed.ensures c.in_err-append_sealed.ensures.cause.failed _ _ c.from_residual.ensures.1

pub returns : goal.returns
returns g c =
    let done = c.in_ok-append_sealed.ensures in
    let end = tail_after c.args.tail c.args.batch.now.units in
    let at : c.after-after.result.at ≡ end.at = omega arith in
    let next : c.after-after.result.next ≡ end.next = omega arith in
    appends-succeeded g.D.LogDisk _ _ _ _ _ _ c.append_sealed.ensures done.appended done.shut done.settled done.cause.fine _
    (λ i. Ok (record { at = at i; next = next i }))
