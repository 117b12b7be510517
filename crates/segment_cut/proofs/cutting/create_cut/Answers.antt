use Rattle.std.proofs.lemmas.Result.{err_from_is_err_and}
use Rattle.segment_cut.proofs.HeadWrites.{creates_cut-close_failed, creates_cut-closed_before}
use Rattle.segment_cut.proofs.cutting.create_cut.Goals as goal

pub returns-in_err-close_gate : goal.returns-in_err-close_gate
returns-in_err-close_gate g c =
    let failed = err_from_is_err_and c.from_residual.result c.from_residual.ensures.1 in
    creates_cut-close_failed g.D.LogDisk c.args.head.now _ _ _ c.close_gate.ensures c.in_err-close_gate.ensures.cause.failed _ failed.0 failed.1

pub returns : goal.returns
returns g c =
    creates_cut-closed_before g.D.LogDisk c.args.head.now _ _ _ c.close_gate.ensures c.in_ok-close_gate.ensures.cause.fine _ _ c.create_headed.ensures
