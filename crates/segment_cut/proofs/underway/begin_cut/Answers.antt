use Rattle.std.proofs.Common.{◌∙◌, refl, ap, length}
use Rattle.std.proofs.lemmas.Result.{err_from_is_err_and}
use Rattle.segment_file.proofs.GateBytes.{shut-within}
use Rattle.segment_cut.proofs.Beginning.{begins-close_failed, begins-write_failed, begins-succeeded}
use Rattle.segment_cut.proofs.Headed.{length-sealed_head}
use Rattle.segment_cut.proofs.underway.begin_cut.Goals as goal

pub write_unsynced-requires : goal.write_unsynced-requires
write_unsynced-requires g c = λ honest.
    let shut = c.in_ok-close_gate.ensures.shut (c.close_gate.ensures.honest.1 honest) in
    shut-within 0 _ shut _ (g.met.D.LogDisk.read_is_image _ honest)

pub returns-in_err-close_gate : goal.returns-in_err-close_gate
returns-in_err-close_gate g c =
    let failed = err_from_is_err_and c.from_residual.result c.from_residual.ensures.1 in
    begins-close_failed g.D.LogDisk c.args.head.now _ _ _ c.close_gate.ensures c.in_err-close_gate.ensures.cause.failed _ failed.0 failed.1

pub returns-in_err-write_unsynced : goal.returns-in_err-write_unsynced
returns-in_err-write_unsynced g c =
    let failed = err_from_is_err_and c.from_residual-in_err-write_unsynced.result c.from_residual-in_err-write_unsynced.ensures.1 in
    let wrote = rw c.sealed-sealed.ensures.bytes at c.write_unsynced.ensures in
    let closed = c.in_ok-close_gate.ensures in
    begins-write_failed g.D.LogDisk c.args.head.now _ _ _ c.close_gate.ensures closed.shut closed.cause.fine _ _ wrote
    c.in_err-write_unsynced.ensures.cause.failed _ failed.0 failed.1

pub returns : goal.returns
returns g c =
    let wrote = rw c.sealed-sealed.ensures.bytes at c.write_unsynced.ensures in
    let done = rw c.sealed-sealed.ensures.bytes at c.in_ok-write_unsynced.ensures.written in
    let closed = c.in_ok-close_gate.ensures in
    begins-succeeded g.D.LogDisk c.args.head.now _ _ _ c.close_gate.ensures closed.shut closed.cause.fine _ _ wrote
    (g.met.D.LogDisk.read_is_image _) c.sealed-sealed.ensures.held done c.in_ok-write_unsynced.ensures.cause.fine _ _ refl
    (ap length c.sealed-sealed.ensures.bytes ∙ length-sealed_head _) c.lsn.ensures
