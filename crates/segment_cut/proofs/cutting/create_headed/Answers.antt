use Rattle.std.proofs.Common.{◌∙◌, refl, ap, length}
use Rattle.std.proofs.lemmas.Result.{err_from_is_err_and}
use Rattle.segment_file.proofs.GateBytes.{shut-within}
use Rattle.segment_cut.proofs.HeadWrites.{creates_cut-write_failed, creates_cut-succeeded}
use Rattle.segment_cut.proofs.Headed.{length-sealed_head}
use Rattle.segment_cut.proofs.cutting.create_headed.Goals as goal

pub write_gated-requires-clause-within : goal.write_gated-requires-clause-within
write_gated-requires-clause-within g c = λ honest. shut-within 0 _ (c.requires.shut honest) _ (g.met.D.LogDisk.read_is_image _ honest)

pub returns-in_err-write_gated : goal.returns-in_err-write_gated
returns-in_err-write_gated g c =
    let failed = err_from_is_err_and c.from_residual.result c.from_residual.ensures.1 in
    let wrote = rw c.sealed-sealed.ensures.bytes at c.write_gated.ensures in
    creates_cut-write_failed g.D.LogDisk c.args.head.now c.sealed-sealed.ensures.held _ _ (g.met.D.LogDisk.read_is_image _) c.requires.shut _ wrote
    c.in_err-write_gated.ensures.cause.failed _ failed.0 failed.1

pub returns : goal.returns
returns g c =
    let wrote = rw c.sealed-sealed.ensures.bytes at c.write_gated.ensures in
    let done = rw c.sealed-sealed.ensures.bytes at c.in_ok-write_gated.ensures.written in
    creates_cut-succeeded g.D.LogDisk c.args.head.now c.sealed-sealed.ensures.held _ _ (g.met.D.LogDisk.read_is_image _) c.requires.shut _ wrote
    done c.in_ok-write_gated.ensures.settled c.in_ok-write_gated.ensures.cause.fine _ _ refl
    (ap length c.sealed-sealed.ensures.bytes ∙ length-sealed_head _) c.lsn.ensures
