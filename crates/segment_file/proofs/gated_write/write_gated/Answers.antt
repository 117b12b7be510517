use Rattle.std.proofs.Common.{rules}
use Rattle.segment_file.proofs.GatedWrites.{writes_gated-first_failed, writes_gated-first_succeeded}
use Rattle.segment_file.proofs.gated_write.write_gated.Goals as goal

pub returns-in_err-write_synced : goal.returns-in_err-write_synced
returns-in_err-write_synced g c =
    writes_gated-first_failed g.D.LogDisk c.args.at c.args.body.now _ _ _ c.write_synced.ensures
    c.in_err-write_synced.ensures.cause.failed _ _ c.from_residual.ensures.1

pub returns : goal.returns
returns g c =
    let wrote = c.in_ok-write_synced.ensures in
    writes_gated-first_succeeded g.D.LogDisk c.args.at c.args.body.now _ _ _ c.write_synced.ensures wrote.written wrote.settled
    wrote.cause.fine _ _ (search rules)
