use Rattle.own_records.proofs.Opens.{made-failed, made-succeeded}
use Rattle.own_records.proofs.creating.create_shut.Goals as goal

pub returns-in_err-write_gated-clause-opens : goal.returns-in_err-write_gated-clause-opens
returns-in_err-write_gated-clause-opens g c =
    made-failed g.D.LogDisk g.met.D.LogDisk.read_is_image _ _ _ c.requires.fresh c.requires.shut c.write_gated.ensures _ _ c.from_residual.ensures.1

pub returns-clause-opens : goal.returns-clause-opens
returns-clause-opens g c =
    made-succeeded g.D.LogDisk g.met.D.LogDisk.read_is_image _ _ _ c.requires.fresh c.requires.shut c.write_gated.ensures c.in_ok-write_gated.ensures.written
    c.in_ok-write_gated.ensures.settled
