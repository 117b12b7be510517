use Rattle.own_records.proofs.Opens.{settled-all_fresh, fresh-opened}
use Rattle.own_records.proofs.creating.create.Goals as goal

pub returns-clause-opens : goal.returns-clause-opens
returns-clause-opens g c =
    let fresh = settled-all_fresh g.D.LogDisk g.met.D.LogDisk.read_is_image c.args.len _ c.requires in
    fresh-opened g.D.LogDisk g.met.D.LogDisk.read_is_image _ _ c.shut_first.result fresh c.shut_first.ensures.stays _ _ c.create_shut.ensures.opens
