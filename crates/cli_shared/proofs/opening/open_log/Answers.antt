use Rattle.std.proofs.Common.{refl, arith}
use Rattle.cli_shared.proofs.OpeningLemmas.{Recovers-opens}
use Rattle.cli_shared.proofs.opening.open_log.Goals as goal

pub returns-in-Err-DiskFault-clause-fault : goal.returns-in-Err-DiskFault-clause-fault
returns-in-Err-DiskFault-clause-fault g c = (g.D.LogDisk.reads c.args.disk.now, λ honest. refl, tt)

pub returns-in-Err-NoMemory-clause-fault : goal.returns-in-Err-NoMemory-clause-fault
returns-in-Err-NoMemory-clause-fault g c = (g.D.LogDisk.reads c.args.disk.now, λ honest. refl, tt)

pub returns-in-Ok-recover_owned-clause-opened : goal.returns-in-Ok-recover_owned-clause-opened
returns-in-Ok-recover_owned-clause-opened g c =
    let recovers = c.in-Ok-recover_owned.ensures.found in
    Recovers-opens g.D.LogDisk c.in-Ok-recover_owned.opened c.args.disk.now c.image_of.new.disk c.in-Ok.bytes.items (omega arith)
    c.in-Ok.ensures.bytes recovers c.in-Ok.ensures.reads c.in-Ok.ensures.settled
