use Rattle.std.proofs.Common.{arith}
use Rattle.own_records.proofs.Opens.{first_there-fresh}
use Rattle.own_records.proofs.creating.shut_first.Goals as goal

pub returns-clause-stays : goal.returns-clause-stays
returns-clause-stays g c = first_there-fresh g.D.LogDisk c.args.len c.args.disk.now _ c.requires (omega (arith, c.if-len-lt2.false))
