use Rattle.std.proofs.Common.{◌%◌, ap}
use Rattle.lsn_space.proofs.lsn.place.Goals as goal

pub returns : goal.returns
returns c = ap (λ lsn. lsn % c.args.ring) c.lsn.view_is
