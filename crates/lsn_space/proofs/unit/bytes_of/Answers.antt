use Rattle.lsn_space.proofs.unit.bytes_of.Goals as goal

pub returns : goal.returns
returns c = c.write_u64.ensures
