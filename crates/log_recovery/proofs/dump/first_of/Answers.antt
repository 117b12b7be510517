use Rattle.log_recovery.proofs.dump.first_of.Goals as goal

pub unreachable-requires : goal.unreachable-requires
unreachable-requires c = c.requires c.in_default.ensures.bad
