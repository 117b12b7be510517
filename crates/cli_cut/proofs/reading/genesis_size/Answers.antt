use Rattle.cli_cut.proofs.reading.genesis_size.Goals as goal

pub returns-in_default-clause-none : goal.returns-in_default-clause-none
returns-in_default-clause-none c = λ rec begins genesis. c.in_default.ensures.bad rec begins
