use Rattle.std.proofs.Common.{length}
use Rattle.cli_cut.proofs.GenesisLemmas.{HasTakenGenesis}
use Rattle.cli_cut.proofs.reading.genesis_units.Given as goal

abbrev pub invariant-records : goal.invariant-records
invariant-records l = HasTakenGenesis l.units l.rest

abbrev pub decreases-records : goal.decreases-records
decreases-records l = length l.rest
