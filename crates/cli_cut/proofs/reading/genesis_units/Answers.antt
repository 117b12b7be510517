use Rattle.std.proofs.Common.{◌∙◌, refl, ap, drop}
use Rattle.cli_cut.proofs.GenesisLemmas.{HasTakenGenesis-none, HasTakenGenesis-push, HasTakenGenesis-splits_genesis}
use Rattle.cli_cut.proofs.reading.genesis_units.Goals as goal

pub records-init : goal.records-init
records-init c = HasTakenGenesis-none c.args.units.now c.requires

pub records-preserved : goal.records-preserved
records-preserved c =
    let found = c.in-Some.ensures.some in
    HasTakenGenesis-push c.args.units.now c.records.rest.now c.split_at.result.1.now found.0 found.1 c.records.invariant found.2
    (c.split_at.ensures.back ∙ ap (λ n. drop n c.records.rest.now) found.3)

pub returns : goal.returns
returns c = HasTakenGenesis-splits_genesis c.args.units.now c.records.rest.now c.records.invariant c.in_default.ensures.none _ refl
