use Rattle.std.proofs.Common.{◌∙◌, ap, drop}
use Rattle.log_recovery.proofs.ListingLemmas.{front-none}
use Rattle.log_recovery.proofs.UnitsLemmas.{IsFront-step}
use Rattle.source_recovery.proofs.passing.read_records.Goals as goal

pub records-init : goal.records-init
records-init c = front-none c.args.units.now

pub records-preserved : goal.records-preserved
records-preserved c =
    IsFront-step c.args.units.now c.records.rest.now c.split_at.result.1.now c.read_into.new.rec c.records.invariant c.in-Ok.ensures.found.0
    (c.split_at.ensures.back ∙ ap (λ n. drop n c.records.rest.now) c.in-Ok.ensures.found.1)
