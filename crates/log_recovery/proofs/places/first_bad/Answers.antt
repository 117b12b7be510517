use Rattle.std.proofs.Common.{◌∙◌, ap, arith, drop, refl, []}
use Rattle.std.proofs.lemmas.Grind.{common_steps}
use Rattle.log_recovery.proofs.UnitsLemmas.{IsFront-step}
use Rattle.log_recovery.proofs.places.first_bad.Goals as goal

pub records-preserved : goal.records-preserved
records-preserved c =
    let dropped = c.split_at.ensures.back ∙ ap (λ n. drop n c.records.rest.now) c.in-Ok.ensures.found.1 in record {
      units = IsFront-step c.args.units.now c.records.rest.now c.split_at.result.1.now c.in-Ok.field-0-0 c.records.invariant.units c.in-Ok.ensures.found.0 dropped;
      front = IsFront-step c.args.front.now c.records.rest.now c.split_at.result.1.now c.in-Ok.field-0-0 c.records.invariant.front c.in-Ok.ensures.found.0 dropped;
    }

pub records-init : goal.records-init
records-init c = record { units = c.requires.front; front = record { records = []; each = tt; whole = refl } }

pub returns-clause-none : goal.returns-clause-none
returns-clause-none c = grind (arith, common_steps) steps 300000
