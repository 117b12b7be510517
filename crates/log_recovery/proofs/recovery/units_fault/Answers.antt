use Rattle.std.proofs.Common.{subst}
use Rattle.segment_file.specs.Log.{HoldsLog}
use Rattle.log_recovery.specs.JudgedUnits.{IsUnitsFaultOf}
use Rattle.log_recovery.proofs.recovery.units_fault.Goals as goal

pub returns-in-Unlawful-clause-fault : goal.returns-in-Unlawful-clause-fault
returns-in-Unlawful-clause-fault c = λ bytes log holds fault.
    let found = subst (IsUnitsFaultOf log.opening log.units) c.in-Unlawful.is fault in (
      record { opening = log.opening; records = found.0 },
      record { each = found.1.spellable; holds = subst (λ units. HoldsLog bytes (record { opening = log.opening; units = units })) found.1.units_are holds },
      found.2,
    )
