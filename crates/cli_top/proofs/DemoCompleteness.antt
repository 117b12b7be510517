-- Where nothing stands in its way, `demo` succeeds.
use Rattle.std.proofs.Common.{inl, inr, refl}
use Rattle.cli_shared.specs.declared.report.Detail.{Detail}
use Rattle.cli_shared.specs.declared.report.Detail.TheVariants.{Fine, NoMemory, Write, Disk, Exists}
use Rattle.cli_shared.specs.Creation.{TellsWhether}
use Rattle.cli_demo.specs.Demo.{IsAnswerToDemo}
use Rattle.cli_top.specs.Commands.{IsDone, IsFaultless}

pub demo-complete : (opened : Type 0) (detail : Detail) → IsAnswerToDemo detail → TellsWhether opened detail → (opened → ⊥)
    → IsFaultless detail → IsDone detail
demo-complete opened Fine is tells closed faultless = inl refl
demo-complete opened NoMemory is tells closed faultless = inr refl
demo-complete opened Write is tells closed faultless = absurd faultless
demo-complete opened Disk is tells closed faultless = absurd faultless
demo-complete opened Exists is tells closed faultless = absurd (closed tells)
demo-complete opened detail is tells closed faultless = absurd is
