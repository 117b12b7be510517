-- What is told of `demo`, in the words of all commands.
use Rattle.std.proofs.Common.{ℕ, List, Option}
use Rattle.cli_shared.specs.declared.report.Detail.{Detail}
use Rattle.cli_shared.specs.declared.report.Detail.TheVariants.{Fine, Write}
use Rattle.cli_shared.specs.Answers.{StaysSilent}
use Rattle.cli_demo.specs.Demo.{TellsSummary}

pub TellsSummary-stays_silent : (n seed : ℕ) (old new : Option (List ℕ)) (detail : Detail) → TellsSummary n seed old new detail
    → StaysSilent old new detail
TellsSummary-stays_silent n seed old new Fine told = tt
TellsSummary-stays_silent n seed old new Write told = tt
TellsSummary-stays_silent n seed old new detail told = told
