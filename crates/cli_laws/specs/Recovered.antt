-- What `recover` answers of bytes with a lawful list.
use Rattle.std.specs.Prelude.{◌≢◌, ℕ, List, Option}
use Rattle.std.specs.Io.KnownBytes.{Appends}
use Rattle.log_recovery.specs.Opened.{OpenedList}
use Rattle.log_recovery.specs.Text.{accounts_text}
use Rattle.cli_reports.specs.Answers.{AnswersRecover}
use Rattle.cli_shared.specs.Answers.{status_of}
use Rattle.cli_shared.specs.declared.report.Detail.{Detail}
use Rattle.cli_shared.specs.declared.report.Detail.TheVariants.{Fine}

-- It finds no fault in the bytes, and what it writes where all is fine is the text of this list.
pub record IsRecoveredAs (bytes : List ℕ) (list : OpenedList) : Type 0 where
  pub status : (left old new : Option (List ℕ)) (detail : Detail) → AnswersRecover bytes left old new detail → status_of detail ≢ 7
  pub text : (left old new : Option (List ℕ)) → AnswersRecover bytes left old new Fine → Appends old new (accounts_text list)
