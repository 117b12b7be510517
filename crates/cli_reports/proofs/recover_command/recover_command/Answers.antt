use Rattle.cli_reports.specs.Answers.{AnswersRecover, IsAnswerToRecover}
use Rattle.cli_reports.proofs.AnswerLemmas.{IsSourceFaultOf-answers_recover, answers_recover-fine, answers_recover-write, recover_detail-answer_to_recover}
use Rattle.cli_reports.proofs.ReportedLemmas.{reported-fault, reported-fine, reported-write}
use Rattle.cli_reports.proofs.recover_command.recover_command.Goals as goal

-- the bytes are no lawful log, or memory is wanting
pub returns-in-Err-Log : goal.returns-in-Err-Log
returns-in-Err-Log g c =
    let told = rw c.in-Err-Log.field-0-is at c.in-Err-Log.ensures in
    reported-fault g.S.Source g.K.Sink AnswersRecover IsAnswerToRecover _ _ _ c.in-Err-Log.fault _ c.detail_of.ensures
    (recover_detail-answer_to_recover c.in-Err-Log.fault) (told.failed.fine (λ is. cc))
    (IsSourceFaultOf-answers_recover _ _ _ _ c.in-Err-Log.fault told.fault)

-- the text is written
pub returns-in-Ok-put_accounts : goal.returns-in-Ok-put_accounts
returns-in-Ok-put_accounts g c =
    let found = c.in-Ok.ensures.found in
    let written = c.in-Ok-put_accounts.ensures in
    reported-fine g.S.Source g.K.Sink AnswersRecover IsAnswerToRecover _ _ _ _ tt (c.in-Ok.ensures.failed.fine (λ is. cc)) written.cause.fine
    (answers_recover-fine _ _ _ _ found.0 c.in-Ok.recovered found.1 found.2 written.all)

-- the writing failed
pub returns : goal.returns
returns g c =
    let found = c.in-Ok.ensures.found in
    let written = c.in-Err.ensures in
    reported-write g.S.Source g.K.Sink AnswersRecover IsAnswerToRecover _ _ _ _ tt (c.in-Ok.ensures.failed.fine (λ is. cc)) written.cause.failed
    (answers_recover-write _ _ _ _ found.0 c.in-Ok.recovered found.1 found.2 written.prefix)
