use Rattle.cli_shared.proofs.ToldLemmas.{Keeps-refl}
use Rattle.cli_reports.specs.Reports.{AnswersReport, IsAnswerAtLsn, RefusesLsn}
use Rattle.cli_reports.proofs.ReportLemmas.{source_fault-unsaid}
use Rattle.cli_reports.proofs.ReportedLemmas.{counts_read-err, counts_read-none, reported-fine, reported-none_written, reported-write}
use Rattle.cli_view.specs.Reports.{SaysAccounts}
use Rattle.cli_view.proofs.ReadLemmas.{asof-write, asof-fine, asof-refused}
use Rattle.cli_view.proofs.asof_command.asof_command.Goals as goal

-- the input is no log, or could not be read
pub returns-in-Err : goal.returns-in-Err
returns-in-Err g c =
    let said = source_fault-unsaid (SaysAccounts c.args.lsn) (RefusesLsn c.args.lsn) _ _ (g.K.Sink.held_bytes c.args.out.now) c.in-Err.detail c.in-Err.ensures.err in
    reported-none_written g.S.Source g.K.Sink (AnswersReport (SaysAccounts c.args.lsn) (RefusesLsn c.args.lsn)) IsAnswerAtLsn _ _ _ _ said.at
    (counts_read-err _ _ _ c.in-Err.ensures.read) said.silent said.write said.answer

-- the LSN is no boundary
pub returns-in_default : goal.returns-in_default
returns-in_default g c =
    let text = g.K.Sink.held_bytes c.args.out.now in
    reported-none_written g.S.Source g.K.Sink (AnswersReport (SaysAccounts c.args.lsn) (RefusesLsn c.args.lsn)) IsAnswerAtLsn _ _ _ _ tt
    (counts_read-none _ _ _ (c.in-Ok.ensures.read.fine (λ is. cc)) (λ tells. tells)) (Keeps-refl _) (λ tells. tells)
    (asof-refused _ _ c.args.lsn _ _ _ c.units.ensures c.in-Ok.ensures.ok c.in-Ok-answer.found c.in-Ok-answer.ensures text text c.in_default.is)

-- the text is written
pub returns-in-Ok-put_accounts : goal.returns-in-Ok-put_accounts
returns-in-Ok-put_accounts g c =
    reported-fine g.S.Source g.K.Sink (AnswersReport (SaysAccounts c.args.lsn) (RefusesLsn c.args.lsn)) IsAnswerAtLsn _ _ _ _ tt
    (c.in-Ok.ensures.read.fine (λ is. cc)) c.in-Ok-put_accounts.ensures.cause.fine
    (asof-fine _ _ c.args.lsn _ _ _ c.units.ensures c.in-Ok.ensures.ok c.in-Ok-answer.found c.in-Ok-answer.ensures c.in-Some.accounts c.in-Some.is _ _
    c.in-Ok-put_accounts.ensures.all)

-- the writing failed
pub returns : goal.returns
returns g c =
    reported-write g.S.Source g.K.Sink (AnswersReport (SaysAccounts c.args.lsn) (RefusesLsn c.args.lsn)) IsAnswerAtLsn _ _ _ _ tt
    (c.in-Ok.ensures.read.fine (λ is. cc)) c.in-Err-put_accounts.ensures.cause.failed
    (asof-write _ _ c.args.lsn _ _ _ c.units.ensures c.in-Ok.ensures.ok c.in-Ok-answer.found c.in-Ok-answer.ensures c.in-Some.accounts c.in-Some.is _ _
    c.in-Err-put_accounts.ensures.prefix)
