use Rattle.cli_shared.proofs.ToldLemmas.{Keeps-refl}
use Rattle.cli_reports.specs.Reports.{AnswersReport, IsAnswerOnAccount}
use Rattle.cli_reports.proofs.ReportLemmas.{source_fault-unsaid}
use Rattle.cli_reports.proofs.ReportedLemmas.{counts_read-err, counts_read-none, reported-fine, reported-none_written, reported-write}
use Rattle.cli_view.specs.Reports.{RefusesAccount, SaysStatement}
use Rattle.cli_view.proofs.ReadLemmas.{statement-fine, statement-refused, statement-write}
use Rattle.cli_view.proofs.statement_command.statement_command.Goals as goal

-- the input is no log, or could not be read
pub returns-in-Err : goal.returns-in-Err
returns-in-Err g c =
    let said = source_fault-unsaid (SaysStatement c.args.account) (RefusesAccount c.args.account) _ _ (g.K.Sink.held_bytes c.args.out.now) c.in-Err.detail
    c.in-Err.ensures.err in
    reported-none_written g.S.Source g.K.Sink (AnswersReport (SaysStatement c.args.account) (RefusesAccount c.args.account))
    IsAnswerOnAccount _ _ _ _ said.account (counts_read-err _ _ _ c.in-Err.ensures.read) said.silent said.write said.answer

pub first_balance-requires : goal.first_balance-requires
first_balance-requires g c = let read = c.in-Ok.ensures.ok in record { kept = (c.args.account, _, _, read.taken) }

-- its list has no such account
pub returns-in_default : goal.returns-in_default
returns-in_default g c =
    let text = g.K.Sink.held_bytes c.args.out.now in
    let read = c.in-Ok.ensures.ok in
    reported-none_written g.S.Source g.K.Sink (AnswersReport (SaysStatement c.args.account) (RefusesAccount c.args.account)) IsAnswerOnAccount _ _ _ _ tt
    (counts_read-none _ _ _ (c.in-Ok.ensures.read.fine (λ is. cc)) (λ tells. tells)) (Keeps-refl _) (λ tells. tells)
    (statement-refused _ _ c.args.account _ _ read text text (c.in_default.ensures.none c.args.account _ _ read.taken))

-- the text is written
pub returns-in-Ok-put_statement : goal.returns-in-Ok-put_statement
returns-in-Ok-put_statement g c =
    let read = c.in-Ok.ensures.ok in
    let first = c.in-Some.ensures.some c.args.account _ _ read.taken in
    reported-fine g.S.Source g.K.Sink (AnswersReport (SaysStatement c.args.account) (RefusesAccount c.args.account)) IsAnswerOnAccount _ _ _ _ tt
    (c.in-Ok.ensures.read.fine (λ is. cc)) c.in-Ok-put_statement.ensures.cause.fine
    (statement-fine _ _ c.args.account _ _ read c.in-Some.balance c.entries.result.now first.0 first.1
    (c.entries.ensures c.args.account _ _ read.taken first.0) _ _ c.in-Ok-put_statement.ensures.all)

-- the writing failed
pub returns : goal.returns
returns g c =
    let read = c.in-Ok.ensures.ok in
    let first = c.in-Some.ensures.some c.args.account _ _ read.taken in
    reported-write g.S.Source g.K.Sink (AnswersReport (SaysStatement c.args.account) (RefusesAccount c.args.account)) IsAnswerOnAccount _ _ _ _ tt
    (c.in-Ok.ensures.read.fine (λ is. cc)) c.in-Err-put_statement.ensures.cause.failed
    (statement-write _ _ c.args.account _ _ read c.in-Some.balance c.entries.result.now first.0 first.1
    (c.entries.ensures c.args.account _ _ read.taken first.0) _ _ c.in-Err-put_statement.ensures.prefix)
