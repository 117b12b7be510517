use Rattle.cli_reports.specs.Answers.{AnswersDump, IsAnswerToDump}
use Rattle.cli_reports.proofs.AnswerLemmas.{IsListedSourceFaultOf-answers_dump, answers_dump-fine, answers_dump-write, IsListedSourceFaultOf-answer_to_dump}
use Rattle.cli_reports.proofs.ReportedLemmas.{reported-fault, reported-fine, reported-write}
use Rattle.cli_reports.proofs.dump_command.dump_command.Goals as goal

pub put_dump-requires : goal.put_dump-requires
put_dump-requires g c = let found = c.in-Ok.ensures.found.2 in (found.records, found.has)

-- the bytes hold no list, or memory is wanting
pub returns-in-Err-Log : goal.returns-in-Err-Log
returns-in-Err-Log g c =
    let is = rw c.in-Err-Log.field-0-is at c.in-Err-Log.ensures.fault in
    let read = rw c.in-Err-Log.field-0-is at c.in-Err-Log.ensures.failed in
    reported-fault g.S.Source g.K.Sink AnswersDump IsAnswerToDump _ _ _ c.in-Err-Log.fault _ c.detail_of.ensures
    (IsListedSourceFaultOf-answer_to_dump _ _ c.in-Err-Log.fault is) (read.fine (λ is. cc))
    (IsListedSourceFaultOf-answers_dump _ _ _ _ c.in-Err-Log.fault is)

-- the dump is written
pub returns-in-Ok-put_dump : goal.returns-in-Ok-put_dump
returns-in-Ok-put_dump g c =
    let found = c.in-Ok.ensures.found in
    let written = c.in-Ok-put_dump.ensures in
    reported-fine g.S.Source g.K.Sink AnswersDump IsAnswerToDump _ _ _ _ tt (c.in-Ok.ensures.failed.fine (λ is. cc)) written.cause.fine
    (answers_dump-fine _ _ _ _ _ c.in-Ok.list found.1 found.2 (written.all found.2.records found.2.has))

-- the writing failed
pub returns : goal.returns
returns g c =
    let found = c.in-Ok.ensures.found in
    let written = c.in-Err.ensures in
    reported-write g.S.Source g.K.Sink AnswersDump IsAnswerToDump _ _ _ _ tt (c.in-Ok.ensures.failed.fine (λ is. cc)) written.cause.failed
    (answers_dump-write _ _ _ _ _ c.in-Ok.list found.1 found.2 (written.prefix found.2.records found.2.has))
