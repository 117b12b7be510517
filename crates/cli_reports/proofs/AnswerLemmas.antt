-- What `recover` and `dump` answer, from what was read, recovered and written.
use Rattle.std.proofs.Common.{ℕ, List, Option, Some, None, IfSome, subst}
use Rattle.std.specs.Io.KnownBytes.{Appends}
use Rattle.log_disk.specs.Streams.{AppendsPart, ReadsAll}
use Rattle.log_recovery.specs.declared.list_result.Listed.{Listed}
use Rattle.log_recovery.specs.declared.recovery.Recovered.{Recovered}
use Rattle.log_recovery.specs.declared.recovery.RecoverFault.{RecoverFault}
use Rattle.log_recovery.specs.declared.recovery.RecoverFault.TheVariants as fault
use Rattle.log_recovery.specs.Dump.{dump_text}
use Rattle.log_recovery.specs.Recovery.{HoldsList, IsFaultOf, IsListedFaultOf, ListsBytes, Recovers, list_of}
use Rattle.log_recovery.specs.Text.{rows_text}
use Rattle.log_recovery.proofs.TextLemmas.{rows_text-shown}
use Rattle.source_recovery.specs.Recovery.{IsListedSourceFaultOf, IsSourceFaultOf}
use Rattle.source_recovery.specs.declared.recovery.SourceFault.TheVariants.{Log}
use Rattle.cli_shared.specs.declared.report.Detail.TheVariants.{Fine, Write}
use Rattle.cli_reports.specs.Answers.{AnswersRecover, AnswersDump, IsAnswerToDump, IsAnswerToRecover}
use Rattle.cli_shared.specs.Answers.{StaysSilent, recover_detail}
use Rattle.cli_shared.proofs.ToldLemmas.{TellsRead, TellsWrite, IfSome-nothing_said, Keeps-refl}

-- the fault of a log tells of no read or write, and before it nothing was written
pub recover_detail-not_read : (f : RecoverFault) → TellsRead (recover_detail f) → ⊥
recover_detail-not_read fault.NotALog tells = tells
recover_detail-not_read f tells = tells

pub recover_detail-not_write : (f : RecoverFault) → TellsWrite (recover_detail f) → ⊥
recover_detail-not_write fault.NotALog tells = tells
recover_detail-not_write f tells = tells

pub recover_detail-stays_silent : (text : Option (List ℕ)) (f : RecoverFault) → StaysSilent text text (recover_detail f)
recover_detail-stays_silent text fault.NotALog = Keeps-refl text
recover_detail-stays_silent text f = Keeps-refl text

pub answers_recover-fault : (left left_new old new : Option (List ℕ)) (bytes : List ℕ) (f : RecoverFault) → ReadsAll left left_new bytes
    → IsFaultOf bytes f → IfSome left (λ all. AnswersRecover all left_new old new (recover_detail f))
answers_recover-fault None left_new old new bytes f read is = tt
answers_recover-fault (Some all) left_new old new bytes fault.NoMemory read is = tt
answers_recover-fault (Some all) left_new old new bytes f read is = (read.1, subst (λ b. IsFaultOf b f) read.0 is)

pub IsSourceFaultOf-answers_recover : (left left_new old new : Option (List ℕ)) (f : RecoverFault) → IsSourceFaultOf left left_new (Log f)
    → IfSome left (λ all. AnswersRecover all left_new old new (recover_detail f))
IsSourceFaultOf-answers_recover left left_new old new fault.NoMemory has = IfSome-nothing_said left
IsSourceFaultOf-answers_recover left left_new old new f has = answers_recover-fault left left_new old new has.0 f has.1 has.2

pub recover_detail-answer_to_recover : (f : RecoverFault) → IsAnswerToRecover (recover_detail f)
recover_detail-answer_to_recover fault.NotALog = tt
recover_detail-answer_to_recover f = tt

pub answers_recover-fine : (left left_new old new : Option (List ℕ)) (bytes : List ℕ) (r : Recovered) → ReadsAll left left_new bytes
    → Recovers r bytes → Appends old new (rows_text r.lsn r.accounts.rows) → IfSome left (λ all. AnswersRecover all left_new old new Fine)
answers_recover-fine None left_new old new bytes r read recovers written = tt
answers_recover-fine (Some all) left_new old new bytes r read recovers written =
    let found = subst (λ b. Recovers r b) read.0 recovers in
    (read.1, found.list, found.held, rw (rows_text-shown _ _ found.list found.lsn found.accounts) at written)

pub answers_recover-write : (left left_new old new : Option (List ℕ)) (bytes : List ℕ) (r : Recovered) → ReadsAll left left_new bytes
    → Recovers r bytes → AppendsPart old new (rows_text r.lsn r.accounts.rows)
    → IfSome left (λ all. AnswersRecover all left_new old new Write)
answers_recover-write None left_new old new bytes r read recovers written = tt
answers_recover-write (Some all) left_new old new bytes r read recovers written =
    let found = subst (λ b. Recovers r b) read.0 recovers in
    (read.1, found.list, found.held, rw (rows_text-shown _ _ found.list found.lsn found.accounts) at written)

pub answers_dump-fine : (left left_new old new : Option (List ℕ)) (bytes : List ℕ) (list : Listed) → ReadsAll left left_new bytes
    → (found : ListsBytes list bytes) → Appends old new (dump_text (list_of list found.records))
    → IfSome left (λ all. AnswersDump all left_new old new Fine)
answers_dump-fine None left_new old new bytes list read found written = tt
answers_dump-fine (Some all) left_new old new bytes list read found written =
    (read.1, list_of list found.records, subst (λ b. HoldsList b (list_of list found.records)) read.0 found.held, written)

pub answers_dump-write : (left left_new old new : Option (List ℕ)) (bytes : List ℕ) (list : Listed) → ReadsAll left left_new bytes
    → (found : ListsBytes list bytes) → AppendsPart old new (dump_text (list_of list found.records))
    → IfSome left (λ all. AnswersDump all left_new old new Write)
answers_dump-write None left_new old new bytes list read found written = tt
answers_dump-write (Some all) left_new old new bytes list read found written =
    (read.1, list_of list found.records, subst (λ b. HoldsList b (list_of list found.records)) read.0 found.held, written)

pub answers_dump-fault : (left left_new old new : Option (List ℕ)) (bytes : List ℕ) (f : RecoverFault) → ReadsAll left left_new bytes
    → IsListedFaultOf bytes f → IfSome left (λ all. AnswersDump all left_new old new (recover_detail f))
answers_dump-fault None left_new old new bytes f read is = tt
answers_dump-fault (Some all) left_new old new bytes (fault.Unlawful lsn why) read is = is
answers_dump-fault (Some all) left_new old new bytes fault.NoMemory read is = tt
answers_dump-fault (Some all) left_new old new bytes f read is = (read.1, subst (λ b. IsListedFaultOf b f) read.0 is)

pub IsListedSourceFaultOf-answers_dump : (left left_new old new : Option (List ℕ)) (f : RecoverFault)
    → IsListedSourceFaultOf left left_new (Log f) → IfSome left (λ all. AnswersDump all left_new old new (recover_detail f))
IsListedSourceFaultOf-answers_dump left left_new old new fault.NoMemory has = IfSome-nothing_said left
IsListedSourceFaultOf-answers_dump left left_new old new f has = answers_dump-fault left left_new old new has.0 f has.1 has.2

pub IsListedSourceFaultOf-answer_to_dump : (left left_new : Option (List ℕ)) (f : RecoverFault) → IsListedSourceFaultOf left left_new (Log f)
    → IsAnswerToDump (recover_detail f)
IsListedSourceFaultOf-answer_to_dump left left_new (fault.Unlawful lsn why) has = has.2
IsListedSourceFaultOf-answer_to_dump left left_new f has = tt
