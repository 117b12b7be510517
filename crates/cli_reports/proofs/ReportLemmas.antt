-- What a report of a log answers, from what was read, taken and written.
use Rattle.std.proofs.Common.{ℕ, List, Option, Some, None, IfSome, subst}
use Rattle.log_recovery.specs.declared.recovery.RecoverFault.{RecoverFault}
use Rattle.log_recovery.specs.declared.recovery.RecoverFault.TheVariants as fault
use Rattle.log_recovery.specs.Opened.{OpenedList}
use Rattle.log_recovery.specs.Recovery.{HoldsLawful}
use Rattle.log_disk.specs.Streams.{ReadsAll}
use Rattle.cli_shared.specs.Answers.{IsSourceFault, StaysSilent, recover_detail}
use Rattle.cli_shared.specs.declared.report.Detail.{Detail}
use Rattle.cli_shared.specs.declared.report.Detail.TheVariants.{NoMemory, Read, NotALog, BadSnapshot, BadBatch, BadRec, Unlawful}
use Rattle.cli_shared.proofs.SourceLemmas.{HasSourceFault-fault_of_bytes}
use Rattle.cli_shared.proofs.ToldLemmas.{TellsWrite, Keeps-refl, IfSome-nothing_said}
use Rattle.cli_reports.specs.Reports.{AnswersReport, IsAnswerOnAccount, IsAnswerAtLsn, OfList}
use Rattle.cli_reports.proofs.AnswerLemmas.{recover_detail-stays_silent, recover_detail-not_write}

-- what is said of the list that was read is said of the list of the input
pub ReadsAll-of_list : (left left_new : Option (List ℕ)) (bytes : List ℕ) (list : OpenedList) (Said : OpenedList → Type 0)
    → ReadsAll left left_new bytes → HoldsLawful bytes list → Said list → IfSome left (λ all. OfList all left_new Said)
ReadsAll-of_list None left_new bytes list Said read held said = tt
ReadsAll-of_list (Some all) left_new bytes list Said read held said = (read.1, list, subst (λ b. HoldsLawful b list) read.0 held, said)

-- where nothing was written since the input is no log: the answer, its ranges, and that it tells of no failed write
pub record IsUnsaid (Says : OpenedList → List ℕ → Type 0) (Refuses : OpenedList → Detail → Type 0) (left left_new text : Option (List ℕ))
    (detail : Detail) : Type 0 where
  pub answer : IfSome left (λ bytes. AnswersReport Says Refuses bytes left_new text text detail)
  pub at : IsAnswerAtLsn detail
  pub account : IsAnswerOnAccount detail
  pub silent : StaysSilent text text detail
  pub write : TellsWrite detail → ⊥

-- what holds of the faults of a log, and where the reading failed, holds where a source gives no log
by-source : (left left_new : Option (List ℕ)) (P : Detail → Type 0) → P Read → ((f : RecoverFault) → P (recover_detail f))
    → (detail : Detail) → IsSourceFault left left_new detail → P detail
by-source left left_new P failed faulty Read is = failed
by-source left left_new P failed faulty NoMemory is = faulty fault.NoMemory
by-source left left_new P failed faulty NotALog is = faulty fault.NotALog
by-source left left_new P failed faulty BadSnapshot is = faulty fault.BadSnapshot
by-source left left_new P failed faulty (BadBatch offset) is = faulty (fault.BadBatch offset)
by-source left left_new P failed faulty (BadRec lsn) is = faulty (fault.BadRec lsn)
by-source left left_new P failed faulty (Unlawful lsn why) is = faulty (fault.Unlawful lsn why)
by-source left left_new P failed faulty detail is = absurd is

at-fault : (f : RecoverFault) → IsAnswerAtLsn (recover_detail f)
at-fault fault.NotALog = tt
at-fault f = tt

account-fault : (f : RecoverFault) → IsAnswerOnAccount (recover_detail f)
account-fault fault.NotALog = tt
account-fault f = tt

-- the answer where the input is no log
answers-source : (Says : OpenedList → List ℕ → Type 0) (Refuses : OpenedList → Detail → Type 0) (left left_new text : Option (List ℕ))
    (detail : Detail) → IsSourceFault left left_new detail
    → IfSome left (λ bytes. AnswersReport Says Refuses bytes left_new text text detail)
answers-source Says Refuses left left_new text NotALog is = HasSourceFault-fault_of_bytes left left_new fault.NotALog is
answers-source Says Refuses left left_new text BadSnapshot is = HasSourceFault-fault_of_bytes left left_new fault.BadSnapshot is
answers-source Says Refuses left left_new text (BadBatch offset) is = HasSourceFault-fault_of_bytes left left_new (fault.BadBatch offset) is
answers-source Says Refuses left left_new text (BadRec lsn) is = HasSourceFault-fault_of_bytes left left_new (fault.BadRec lsn) is
answers-source Says Refuses left left_new text (Unlawful lsn why) is = HasSourceFault-fault_of_bytes left left_new (fault.Unlawful lsn why) is
answers-source Says Refuses left left_new text Read is = IfSome-nothing_said left
answers-source Says Refuses left left_new text NoMemory is = IfSome-nothing_said left
answers-source Says Refuses left left_new text detail is = absurd is

pub source_fault-unsaid : (Says : OpenedList → List ℕ → Type 0) (Refuses : OpenedList → Detail → Type 0) (left left_new text : Option (List ℕ))
    (detail : Detail) → IsSourceFault left left_new detail → IsUnsaid Says Refuses left left_new text detail
source_fault-unsaid Says Refuses left left_new text detail is = record {
  answer = answers-source Says Refuses left left_new text detail is;
  at = by-source left left_new IsAnswerAtLsn tt at-fault detail is;
  account = by-source left left_new IsAnswerOnAccount tt account-fault detail is;
  silent = by-source left left_new (StaysSilent text text) (Keeps-refl text) (recover_detail-stays_silent text) detail is;
  write = by-source left left_new (λ d. TellsWrite d → ⊥) (λ tells. tells) recover_detail-not_write detail is;
}
