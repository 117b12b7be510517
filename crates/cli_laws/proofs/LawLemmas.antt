-- `recover` on bytes that hold a lawful list.
use Rattle.std.proofs.Common.{◌≢◌, ℕ, List, Option, arith, subst}
use Rattle.std.specs.Io.KnownBytes.{Appends}
use Rattle.log_recovery.specs.declared.recovery.RecoverFault.TheVariants as fault
use Rattle.log_recovery.specs.Opened.{OpenedList}
use Rattle.log_recovery.specs.Recovery.{HoldsLawful}
use Rattle.log_recovery.specs.Text.{accounts_text}
use Rattle.log_recovery.proofs.AnswerLemmas.{HoldsLawful-fault_no_memory, one-list}
use Rattle.cli_shared.specs.declared.report.Detail.{Detail}
use Rattle.cli_shared.specs.declared.report.Detail.TheVariants.{Fine, NoMemory, Usage, Script, Read, Write, Disk, NotALog, BadSnapshot, BadBatch}
use Rattle.cli_shared.specs.declared.report.Detail.TheVariants.{BadRec, Unlawful, LogEnd, TxnEnd, Exists, NoSuchLsn, BadStream, Gap, StreamUnlawful}
use Rattle.cli_shared.specs.declared.report.Detail.TheVariants.{NoAccount}
use Rattle.cli_reports.specs.Answers.{AnswersRecover}
use Rattle.cli_shared.specs.Answers.{status_of}
use Rattle.cli_laws.specs.Recovered.{IsRecoveredAs}

-- the answer is not a fault of the bytes
lawful-status_not_seven : (bytes : List ℕ) (list : OpenedList) (left old new : Option (List ℕ)) (detail : Detail) → HoldsLawful bytes list
    → AnswersRecover bytes left old new detail → status_of detail ≢ 7
lawful-status_not_seven bytes list left old new Fine held answers = λ is. absurd (omega arith)
lawful-status_not_seven bytes list left old new NoMemory held answers = λ is. absurd (omega arith)
lawful-status_not_seven bytes list left old new Read held answers = λ is. absurd (omega arith)
lawful-status_not_seven bytes list left old new Write held answers = λ is. absurd (omega arith)
lawful-status_not_seven bytes list left old new NotALog held answers = λ is.
    let none = HoldsLawful-fault_no_memory bytes list fault.NotALog held answers.1 in cc
lawful-status_not_seven bytes list left old new BadSnapshot held answers = λ is.
    let none = HoldsLawful-fault_no_memory bytes list fault.BadSnapshot held answers.1 in cc
lawful-status_not_seven bytes list left old new (BadBatch offset) held answers = λ is.
    let none = HoldsLawful-fault_no_memory bytes list (fault.BadBatch offset) held answers.1 in cc
lawful-status_not_seven bytes list left old new (BadRec lsn) held answers = λ is.
    let none = HoldsLawful-fault_no_memory bytes list (fault.BadRec lsn) held answers.1 in cc
lawful-status_not_seven bytes list left old new (Unlawful lsn why) held answers = λ is.
    let none = HoldsLawful-fault_no_memory bytes list (fault.Unlawful lsn why) held answers.1 in cc
lawful-status_not_seven bytes list left old new Usage held answers = absurd answers
lawful-status_not_seven bytes list left old new (Script line) held answers = absurd answers
lawful-status_not_seven bytes list left old new Disk held answers = absurd answers
lawful-status_not_seven bytes list left old new Exists held answers = absurd answers
lawful-status_not_seven bytes list left old new (NoSuchLsn lsn) held answers = absurd answers
lawful-status_not_seven bytes list left old new (BadStream offset) held answers = absurd answers
lawful-status_not_seven bytes list left old new (Gap have from) held answers = absurd answers
lawful-status_not_seven bytes list left old new (StreamUnlawful lsn why) held answers = absurd answers
lawful-status_not_seven bytes list left old new (NoAccount account) held answers = absurd answers
lawful-status_not_seven bytes list left old new (LogEnd tail total) held answers = absurd answers
lawful-status_not_seven bytes list left old new (TxnEnd first count) held answers = absurd answers

-- the text is that of the list
lawful-accounts_text : (bytes : List ℕ) (list : OpenedList) (left old new : Option (List ℕ)) → HoldsLawful bytes list
    → AnswersRecover bytes left old new Fine → Appends old new (accounts_text list)
lawful-accounts_text bytes list left old new held answers =
    subst (λ (found : OpenedList). Appends old new (accounts_text found)) (one-list bytes answers.1 list answers.2.list held.list) answers.3

pub lawful-recovered_as : (bytes : List ℕ) (list : OpenedList) → HoldsLawful bytes list → IsRecoveredAs bytes list
lawful-recovered_as bytes list held = record {
  status = λ left old new detail. lawful-status_not_seven bytes list left old new detail held;
  text = λ left old new. lawful-accounts_text bytes list left old new held;
}
