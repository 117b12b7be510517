-- What a command answers that reads a log and writes a text of its list. `Says` is what there is to write of a list, and `Refuses` why
-- nothing is written of one, though it is lawful.
use Rattle.std.specs.Prelude.{◌≡◌, ℕ, List, [], Option, Some, ⊤}
use Rattle.std.specs.Io.KnownBytes.{Appends}
use Rattle.log_disk.specs.Streams.{AppendsPart}
use Rattle.log_recovery.specs.declared.recovery.RecoverFault.TheVariants as fault
use Rattle.log_recovery.specs.Opened.{OpenedList, IsListBoundary}
use Rattle.log_recovery.specs.Recovery.{HoldsLawful}
use Rattle.cli_shared.specs.declared.report.Detail.{Detail}
use Rattle.cli_shared.specs.declared.report.Detail.TheVariants.{Fine, NoMemory, Read, Write, NotALog, BadSnapshot, BadBatch, BadRec, Unlawful, NoSuchLsn, NoAccount}
use Rattle.cli_reports.specs.Answers.{HasFault, IsAnswerToRecover}

-- the input was read to its end, it is a log with a lawful list, and of this one that is said
abbrev pub OfList : List ℕ → Option (List ℕ) → (OpenedList → Type 0) → Type 0
OfList bytes left Said = (left ≡ Some []) × (list : OpenedList) × HoldsLawful bytes list × Said list

-- the command on these bytes: what is left of them and what is written, for each detail
abbrev pub AnswersReport : (OpenedList → List ℕ → Type 0) → (OpenedList → Detail → Type 0) → List ℕ → Option (List ℕ) → Option (List ℕ)
    → Option (List ℕ) → Detail → Type 0
AnswersReport Says Refuses bytes left old new Fine = OfList bytes left (λ list. (text : List ℕ) × Says list text × Appends old new text)
AnswersReport Says Refuses bytes left old new Write =
    OfList bytes left (λ list. (text : List ℕ) × Says list text × AppendsPart old new text)
AnswersReport Says Refuses bytes left old new (NoSuchLsn lsn) = OfList bytes left (λ list. Refuses list (NoSuchLsn lsn))
AnswersReport Says Refuses bytes left old new (NoAccount account) = OfList bytes left (λ list. Refuses list (NoAccount account))
AnswersReport Says Refuses bytes left old new NotALog = HasFault bytes left fault.NotALog
AnswersReport Says Refuses bytes left old new BadSnapshot = HasFault bytes left fault.BadSnapshot
AnswersReport Says Refuses bytes left old new (BadBatch offset) = HasFault bytes left (fault.BadBatch offset)
AnswersReport Says Refuses bytes left old new (BadRec lsn) = HasFault bytes left (fault.BadRec lsn)
AnswersReport Says Refuses bytes left old new (Unlawful lsn why) = HasFault bytes left (fault.Unlawful lsn why)
AnswersReport Says Refuses bytes left old new Read = ⊤
AnswersReport Says Refuses bytes left old new NoMemory = ⊤
AnswersReport Says Refuses bytes left old new detail = ⊥

-- nothing is said of a list at an LSN that is no boundary of it
abbrev pub RefusesLsn : ℕ → OpenedList → Detail → Type 0
RefusesLsn lsn list detail = (detail ≡ NoSuchLsn lsn) × (IsListBoundary list lsn → ⊥)

-- the answers that there are to a report at an LSN: those of `recover`, and that the LSN is no boundary
abbrev pub IsAnswerAtLsn : Detail → Type 0
IsAnswerAtLsn (NoSuchLsn lsn) = ⊤
IsAnswerAtLsn detail = IsAnswerToRecover detail

-- the answers that there are to a report of an account: those of `recover`, and that there is no such account
abbrev pub IsAnswerOnAccount : Detail → Type 0
IsAnswerOnAccount (NoAccount account) = ⊤
IsAnswerOnAccount detail = IsAnswerToRecover detail
