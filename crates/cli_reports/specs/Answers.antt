-- What `recover` and `dump` answer: what they leave of the input and what they write.
use Rattle.std.specs.Prelude.{◌≡◌, ℕ, List, [], Option, Some, ⊤}
use Rattle.std.specs.Io.KnownBytes.{Appends}
use Rattle.log_disk.specs.Streams.{AppendsPart}
use Rattle.log_recovery.specs.declared.recovery.RecoverFault.{RecoverFault}
use Rattle.log_recovery.specs.declared.recovery.RecoverFault.TheVariants as fault
use Rattle.log_recovery.specs.Opened.{OpenedList}
use Rattle.log_recovery.specs.Recovery.{HoldsList, HoldsLawful, IsFaultOf}
use Rattle.log_recovery.specs.Dump.{dump_text}
use Rattle.log_recovery.specs.Text.{accounts_text}
use Rattle.cli_shared.specs.declared.report.Detail.{Detail}
use Rattle.cli_shared.specs.declared.report.Detail.TheVariants.{Fine, NoMemory, Read, Write, NotALog, BadSnapshot, BadBatch, BadRec, Unlawful}

-- the answers that there are to `recover`
abbrev pub IsAnswerToRecover : Detail → Type 0
IsAnswerToRecover Fine = ⊤
IsAnswerToRecover NoMemory = ⊤
IsAnswerToRecover Read = ⊤
IsAnswerToRecover Write = ⊤
IsAnswerToRecover NotALog = ⊤
IsAnswerToRecover BadSnapshot = ⊤
IsAnswerToRecover (BadBatch offset) = ⊤
IsAnswerToRecover (BadRec lsn) = ⊤
IsAnswerToRecover (Unlawful lsn why) = ⊤
IsAnswerToRecover detail = ⊥

-- the answers that there are to `dump`
abbrev pub IsAnswerToDump : Detail → Type 0
IsAnswerToDump Fine = ⊤
IsAnswerToDump NoMemory = ⊤
IsAnswerToDump Read = ⊤
IsAnswerToDump Write = ⊤
IsAnswerToDump NotALog = ⊤
IsAnswerToDump BadSnapshot = ⊤
IsAnswerToDump (BadBatch offset) = ⊤
IsAnswerToDump (BadRec lsn) = ⊤
IsAnswerToDump detail = ⊥

-- the input was read to its end, and has this fault
abbrev pub HasFault : List ℕ → Option (List ℕ) → RecoverFault → Type 0
HasFault bytes left fault' = (left ≡ Some []) × IsFaultOf bytes fault'

-- `recover` on these bytes: what is left of them and what is written, for each detail. Where all is fine, or the writing
-- failed, the input was read to its end, and what is written is the text of its list, or a part of it.
abbrev pub AnswersRecover : List ℕ → Option (List ℕ) → Option (List ℕ) → Option (List ℕ) → Detail → Type 0
AnswersRecover bytes left old new Fine =
    (left ≡ Some []) × (list : OpenedList) × HoldsLawful bytes list × Appends old new (accounts_text list)
AnswersRecover bytes left old new Write =
    (left ≡ Some []) × (list : OpenedList) × HoldsLawful bytes list × AppendsPart old new (accounts_text list)
AnswersRecover bytes left old new NotALog = HasFault bytes left fault.NotALog
AnswersRecover bytes left old new BadSnapshot = HasFault bytes left fault.BadSnapshot
AnswersRecover bytes left old new (BadBatch offset) = HasFault bytes left (fault.BadBatch offset)
AnswersRecover bytes left old new (BadRec lsn) = HasFault bytes left (fault.BadRec lsn)
AnswersRecover bytes left old new (Unlawful lsn why) = HasFault bytes left (fault.Unlawful lsn why)
AnswersRecover bytes left old new Read = ⊤
AnswersRecover bytes left old new NoMemory = ⊤
AnswersRecover bytes left old new detail = ⊥

-- `dump` on these bytes: the same, but the list need not be lawful, and what is written is its dump, or a part of it
abbrev pub AnswersDump : List ℕ → Option (List ℕ) → Option (List ℕ) → Option (List ℕ) → Detail → Type 0
AnswersDump bytes left old new Fine =
    (left ≡ Some []) × (list : OpenedList) × HoldsList bytes list × Appends old new (dump_text list)
AnswersDump bytes left old new Write =
    (left ≡ Some []) × (list : OpenedList) × HoldsList bytes list × AppendsPart old new (dump_text list)
AnswersDump bytes left old new NotALog = HasFault bytes left fault.NotALog
AnswersDump bytes left old new BadSnapshot = HasFault bytes left fault.BadSnapshot
AnswersDump bytes left old new (BadBatch offset) = HasFault bytes left (fault.BadBatch offset)
AnswersDump bytes left old new (BadRec lsn) = HasFault bytes left (fault.BadRec lsn)
AnswersDump bytes left old new Read = ⊤
AnswersDump bytes left old new NoMemory = ⊤
AnswersDump bytes left old new detail = ⊥
