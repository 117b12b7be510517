-- What `cut` answers, and `upgrade`: what they leave of the source and what they write.
use Rattle.std.specs.Prelude.{◌≡◌, ℕ, List, [], Option, Some, ⊤}
use Rattle.std.specs.Io.KnownBytes.{Appends}
use Rattle.log_disk.specs.Streams.{AppendsPart}
use Rattle.log_recovery.specs.declared.recovery.RecoverFault.TheVariants as fault
use Rattle.log_recovery.specs.Opened.{OpenedList}
use Rattle.log_recovery.specs.Recovery.{HoldsLawful, IsFaultOf}
use Rattle.log_recovery.specs.Text.{accounts_text}
use Rattle.cli_shared.specs.Answers.{IsSourceFault}
use Rattle.cli_shared.specs.declared.report.Detail.{Detail}
use Rattle.cli_shared.specs.declared.report.Detail.TheVariants.{Fine, NoMemory, Read, Write, Disk, NotALog, BadSnapshot, BadBatch, BadRec, Unlawful, Exists}

-- the answers that there are to `cut`, and to `upgrade`
abbrev pub IsAnswerToCut : Detail → Type 0
IsAnswerToCut Fine = ⊤
IsAnswerToCut NoMemory = ⊤
IsAnswerToCut Read = ⊤
IsAnswerToCut Write = ⊤
IsAnswerToCut Disk = ⊤
IsAnswerToCut NotALog = ⊤
IsAnswerToCut BadSnapshot = ⊤
IsAnswerToCut (BadBatch offset) = ⊤
IsAnswerToCut (BadRec lsn) = ⊤
IsAnswerToCut (Unlawful lsn why) = ⊤
IsAnswerToCut Exists = ⊤
IsAnswerToCut detail = ⊥

-- why no log is made
abbrev pub IsMakingFault : Option (List ℕ) → Option (List ℕ) → Detail → Type 0
IsMakingFault left left_new Disk = ⊤
IsMakingFault left left_new Exists = ⊤
IsMakingFault left left_new detail = IsSourceFault left left_new detail

-- `cut` or `upgrade` on these bytes: what is left of them and what is written, for each detail. Where all is fine, or the writing failed, the source was read to
-- its end, and what is written is the text of its list, or a part of it.
abbrev pub AnswersCut : List ℕ → Option (List ℕ) → Option (List ℕ) → Option (List ℕ) → Detail → Type 0
AnswersCut bytes left old new Fine = (left ≡ Some []) × (list : OpenedList) × HoldsLawful bytes list × Appends old new (accounts_text list)
AnswersCut bytes left old new Write = (left ≡ Some []) × (list : OpenedList) × HoldsLawful bytes list × AppendsPart old new (accounts_text list)
AnswersCut bytes left old new NotALog = (left ≡ Some []) × IsFaultOf bytes fault.NotALog
AnswersCut bytes left old new BadSnapshot = (left ≡ Some []) × IsFaultOf bytes fault.BadSnapshot
AnswersCut bytes left old new (BadBatch offset) = (left ≡ Some []) × IsFaultOf bytes (fault.BadBatch offset)
AnswersCut bytes left old new (BadRec lsn) = (left ≡ Some []) × IsFaultOf bytes (fault.BadRec lsn)
AnswersCut bytes left old new (Unlawful lsn why) = (left ≡ Some []) × IsFaultOf bytes (fault.Unlawful lsn why)
AnswersCut bytes left old new NoMemory = ⊤
AnswersCut bytes left old new Read = ⊤
AnswersCut bytes left old new Disk = ⊤
AnswersCut bytes left old new Exists = ⊤
AnswersCut bytes left old new detail = ⊥
