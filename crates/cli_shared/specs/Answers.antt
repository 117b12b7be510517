-- What commands answer alike: the status, what they read, and when those other than `run` stay silent.
use Rattle.std.specs.Prelude.{ℕ, List, Option}
use Rattle.std.specs.Io.KnownBytes.{Keeps}
use Rattle.log_recovery.specs.declared.recovery.RecoverFault.{RecoverFault}
use Rattle.log_recovery.specs.declared.recovery.RecoverFault.TheVariants as fault
use Rattle.log_recovery.specs.Recovery.{HasSourceFault}
use Rattle.cli_shared.specs.declared.report.Detail.{Detail}
use Rattle.cli_shared.specs.declared.report.Detail.TheVariants.{Fine, NoMemory, Usage, Script, Read, Write, Disk, NotALog, BadSnapshot, BadBatch}
use Rattle.cli_shared.specs.declared.report.Detail.TheVariants.{BadRec, Unlawful, LogEnd, TxnEnd, Exists, BadStream, Gap, NoSuchLsn, StreamUnlawful}
use Rattle.cli_shared.specs.declared.report.Detail.TheVariants.{NoAccount}

abbrev pub status_of : Detail → ℕ
status_of Fine = 0
status_of NoMemory = 1
status_of Usage = 2
status_of (Script line) = 3
status_of Read = 4
status_of Write = 5
status_of Disk = 6
status_of NotALog = 7
status_of BadSnapshot = 7
status_of (BadBatch offset) = 7
status_of (BadRec lsn) = 7
status_of (Unlawful lsn why) = 7
status_of (LogEnd tail total) = 8
status_of (TxnEnd first count) = 9
status_of Exists = 10
status_of (BadStream offset) = 11
status_of (Gap have from) = 12
status_of (NoSuchLsn lsn) = 13
status_of (StreamUnlawful lsn why) = 14
status_of (NoAccount account) = 15

-- nothing is printed, but where all is fine or the writing failed
abbrev pub StaysSilent : Option (List ℕ) → Option (List ℕ) → Detail → Type 0
StaysSilent old new Fine = Unit {0}
StaysSilent old new Write = Unit {0}
StaysSilent old new detail = Keeps old new

-- why an input gives no bytes
abbrev pub IsReadingFault : Detail → Type 0
IsReadingFault Read = Unit {0}
IsReadingFault NoMemory = Unit {0}
IsReadingFault detail = ⊥

-- how the program ends where nothing is recovered
abbrev pub recover_detail : RecoverFault → Detail
recover_detail fault.NotALog = NotALog
recover_detail fault.BadSnapshot = BadSnapshot
recover_detail (fault.BadBatch offset) = BadBatch offset
recover_detail (fault.BadRec lsn) = BadRec lsn
recover_detail (fault.Unlawful lsn why) = Unlawful lsn why
recover_detail fault.NoMemory = NoMemory

-- why a source gives no log
abbrev pub IsSourceFault : Option (List ℕ) → Option (List ℕ) → Detail → Type 0
IsSourceFault left left_new NotALog = HasSourceFault left left_new fault.NotALog
IsSourceFault left left_new BadSnapshot = HasSourceFault left left_new fault.BadSnapshot
IsSourceFault left left_new (BadBatch offset) = HasSourceFault left left_new (fault.BadBatch offset)
IsSourceFault left left_new (BadRec lsn) = HasSourceFault left left_new (fault.BadRec lsn)
IsSourceFault left left_new (Unlawful lsn why) = HasSourceFault left left_new (fault.Unlawful lsn why)
IsSourceFault left left_new Read = Unit {0}
IsSourceFault left left_new NoMemory = Unit {0}
IsSourceFault left left_new detail = ⊥
