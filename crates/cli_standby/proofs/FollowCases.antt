-- The answers of `follow`, in three cases; and what holds of each fault that it tells.
use Rattle.std.proofs.Common.{◌≡◌, ◌⊎◌, inl, inr, refl, sym, subst, List}
use Rattle.log_disk.specs.declared.disk.LogDisk.{Ghosts}
use Rattle.log_record.specs.declared.rec.Rec.{Rec}
use Rattle.log_recovery.specs.declared.recovery.RecoverFault.{RecoverFault}
use Rattle.log_recovery.specs.declared.recovery.RecoverFault.TheVariants as fault
use Rattle.log_recovery.specs.Opened.{OpenedList}
use Rattle.log_recovery.specs.Recovery.{IsFaultOf}
use Rattle.standby.specs.declared.fault.StandbyFault.{StandbyFault}
use Rattle.standby.specs.declared.fault.StandbyFault.TheVariants as stream
use Rattle.cli_shared.specs.Answers.{recover_detail}
use Rattle.cli_shared.specs.Outside.{Outside, OnlyReads}
use Rattle.cli_shared.specs.declared.report.Detail.{Detail}
use Rattle.cli_shared.specs.declared.report.Detail.TheVariants.{Fine, NoMemory, Usage, Script, Read, Write, Disk, NotALog, BadSnapshot, BadBatch}
use Rattle.cli_shared.specs.declared.report.Detail.TheVariants.{BadRec, Unlawful, LogEnd, TxnEnd, Exists, NoSuchLsn, BadStream, Gap, StreamUnlawful}
use Rattle.cli_shared.specs.declared.report.Detail.TheVariants.{NoAccount}
use Rattle.cli_standby.specs.Feeding.{IsFeedingFault, IsUnopened, stream_detail}
use Rattle.cli_standby.specs.Following.{AnswersFollow, Stopped}
use Rattle.cli_standby.specs.Leaving.{LeavesFronts}

-- what holds where the disk failed, and of each fault of recovery, holds wherever the log isn't opened
pub unopened-by_cases : (P : Detail → Type 0) → P Disk → ((f : RecoverFault) → P (recover_detail f)) → (detail : Detail)
    → IsUnopened detail → P detail
unopened-by_cases P disk each detail (inl is) = subst P (sym is) disk
unopened-by_cases P disk each detail (inr found) = subst P found.1 (each found.0)

-- what holds where a read failed, and of each fault of a standby, holds wherever the input isn't read to its end
pub feeding_fault-by_cases : (P : Detail → Type 0) → P Read → ((f : StandbyFault) → P (stream_detail f)) → (detail : Detail)
    → IsFeedingFault detail → P detail
feeding_fault-by_cases P read each detail (inl is) = subst P (sym is) read
feeding_fault-by_cases P read each detail (inr found) = subst P found.1 (each found.0)

-- the whole input was followed; or the disk was only looked at, and it failed or has this fault of a log; or it stopped behind some frames
abbrev pub FollowCase : {D : Type 0} → Ghosts D → Outside D → Outside D → Detail → Type 0
FollowCase g old new detail =
    ((opened : OpenedList) × (frames : List (List Rec)) × LeavesFronts g opened frames old.disk new.disk
    × ((detail ≡ Fine) ⊎ (detail ≡ Write)))
    ⊎ (OnlyReads g old new
    × ((detail ≡ Disk) ⊎ ((f : RecoverFault) × IsFaultOf (g.reads old.disk) f × (recover_detail f ≡ detail))))
    ⊎ (Stopped g detail old new × IsFeedingFault detail)

module _ {D : Type 0} (g : Ghosts D) (old new : Outside D) where
  pub follow-case : (detail : Detail) → AnswersFollow g old new detail → FollowCase g old new detail
  follow-case Fine is = inl (is.opened, is.frames, is.followed.moments, inl refl)
  follow-case Write is = inl (is.opened, is.frames, is.followed.moments, inr refl)
  follow-case NoMemory (inl reads) = inr (inl (reads, inr (fault.NoMemory, tt, refl)))
  follow-case NoMemory (inr is) = inr (inr (is, inr (stream.NoMemory, refl)))
  follow-case Disk (inl reads) = inr (inl (reads, inl refl))
  follow-case Disk (inr is) = inr (inr (is, inr (stream.DiskFault, refl)))
  follow-case Read is = inr (inr (is, inl refl))
  follow-case (BadStream offset) is = inr (inr (is, inr (stream.BadStream offset, refl)))
  follow-case (Gap have from) is = inr (inr (is, inr (stream.Gap have from, refl)))
  follow-case (StreamUnlawful lsn why) is = inr (inr (is, inr (stream.StreamUnlawful lsn why, refl)))
  follow-case NotALog is = inr (inl (is.0, inr (fault.NotALog, is.1, refl)))
  follow-case BadSnapshot is = inr (inl (is.0, inr (fault.BadSnapshot, is.1, refl)))
  follow-case (BadBatch offset) is = inr (inl (is.0, inr (fault.BadBatch offset, is.1, refl)))
  follow-case (BadRec lsn) is = inr (inl (is.0, inr (fault.BadRec lsn, is.1, refl)))
  follow-case (Unlawful lsn why) is = inr (inl (is.0, inr (fault.Unlawful lsn why, is.1, refl)))
  follow-case Usage is = absurd is.cause
  follow-case (Script line) is = absurd is.cause
  follow-case (LogEnd tail total) is = absurd is.cause
  follow-case (TxnEnd first count) is = absurd is.cause
  follow-case Exists is = absurd is.cause
  follow-case (NoSuchLsn lsn) is = absurd is.cause
  follow-case (NoAccount account) is = absurd is.cause

  -- where a standby stopped, that is what `follow` answers
  stopped-standby : (f : StandbyFault) → Stopped g (stream_detail f) old new → AnswersFollow g old new (stream_detail f)
  stopped-standby (stream.BadStream offset) stopped = stopped
  stopped-standby (stream.Gap have from) stopped = stopped
  stopped-standby (stream.StreamUnlawful lsn why) stopped = stopped
  stopped-standby stream.DiskFault stopped = inr stopped
  stopped-standby stream.NoMemory stopped = inr stopped

  pub answers-stopped : (detail : Detail) → IsFeedingFault detail → Stopped g detail old new → AnswersFollow g old new detail
  answers-stopped =
      feeding_fault-by_cases (λ detail. Stopped g detail old new → AnswersFollow g old new detail) (λ stopped. stopped) stopped-standby
