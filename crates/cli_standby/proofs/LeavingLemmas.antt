-- What `follow` leaves once it has opened a log.
use Rattle.std.proofs.Common.{◌⊎◌, ⊎_elim, inl, inr, ℕ, List, arith}
use Rattle.log_disk.specs.declared.disk.LogDisk.{Ghosts}
use Rattle.log_record.specs.declared.rec.Rec.{Rec}
use Rattle.log_recovery.specs.Opened.{OpenedList}
use Rattle.standby.specs.AppliedFrames.{with_frames}
use Rattle.cli_shared.specs.Outside.{Outside, OnlyReads}
use Rattle.cli_shared.specs.declared.report.Detail.{Detail}
use Rattle.cli_standby.specs.Following.{AnswersFollow}
use Rattle.cli_standby.specs.Leaving.{LeavesFronts, StaysALog}
use Rattle.cli_standby.proofs.FollowCases.{follow-case, FollowCase}

module _ {D : Type 0} (g : Ghosts D) (only_now : (disk : D) (c : List ℕ) → g.images_since disk (g.moment disk) c → g.images disk c)
    (old new : Outside D) where
  stays : (opened : OpenedList) (frames : List (List Rec)) → LeavesFronts g opened frames old.disk new.disk → StaysALog g old.disk new.disk
  stays opened frames leaves = record {
    disk = leaves.disk;
    looks = leaves.looks;
    later = leaves.moments.later;
    each = λ c since. ⊎_elim (λ was. (opened, leaves.each c (only_now leaves.disk c was)))
        (λ held. (with_frames opened held.front, held.holds))
        (leaves.moments.each (g.moment leaves.disk) c (omega arith) since);
  }

  leaves-case : (detail : Detail) → FollowCase g old new detail → OnlyReads g old new ⊎ StaysALog g old.disk new.disk
  leaves-case detail (inl whole) = inr (stays whole.0 whole.1 whole.2)
  leaves-case detail (inr (inl looked)) = inl looked.0
  leaves-case detail (inr (inr stopped)) = inr (stays stopped.0.opened _ stopped.0.followed.moments)

  pub leaves-a-log : (detail : Detail) → AnswersFollow g old new detail → OnlyReads g old new ⊎ StaysALog g old.disk new.disk
  leaves-a-log detail answers = leaves-case detail (follow-case g old new detail answers)
