-- A log that follows a part of what was shipped of another holds no more than that.
use Rattle.std.proofs.Common.{◌≡◌, ℕ, List, ◌++◌}
use Rattle.log_record.specs.declared.rec.Rec.{Rec}
use Rattle.log_recovery.specs.Opened.{OpenedList, list_end, with_front}
use Rattle.log_recovery.specs.Recovery.{HoldsLawful}
use Rattle.ship_stream.specs.Frames.{stream_of}
use Rattle.standby.specs.AppliedFrames.{HoldsFront}
use Rattle.standby.specs.Following.{BeginsWithFrames}
use Rattle.standby.proofs.FollowedParts.{holds-followed}
use Rattle.standby.proofs.NeverAhead.{followed-front}

pub follows-shipped : (list : OpenedList) (before later : List Rec) (log input more : List ℕ) (frames : List (List Rec)) (image : List ℕ)
    → HoldsLawful log list → list.records ≡ before ++ later → input ++ more ≡ stream_of (list_end (with_front list before)) later
    → BeginsWithFrames input (with_front list before) frames → HoldsFront (with_front list before) frames image
    → (front rest : List Rec) × (list.records ≡ before ++ front ++ rest) × HoldsLawful image (with_front list (before ++ front))
follows-shipped list before later log input more frames image held whole shipped begins holds =
    followed-front list before later log input more held whole shipped image
    (holds-followed (with_front list before) input frames begins image holds)
