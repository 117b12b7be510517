-- From the opened log, and what came to it, to what `follow` answers.
use Rattle.std.proofs.Common.{◌≡◌, ◌∙◌, ◌↔◌, inl, inr, refl, sym, ap, subst, ℕ, ◌+◌, ◌*◌, List, [], ◌++◌, length, Option, Some, None, IfSome, Result, Ok, Err, IfOk, IfErr, IsErrOf, arith}
use Rattle.log_disk.proofs.Counting.{CountsWhere-same_before, Costs-weaken, Costs-trans}
use Rattle.log_disk.proofs.Lengths.{GrowsAtMostTo-weaken, GrowsAtMostTo-trans}
use Rattle.log_disk.proofs.Moments.{Leaves-trans, Leaves-weaken}
use Rattle.log_disk.specs.Attachment.{Attached}
use Rattle.log_disk.specs.Faults.{CountsWhere}
use Rattle.log_disk.specs.declared.disk.LogDisk.{Ghosts}
use Rattle.log_disk.specs.declared.source.Source.{Ghosts as SourceGhosts}
use Rattle.log_record.specs.declared.rec.Rec.{Rec}
use Rattle.lock_core.specs.Lawful.{base_with}
use Rattle.lock_core.specs.Sums.{Opening, ShowsAccounts}
use Rattle.lock_core.specs.Taking.{HasJudged}
use Rattle.log_record.specs.declared.rec.Placed.{Placed}
use Rattle.lsn_space.specs.Accounts.{Accounts}
use Rattle.lock_core.specs.declared.judge.Judge.{Judge}
use Rattle.log_recovery.specs.declared.recovery.RecoverFault.{RecoverFault}
use Rattle.log_recovery.specs.declared.recovery.RecoverFault.TheVariants as fault
use Rattle.log_recovery.specs.Opened.{OpenedList, list_end}
use Rattle.log_recovery.specs.Recovery.{HoldsLawful}
use Rattle.log_recovery.specs.Text.{rows_text}
use Rattle.log_recovery.proofs.TextLemmas.{rows_text-shown}
use Rattle.segment_file.specs.declared.scan_result.Tail.{Tail}
use Rattle.ship_stream.specs.Stream.{IsStream, end_bytes}
use Rattle.standby.specs.AppliedFrames.{Base, HoldsFront, Wrote, place_behind, with_frames}
use Rattle.standby.specs.Following.{BeginsWithFrames}
use Rattle.standby.specs.TakenList.{KeepsList}
use Rattle.standby.specs.declared.fault.StandbyFault.{StandbyFault}
use Rattle.standby.specs.declared.fault.StandbyFault.TheVariants as stream
use Rattle.standby.specs.declared.standby.Standby.{Standby}
use Rattle.standby.proofs.FrameLists.{holds-front-more, holds-lawful}
use Rattle.cli_shared.specs.Opening.{most_calls}
use Rattle.cli_shared.specs.Outside.{outside}
use Rattle.cli_shared.specs.declared.report.Detail.{Detail}
use Rattle.cli_shared.specs.declared.report.Detail.TheVariants.{Read, Write, Disk}
use Rattle.cli_shared.specs.Answers.{recover_detail, StaysSilent}
use Rattle.cli_shared.specs.Attached.{LeavesAttached}
use Rattle.cli_shared.proofs.AttachedLemmas.{leaves-attached}
use Rattle.cli_shared.proofs.ToldLemmas.{Keeps-refl}
use Rattle.cli_standby.specs.Feeding.{AnswersUnsaid, begun, FollowEnds, HasFedEnd, HasFedWhole, HasFollowedInput, IsFeedingFault, IsOpened, IsUnopened, IsUnsaid, StopsFeeding, stream_detail}
use Rattle.cli_standby.specs.Following.{Followed, FollowedWhole, IsAnswerToFollow}
use Rattle.cli_standby.specs.Leaving.{LeavesFronts}
use Rattle.cli_standby.proofs.FedLemmas.{counts-no-read, consumes_all-holds_of_input}
use Rattle.cli_standby.proofs.FollowCases.{answers-stopped, feeding_fault-by_cases, unopened-by_cases}

whole-input : (left left_new : Option (List ℕ)) → IfSome left (λ bytes. left_new ≡ Some []) → (P : List ℕ → Type 0) → IfSome left P
    → IfSome left (λ bytes. (left_new ≡ Some []) × P bytes)
whole-input None left_new end P is = tt
whole-input (Some bytes) left_new end P is = (end, is)

pub counts_where-is_err_of : {T : Type 0} (result : Result T Detail) (detail other : Detail) → result ≡ Err detail → (before now : ℕ)
    → CountsWhere (detail ≡ other) before now → CountsWhere (IsErrOf result other) before now
counts_where-is_err_of result detail other same before now counts = record {
  counted = λ is. counts.counted (let both = sym same ∙ is in cc);
  fine = λ no. counts.fine (λ is. no (same ∙ ap Err is));
}

-- the log was opened, and settled, and then these frames came to it
module _ {D : Type 0} (g : Ghosts D) (old mid : D) (tail : Tail) (judge : Judge) (opened : IsOpened g old mid tail judge)
    (honest : g.honest old) (honest_mid : g.honest mid) (left left_new : Option (List ℕ)) (new : D) where
  abbrev base : Base D
  base = begun opened.list tail mid

  moments-followed : (frames : List (List Rec)) → Wrote g base frames new → LeavesFronts g opened.list frames old new
  moments-followed frames wrote = let first = opened.moments honest in record {
    disk = first.disk;
    looks = first.looks;
    each = first.each;
    moments = Leaves-trans g.moment g.images_since (HoldsFront opened.list frames) first.disk mid new
        (Leaves-weaken g.moment g.images_since (HoldsFront opened.list []) (HoldsFront opened.list frames) first.disk mid
        (λ c held. holds-front-more opened.list c [] frames held) first.moments)
        (wrote.moments honest_mid);
  }

  followed : (frames : List (List Rec)) → Wrote g base frames new → IfSome left (λ bytes. BeginsWithFrames bytes opened.list frames)
      → (text text_new : Option (List ℕ)) → Followed g opened.list frames (outside old left text) (outside new left_new text_new)
  followed frames wrote begins text text_new = record {
    held = opened.held honest;
    begins = begins;
    moments = moments-followed frames wrote;
    count = Costs-weaken g _ _ _ _ old new (omega arith) (omega arith)
        (Costs-trans g 3 (4 * length frames) (most_calls g old + 3) (4 * length frames) old mid new (opened.count honest)
        (wrote.count honest_mid));
    tail = tail;
    stands = opened.stands honest;
    grows = GrowsAtMostTo-trans g (place_behind tail.at frames + 1) old mid new
        (GrowsAtMostTo-weaken g (tail.at + 1) (place_behind tail.at frames + 1) old mid (omega arith) (opened.grows honest))
        (wrote.grows honest_mid);
  }

  -- it stopped behind them
  pub unsaid-stopped : (detail : Detail) → IsFeedingFault detail → StopsFeeding g base left left_new detail new
      → AnswersUnsaid g old new left left_new detail
  unsaid-stopped detail is stops text = answers-stopped g (outside old left text) (outside new left_new text) detail is (record {
    opened = opened.list;
    frames = stops.frames;
    cut = stops.cut;
    followed = followed (stops.frames ++ stops.cut) stops.wrote stops.begins text text;
    images = stops.images honest_mid;
    cause = stops.cause;
    silent = Keeps-refl text;
  })

  -- the whole input was followed
  pub followed-input : (lsn : ℕ) (rows : List (ℕ × ℕ)) → HasFedWhole g base left left_new lsn rows new
      → HasFollowedInput g old new left left_new lsn rows
  followed-input lsn rows has = record {
    opened = opened.list;
    frames = has.frames;
    followed = followed has.frames has.wrote has.begins;
    images = has.images honest_mid;
    whole = has.whole;
    text = has.text;
  }

-- what `follow` ensures, once the stream was followed as far as it goes
module _ {D S : Type 0} (g : Ghosts D) (h : SourceGhosts S) (old mid : D) (tail : Tail) (judge : Judge)
    (opened : IsOpened g old mid tail judge) (file : Attached) (input script_new : S) (new : D)
    (honest : g.honest old ↔ g.honest mid) (attached : g.honest old → g.attached mid ≡ Some file) (fine : g.faults mid ≡ g.faults old) where
  abbrev start : Base D
  start = begun opened.list tail mid

  ends-whole : (both : ℕ × Accounts)
      → HasFedWhole g start (h.left input) (h.left script_new) both.0 both.1.rows new
      → h.faults script_new ≡ h.faults input → FollowEnds g h file old new input script_new (Ok both)
  ends-whole both has read = record {
    ok = λ was. followed-input g old mid tail judge opened was (honest.0 was) _ _ new both.0 both.1.rows has;
    none = λ was. tt;
    range = tt;
    honest = (λ was. has.wrote.honest.0 (honest.0 was), λ is. honest.1 (has.wrote.honest.1 is));
    attached = λ was. has.wrote.attached ∙ attached was;
    read = record { counted = λ is. absurd cc; fine = λ other. read };
    disk = record { counted = λ is. absurd cc; fine = λ other. has.fine ∙ fine };
  }

  ends-stopped : (detail : Detail) → StopsFeeding g start (h.left input) (h.left script_new) detail new → IsFeedingFault detail
      → CountsWhere (IsErrOf {T = ℕ × Accounts} (Err detail) Read) (h.faults input) (h.faults script_new)
      → FollowEnds g h file old new input script_new (Err detail)
  ends-stopped detail stops range read = record {
    ok = λ was. tt;
    none = λ was. unsaid-stopped g old mid tail judge opened was (honest.0 was) _ _ new detail range stops;
    range = inr range;
    honest = (λ was. stops.wrote.honest.0 (honest.0 was), λ is. honest.1 (stops.wrote.honest.1 is));
    attached = λ was. leaves-attached file _ _ detail (stops.wrote.attached ∙ attached was);
    read = read;
    disk = counts_where-is_err_of (Err detail) detail Disk refl _ _ (CountsWhere-same_before _ _ _ _ fine stops.faults);
  }

  pub follow-ends : (result : Result (ℕ × Accounts) Detail)
      → IfOk result (λ both. (l : OpenedList) → KeepsList g l judge tail mid
      → HasFedWhole g (begun l tail mid) (h.left input) (h.left script_new) both.0 both.1.rows new)
      → IfErr result (λ detail. (l : OpenedList) → KeepsList g l judge tail mid
      → StopsFeeding g (begun l tail mid) (h.left input) (h.left script_new) detail new) → IfErr result IsFeedingFault
      → CountsWhere (IsErrOf result Read) (h.faults input) (h.faults script_new)
      → FollowEnds g h file old new input script_new result
  follow-ends (Ok both) whole stops range read = ends-whole both (whole opened.list opened.kept) (read.fine (λ is. cc))
  follow-ends (Err detail) whole stops range read = ends-stopped detail (stops opened.list opened.kept) range read

-- the stream has ended, and the judge has the accounts of the whole list
module _ {D : Type 0} (g : Ghosts D) (base : Base D) (left left_new : Option (List ℕ)) (lsn : ℕ) (s : Standby D)
    (has : HasFedEnd g base left left_new lsn s) where
  abbrev frames_fed : List (List Rec)
  frames_fed = has.followed.frames

  of-fed : (P : List ℕ → Type 0) → P has.fed → IfSome left P
  of-fed P is = consumes_all-holds_of_input P left left_new has.fed has.taken has.all is

  stream-fed : IsStream has.fed (list_end base.list) frames_fed
  stream-fed = subst (λ n. IsStream has.fed n frames_fed) has.followed.goes_on has.followed.ended

  images-fed : g.honest base.disk → (image : List ℕ) → g.images s.disk.now image → HoldsLawful image (with_frames base.list frames_fed)
  images-fed honest image is =
      let applied = has.followed.applied in
      holds-lawful (with_frames base.list frames_fed) image applied.kept.each applied.kept.taken.ledger.judged.lawful
      (applied.kept.stands (applied.wrote.honest.0 honest) image is).held

  pub fed-whole : (rows : List (ℕ × ℕ))
      → ((opening : Opening) (h : List Placed) → HasJudged opening s.judge h → ShowsAccounts rows (base_with opening h) h)
      → HasFedWhole g base left left_new lsn rows s.disk.now
  fed-whole rows shows = record {
    frames = frames_fed;
    whole = whole-input left left_new has.all _ (of-fed (λ bytes. IsStream bytes (list_end base.list) frames_fed) stream-fed);
    begins = of-fed (λ bytes. BeginsWithFrames bytes base.list frames_fed) (inr (end_bytes, stream-fed));
    images = images-fed;
    wrote = has.followed.applied.wrote;
    fine = has.followed.applied.fine;
    text = rows_text-shown lsn rows (with_frames base.list frames_fed) has.followed.lsn_is (shows _ _ has.followed.applied.kept.taken);
  }

-- ---- what is promised of each answer besides

-- nothing is written, and the output is not what failed
abbrev IsSilent : Detail → Type 0
IsSilent detail = ((text : Option (List ℕ)) → StaysSilent text text detail) × IsAnswerToFollow detail × (detail ≡ Write → ⊥)

silent-recovery : (f : RecoverFault) → IsSilent (recover_detail f)
silent-recovery fault.NotALog = (Keeps-refl, tt, λ is. cc)
silent-recovery fault.BadSnapshot = (Keeps-refl, tt, λ is. cc)
silent-recovery (fault.BadBatch offset) = (Keeps-refl, tt, λ is. cc)
silent-recovery (fault.BadRec lsn) = (Keeps-refl, tt, λ is. cc)
silent-recovery (fault.Unlawful lsn why) = (Keeps-refl, tt, λ is. cc)
silent-recovery fault.NoMemory = (Keeps-refl, tt, λ is. cc)

silent-standby : (f : StandbyFault) → IsSilent (stream_detail f)
silent-standby (stream.BadStream offset) = (Keeps-refl, tt, λ is. cc)
silent-standby (stream.Gap have from) = (Keeps-refl, tt, λ is. cc)
silent-standby (stream.StreamUnlawful lsn why) = (Keeps-refl, tt, λ is. cc)
silent-standby stream.DiskFault = (Keeps-refl, tt, λ is. cc)
silent-standby stream.NoMemory = (Keeps-refl, tt, λ is. cc)

silent-detail : (detail : Detail) → IsUnsaid detail → IsSilent detail
silent-detail detail (inl is) = unopened-by_cases IsSilent (Keeps-refl, tt, λ is. cc) silent-recovery detail is
silent-detail detail (inr is) = feeding_fault-by_cases IsSilent (Keeps-refl, tt, λ is. cc) silent-standby detail is

pub silent-unsaid : (text : Option (List ℕ)) (detail : Detail) → IsUnsaid detail → StaysSilent text text detail
silent-unsaid text detail is = (silent-detail detail is).0 text

pub unsaid-is_answer_to_follow : (detail : Detail) → IsUnsaid detail → IsAnswerToFollow detail
unsaid-is_answer_to_follow detail is = (silent-detail detail is).1

pub unsaid-not_write : (detail : Detail) → IsUnsaid detail → detail ≡ Write → ⊥
unsaid-not_write detail is = (silent-detail detail is).2

-- ---- the log wasn't opened

-- recovery tells of no fault of the input
no-read-recovery : (f : RecoverFault) → recover_detail f ≡ Read → ⊥
no-read-recovery fault.NotALog is = cc
no-read-recovery fault.BadSnapshot is = cc
no-read-recovery (fault.BadBatch offset) is = cc
no-read-recovery (fault.BadRec lsn) is = cc
no-read-recovery (fault.Unlawful lsn why) is = cc
no-read-recovery fault.NoMemory is = cc

no-read : (detail : Detail) → IsUnopened detail → detail ≡ Read → ⊥
no-read = unopened-by_cases (λ detail. detail ≡ Read → ⊥) (λ is. cc) no-read-recovery

pub ends-unopened : {D S T : Type 0} (g : Ghosts D) (h : SourceGhosts S) (file : Attached) (old new : D) (input : S) (detail : Detail)
    → (g.honest old → AnswersUnsaid g old new (h.left input) (h.left input) detail) → IsUnopened detail → (g.honest old ↔ g.honest new)
    → (g.honest old → LeavesAttached file (g.attached old) (g.attached new) detail)
    → CountsWhere (IsErrOf {T = T} (Err detail) Disk) (g.faults old) (g.faults new)
    → FollowEnds g h file old new input input (Err detail)
ends-unopened g h file old new input detail none range honest attached disk = record {
  ok = λ was. tt;
  none = none;
  range = inl range;
  honest = honest;
  attached = attached;
  read = counts-no-read (Err detail) _ _ (λ is. no-read detail range cc) refl;
  disk = record { counted = λ is. disk.counted cc; fine = λ other. disk.fine (λ is. other cc) };
}

-- what is said of the accounts that were followed is said of those of the whole list
pub followed-whole : {D : Type 0} (g : Ghosts D) (Says : Option (List ℕ) → Option (List ℕ) → List ℕ → Type 0) (old new : D)
    (left left_new text text_new : Option (List ℕ)) (lsn : ℕ) (rows : List (ℕ × ℕ)) → HasFollowedInput g old new left left_new lsn rows
    → Says text text_new (rows_text lsn rows) → FollowedWhole g Says (outside old left text) (outside new left_new text_new)
followed-whole g Says old new left left_new text text_new lsn rows has says = record {
  opened = has.opened;
  frames = has.frames;
  followed = has.followed text text_new;
  images = has.images;
  whole = has.whole;
  text = subst (Says text text_new) has.text says;
}
