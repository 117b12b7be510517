-- How `follow` comes to its answer. `g` is what a disk shows; `old` and `new` are the disk before and after, `left` and `left_new` what the
-- input has left.
use Rattle.std.specs.Prelude.{◌≡◌, ◌⊎◌, ◌↔◌, ℕ, ◌+◌, List, [], ◌++◌, Option, Some, IfSome, Result, IfOk, IfErr, IsErrOf}
use Rattle.std.specs.Io.KnownBytes.{Consumes}
use Rattle.log_disk.specs.Attachment.{Attached}
use Rattle.log_disk.specs.Costs.{Costs}
use Rattle.log_disk.specs.Faults.{CountsWhere}
use Rattle.log_disk.specs.Lengths.{GrowsAtMostTo}
use Rattle.log_disk.specs.declared.disk.LogDisk.{Ghosts}
use Rattle.log_disk.specs.declared.source.Source.{Ghosts as SourceGhosts}
use Rattle.log_record.specs.declared.rec.Rec.{Rec}
use Rattle.log_recovery.specs.declared.recovery.RecoverFault.{RecoverFault}
use Rattle.log_recovery.specs.Opened.{OpenedList, list_end, log_of}
use Rattle.log_recovery.specs.Recovery.{HoldsLawful}
use Rattle.log_recovery.specs.Text.{accounts_text, rows_text}
use Rattle.lsn_space.specs.Accounts.{Accounts}
use Rattle.lock_core.specs.declared.judge.Judge.{Judge}
use Rattle.segment_file.specs.StandingLog.{LogStandsAt}
use Rattle.segment_file.specs.declared.scan_result.Tail.{Tail}
use Rattle.ship_stream.specs.Stream.{IsStream}
use Rattle.standby.specs.AppliedFrames.{Base, HoldsFront, Wrote, with_frames}
use Rattle.standby.specs.Following.{BeginsWithFrames, Follows, HasFollowed}
use Rattle.standby.specs.TakenList.{KeepsList}
use Rattle.standby.specs.declared.fault.StandbyFault.{StandbyFault}
use Rattle.standby.specs.declared.fault.StandbyFault.TheVariants as stream
use Rattle.standby.specs.declared.standby.Standby.{Standby}
use Rattle.cli_shared.specs.Answers.{recover_detail}
use Rattle.cli_shared.specs.Attached.{EndsAttached}
use Rattle.cli_shared.specs.Opening.{most_calls}
use Rattle.cli_shared.specs.Outside.{outside}
use Rattle.cli_shared.specs.declared.report.Detail.{Detail}
use Rattle.cli_shared.specs.declared.report.Detail.TheVariants.{NoMemory, Read, Disk, BadStream, Gap, StreamUnlawful}
use Rattle.cli_standby.specs.Following.{AnswersFollow, Followed, IsCause}
use Rattle.cli_standby.specs.Leaving.{LeavesFronts}

-- how the program ends where a standby goes no further
abbrev pub stream_detail : StandbyFault → Detail
stream_detail (stream.BadStream offset) = BadStream offset
stream_detail (stream.Gap have from) = Gap have from
stream_detail (stream.StreamUnlawful lsn why) = StreamUnlawful lsn why
stream_detail stream.DiskFault = Disk
stream_detail stream.NoMemory = NoMemory

-- The log that a read gave was opened and settled: each image holds its list, which the judge has taken, and the file goes on at the tail.
pub record IsOpened {D : Type 0} (g : Ghosts D) (old new : D) (tail : Tail) (judge : Judge) : Type 0 where
  pub list : OpenedList
  pub kept : KeepsList g list judge tail new
  pub held : g.honest old → HoldsLawful (g.reads old) list
  pub stands : g.honest old → LogStandsAt tail (log_of list) (g.reads old)
  pub moments : g.honest old → LeavesFronts g list [] old new
  pub count : g.honest old → Costs g 3 (most_calls g old + 3) old new
  pub grows : g.honest old → GrowsAtMostTo g (tail.at + 1) old new

-- what a standby begins with, where the list ends at this tail
abbrev pub begun : {D : Type 0} → OpenedList → Tail → D → Base D
begun list tail disk = record { list = list; at = tail.at; disk = disk }

-- the standby has read these bytes of the input, and has followed them
pub record HasFed {D : Type 0} (g : Ghosts D) (base : Base D) (left left_new : Option (List ℕ)) (s : Standby D) : Type 0 where
  pub fed : List ℕ
  pub taken : Consumes left left_new fed
  pub follows : Follows g base fed s

-- it has, and nothing is left of the input
pub record HasFedAll {D : Type 0} (g : Ghosts D) (base : Base D) (left left_new : Option (List ℕ)) (s : Standby D) : Type 0 where
  pub has : HasFed g base left left_new s
  pub all : IfSome left (λ bytes. left_new ≡ Some [])

-- nothing is left of the input, the stream has ended, and the log ends at this LSN
pub record HasFedEnd {D : Type 0} (g : Ghosts D) (base : Base D) (left left_new : Option (List ℕ)) (lsn : ℕ) (s : Standby D) : Type 0 where
  pub fed : List ℕ
  pub taken : Consumes left left_new fed
  pub all : IfSome left (λ bytes. left_new ≡ Some [])
  pub followed : HasFollowed g base fed lsn s

-- The whole input is a stream, all of its frames were applied, and the accounts of the list that there is now are in these rows.
pub record HasFedWhole {D : Type 0} (g : Ghosts D) (base : Base D) (left left_new : Option (List ℕ)) (lsn : ℕ) (rows : List (ℕ × ℕ))
    (disk : D) : Type 0 where
  pub frames : List (List Rec)
  pub whole : IfSome left (λ bytes. (left_new ≡ Some []) × IsStream bytes (list_end base.list) frames)
  pub begins : IfSome left (λ bytes. BeginsWithFrames bytes base.list frames)
  pub images : g.honest base.disk → (image : List ℕ) → g.images disk image → HoldsLawful image (with_frames base.list frames)
  pub wrote : Wrote g base frames disk
  pub fine : g.faults disk ≡ g.faults base.disk
  pub text : rows_text lsn rows ≡ accounts_text (with_frames base.list frames)

-- Behind these frames, which were applied, the standby went no further, with this one, or none, in flight.
pub record StopsFeeding {D : Type 0} (g : Ghosts D) (base : Base D) (left left_new : Option (List ℕ)) (detail : Detail) (disk : D)
    : Type 0 where
  pub frames : List (List Rec)
  pub cut : List (List Rec)
  pub cause : IsCause base.list left left_new frames cut detail
  pub begins : IfSome left (λ bytes. BeginsWithFrames bytes base.list (frames ++ cut))
  pub images : g.honest base.disk → (image : List ℕ) → g.images disk image → HoldsFront (with_frames base.list frames) cut image
  pub wrote : Wrote g base (frames ++ cut) disk
  pub faults : CountsWhere (detail ≡ Disk) (g.faults base.disk) (g.faults disk)

-- why the whole input wasn't followed: a read failed, or a standby went no further
abbrev pub IsFeedingFault : Detail → Type 0
IsFeedingFault detail = (detail ≡ Read) ⊎ ((fault : StandbyFault) × (stream_detail fault ≡ detail))

-- no byte has come to the standby
abbrev pub IsUnfed : {D : Type 0} → Ghosts D → Standby D → Type 0
IsUnfed {D = D} g s = (base : Base D) × Follows g base [] s

-- A standby that no byte had come to, `s`, was fed what a source gives: it is `t` then, and has `Made` this of the input; or it went no
-- further.
pub record FeedEnds {D S T : Type 0} (g : Ghosts D) (h : SourceGhosts S) (Made : Base D → T → Type 0) (s t : Standby D)
    (input script_new : S) (result : Result T Detail) : Type 0 where
  pub ok : IfOk result (λ value. (base : Base D) → Follows g base [] s → Made base value)
  pub stops : IfErr result (λ detail. (base : Base D) → Follows g base [] s
      → StopsFeeding g base (h.left input) (h.left script_new) detail t.disk.now)
  pub range : IfErr result IsFeedingFault
  pub read : CountsWhere (IsErrOf result Read) (h.faults input) (h.faults script_new)
  pub same : t.disk.ghost_name ≡ s.disk.ghost_name

-- what `follow` answers where nothing is printed
abbrev pub AnswersUnsaid : {D : Type 0} → Ghosts D → D → D → Option (List ℕ) → Option (List ℕ) → Detail → Type 0
AnswersUnsaid g old new left left_new detail = (text : Option (List ℕ))
    → AnswersFollow g (outside old left text) (outside new left_new text) detail

-- why the log isn't opened, or not settled: the disk failed, or no list is recovered
abbrev pub IsUnopened : Detail → Type 0
IsUnopened detail = (detail ≡ Disk) ⊎ ((fault : RecoverFault) × (recover_detail fault ≡ detail))

-- why nothing is printed
abbrev pub IsUnsaid : Detail → Type 0
IsUnsaid detail = IsUnopened detail ⊎ IsFeedingFault detail

-- the whole input was followed, and the accounts of the list that there is now are in these rows
pub record HasFollowedInput {D : Type 0} (g : Ghosts D) (old new : D) (left left_new : Option (List ℕ)) (lsn : ℕ) (rows : List (ℕ × ℕ))
    : Type 0 where
  pub opened : OpenedList
  pub frames : List (List Rec)
  pub followed : (text text_new : Option (List ℕ)) → Followed g opened frames (outside old left text) (outside new left_new text_new)
  pub images : (image : List ℕ) → g.images new image → HoldsLawful image (with_frames opened frames)
  pub whole : IfSome left (λ bytes. (left_new ≡ Some []) × IsStream bytes (list_end opened) frames)
  pub text : rows_text lsn rows ≡ accounts_text (with_frames opened frames)

-- what there is once the log was opened and the stream was followed as far as it goes: the clauses of `follow`
pub record FollowEnds {D S : Type 0} (g : Ghosts D) (h : SourceGhosts S) (file : Attached) (old new : D) (input script_new : S)
    (result : Result (ℕ × Accounts) Detail) : Type 0 where
  pub ok : g.honest old → IfOk result (λ both. HasFollowedInput g old new (h.left input) (h.left script_new) both.0 both.1.rows)
  pub none : g.honest old → IfErr result (AnswersUnsaid g old new (h.left input) (h.left script_new))
  pub range : IfErr result IsUnsaid
  pub honest : g.honest old ↔ g.honest new
  pub attached : g.honest old → EndsAttached file (g.attached old) (g.attached new) result
  pub read : CountsWhere (IsErrOf result Read) (h.faults input) (h.faults script_new)
  pub disk : CountsWhere (IsErrOf result Disk) (g.faults old) (g.faults new)
