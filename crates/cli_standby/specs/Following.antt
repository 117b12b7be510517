-- What `follow` answers. `g` is what a disk shows; `old` and `new` are what is outside before and after. A frame is a list of records.
use Rattle.std.specs.Prelude.{◌≡◌, ◌≢◌, ◌⊎◌, ℕ, ◌+◌, ◌*◌, List, [], ◌∷◌, ◌++◌, length, Option, Some, IfSome}
use Rattle.std.specs.Io.KnownBytes.{Keeps, Appends, Consumes}
use Rattle.log_disk.specs.Costs.{Costs}
use Rattle.log_disk.specs.Lengths.{GrowsAtMostTo}
use Rattle.log_disk.specs.Streams.{AppendsPart}
use Rattle.log_disk.specs.declared.disk.LogDisk.{Ghosts}
use Rattle.log_record.specs.declared.rec.Rec.{Rec}
use Rattle.lock_core.specs.Faults.{IsUnlawfulAt}
use Rattle.lock_core.specs.Lawful.{IsLawful}
use Rattle.log_recovery.specs.declared.recovery.RecoverFault.TheVariants as fault
use Rattle.log_recovery.specs.Opened.{OpenedList, log_of, list_end, opening_before, placed}
use Rattle.log_recovery.specs.Recovery.{HoldsLawful, IsFaultOf}
use Rattle.log_recovery.specs.Text.{accounts_text}
use Rattle.segment_file.specs.StandingLog.{LogStandsAt}
use Rattle.segment_file.specs.declared.scan_result.Tail.{Tail}
use Rattle.ship_stream.specs.Came.{Came, HasCome, IsBadBehind}
use Rattle.ship_stream.specs.Stream.{HasFrames, IsStream}
use Rattle.standby.specs.AppliedFrames.{HoldsFront, place_behind, with_frames}
use Rattle.standby.specs.Following.{BeginsWithFrames, GoesOn, whole_frames}
use Rattle.cli_shared.specs.Opening.{most_calls}
use Rattle.cli_shared.specs.Outside.{Outside, OnlyReads}
use Rattle.cli_shared.specs.declared.report.Detail.{Detail}
use Rattle.cli_shared.specs.declared.report.Detail.TheVariants.{Fine, NoMemory, Read, Write, Disk, NotALog, BadSnapshot, BadBatch, BadRec, Unlawful, BadStream, Gap, StreamUnlawful}
use Rattle.cli_standby.specs.Leaving.{LeavesFronts}

-- The log that a read gave was opened, and no more than these frames came to it, the first of the input, where that is known. At most 4
-- writes and syncs succeeded for each, and 3 more.
pub record Followed {D : Type 0} (g : Ghosts D) (opened : OpenedList) (frames : List (List Rec)) (old new : Outside D) : Type 0 where
  pub held : HoldsLawful (g.reads old.disk) opened
  pub begins : IfSome old.left (λ bytes. BeginsWithFrames bytes opened frames)
  pub moments : LeavesFronts g opened frames old.disk new.disk
  pub count : Costs g (4 * length frames + 3) (most_calls g old.disk + 4 * length frames + 3) old.disk new.disk
  pub tail : Tail
  pub stands : LogStandsAt tail (log_of opened) (g.reads old.disk)
  pub grows : GrowsAtMostTo g (place_behind tail.at frames + 1) old.disk new.disk

-- of the input this much was read, and these are all whole frames that it has
pub record HasReadFrames (opened : OpenedList) (left left_new : Option (List ℕ)) (frames : List (List Rec)) : Type 0 where
  pub fed : List ℕ
  pub taken : Consumes left left_new fed
  pub came : Came
  pub has : HasCome fed came
  pub goes_on : GoesOn opened came
  pub whole : whole_frames came ≡ frames

-- Why nothing comes behind these frames, with this one, or none, in flight. Of all bytes of the input, where they are known: the first part
-- that is cut or outside the grammar comes right behind the frames; the stream begins at another LSN than the list's end; or the record at
-- this LSN is the first of the next frame that fails a test. The disk failed before the first frame, or at the one in flight. A read
-- failed behind all whole frames that had come.
abbrev pub IsCause : OpenedList → Option (List ℕ) → Option (List ℕ) → List (List Rec) → List (List Rec) → Detail → Type 0
IsCause opened left left_new frames cut (BadStream offset) = (cut ≡ [])
    × ((came : Came) × (whole_frames came ≡ frames) × GoesOn opened came × IfSome left (λ bytes. IsBadBehind came bytes offset))
IsCause opened left left_new frames cut (Gap have from) = (cut ≡ []) × (frames ≡ []) × (have ≡ list_end opened) × (from ≢ have)
    × IfSome left (λ bytes. (rest : List ℕ) × HasFrames bytes from [] rest)
IsCause opened left left_new frames cut (StreamUnlawful lsn why) = (cut ≡ [])
    × ((frame : List Rec) × IfSome left (λ bytes. (rest : List ℕ) × HasFrames bytes (list_end opened) (frames ++ frame ∷ []) rest)
    × IsUnlawfulAt (opening_before opened) (placed (with_frames opened (frames ++ frame ∷ []))) lsn why)
IsCause opened left left_new frames cut Disk = ((frames ≡ []) × (cut ≡ [])) ⊎ ((frame : List Rec) × (cut ≡ frame ∷ []))
IsCause opened left left_new frames cut Read = (cut ≡ []) × HasReadFrames opened left left_new frames
IsCause opened left left_new frames cut NoMemory = cut ≡ []
IsCause opened left left_new frames cut detail = ⊥

-- It stopped behind these frames, which stay: each image holds the list with them, and the one in flight whole or not at all. Nothing was
-- printed.
pub record Stopped {D : Type 0} (g : Ghosts D) (detail : Detail) (old new : Outside D) : Type 0 where
  pub opened : OpenedList
  pub frames : List (List Rec)
  pub cut : List (List Rec)
  pub followed : Followed g opened (frames ++ cut) old new
  pub images : (image : List ℕ) → g.images new.disk image → HoldsFront (with_frames opened frames) cut image
  pub cause : IsCause opened old.left new.left frames cut detail
  pub silent : Keeps old.text new.text

-- The whole input is a stream from the end of the opened list on, each image holds that with all of its frames, and of the accounts of this
-- list that is said.
pub record FollowedWhole {D : Type 0} (g : Ghosts D) (Says : Option (List ℕ) → Option (List ℕ) → List ℕ → Type 0) (old new : Outside D)
    : Type 0 where
  pub opened : OpenedList
  pub frames : List (List Rec)
  pub followed : Followed g opened frames old new
  pub images : (image : List ℕ) → g.images new.disk image → HoldsLawful image (with_frames opened frames)
  pub whole : IfSome old.left (λ bytes. (new.left ≡ Some []) × IsStream bytes (list_end opened) frames)
  pub text : Says old.text new.text (accounts_text (with_frames opened frames))

-- `follow`, for each detail
abbrev pub AnswersFollow : {D : Type 0} → Ghosts D → Outside D → Outside D → Detail → Type 0
AnswersFollow g old new Fine = FollowedWhole g Appends old new
AnswersFollow g old new Write = FollowedWhole g AppendsPart old new
AnswersFollow g old new NoMemory = OnlyReads g old new ⊎ Stopped g NoMemory old new
AnswersFollow g old new Disk = OnlyReads g old new ⊎ Stopped g Disk old new
AnswersFollow g old new NotALog = OnlyReads g old new × IsFaultOf (g.reads old.disk) fault.NotALog
AnswersFollow g old new BadSnapshot = OnlyReads g old new × IsFaultOf (g.reads old.disk) fault.BadSnapshot
AnswersFollow g old new (BadBatch offset) = OnlyReads g old new × IsFaultOf (g.reads old.disk) (fault.BadBatch offset)
AnswersFollow g old new (BadRec lsn) = OnlyReads g old new × IsFaultOf (g.reads old.disk) (fault.BadRec lsn)
AnswersFollow g old new (Unlawful lsn why) = OnlyReads g old new × IsFaultOf (g.reads old.disk) (fault.Unlawful lsn why)
AnswersFollow g old new detail = Stopped g detail old new

-- the answers that there are to `follow`
abbrev pub IsAnswerToFollow : Detail → Type 0
IsAnswerToFollow Fine = Unit {0}
IsAnswerToFollow NoMemory = Unit {0}
IsAnswerToFollow Read = Unit {0}
IsAnswerToFollow Write = Unit {0}
IsAnswerToFollow Disk = Unit {0}
IsAnswerToFollow NotALog = Unit {0}
IsAnswerToFollow BadSnapshot = Unit {0}
IsAnswerToFollow (BadBatch offset) = Unit {0}
IsAnswerToFollow (BadRec lsn) = Unit {0}
IsAnswerToFollow (Unlawful lsn why) = Unit {0}
IsAnswerToFollow (BadStream offset) = Unit {0}
IsAnswerToFollow (Gap have from) = Unit {0}
IsAnswerToFollow (StreamUnlawful lsn why) = Unit {0}
IsAnswerToFollow detail = ⊥

-- the answers that there are to `follow` where nothing stands in its way
abbrev pub IsFollowDone : Detail → Type 0
IsFollowDone Fine = Unit {0}
IsFollowDone NoMemory = Unit {0}
IsFollowDone detail = ⊥

-- the bytes are a stream that goes on where the list ends, and the list stays lawful with its records
pub record IsLawfulStream (bytes : List ℕ) (list : OpenedList) : Type 0 where
  pub frames : List (List Rec)
  pub stream : IsStream bytes (list_end list) frames
  pub lawful : IsLawful (opening_before list) (placed (with_frames list frames))
