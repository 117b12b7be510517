-- What `cut` leaves: a log that begins with what another leaves of its accounts. `left` is what the source holds at first, where it tells that.
use Rattle.std.specs.Prelude.{◌≡◌, ◌⊎◌, ℕ, ◌+◌, ◌*◌, List, length, Option, IfSome, ⊤}
use Rattle.log_disk.specs.Lengths.{GrowsAtMostTo}
use Rattle.log_disk.specs.declared.disk.LogDisk.{Ghosts}
use Rattle.lsn_space.specs.Opening.{Opening}
use Rattle.lock_core.specs.Lawful.{base_with, opening_after}
use Rattle.lock_core.specs.AccountRows.{opening_of}
use Rattle.lock_core.specs.Sums.{ShowsAccounts}
use Rattle.log_recovery.specs.Opened.{OpenedList, list_end, placed}
use Rattle.log_recovery.specs.Recovery.{HoldsLawful}
use Rattle.segment_file.specs.File.{BeginsAsLog}
use Rattle.segment_file.specs.Log.{cut_log, HoldsLog}
use Rattle.log_disk.specs.Streams.{ReadsAll}
use Rattle.cli_shared.specs.declared.report.Detail.{Detail}
use Rattle.cli_shared.specs.declared.report.Detail.TheVariants.{Fine, NoMemory, Read, Write, NotALog, BadSnapshot, BadBatch, BadRec, Unlawful, Exists}

-- the opening is what the list leaves before the next one: its end, its greatest transaction number, its balances and its last Commits
pub record IsCutOf (list : OpenedList) (opening : Opening) : Type 0 where
  pub lsn : opening.lsn ≡ list_end list
  pub txn : opening.txn ≡ (opening_after (opening_of list.opening) (placed list)).txn
  pub accounts : ShowsAccounts opening.accounts (base_with (opening_of list.opening) (placed list)) (placed list)

-- the source is a log with this lawful list; one that tells nothing may be a log with any
abbrev pub IsSource : Option (List ℕ) → OpenedList → Type 0
IsSource left list = IfSome left (λ bytes. HoldsLawful bytes list)

-- what was read is a log, and this is what its list leaves
abbrev pub ReadsCut : Option (List ℕ) → Option (List ℕ) → Opening → Type 0
ReadsCut left left_new opening = (bytes : List ℕ) × (list : OpenedList) × ReadsAll left left_new bytes × HoldsLawful bytes list × IsCutOf list opening

-- the bytes are the new log
abbrev pub HoldsCut : Option (List ℕ) → List ℕ → Type 0
HoldsCut left bytes = (list : OpenedList) × (opening : Opening) × IsSource left list × IsCutOf list opening × HoldsLog bytes (cut_log opening)

-- each image is the new log
abbrev pub AllHoldCut : Option (List ℕ) → (List ℕ → Type 0) → Type 0
AllHoldCut left images = (list : OpenedList) × (opening : Opening) × IsSource left list × IsCutOf list opening
    × ((c : List ℕ) → images c → HoldsLog c (cut_log opening))

-- what `cut` may leave at any moment: an image of before, no log, or the new log
abbrev pub MayBeCut : Option (List ℕ) → (List ℕ → Type 0) → List ℕ → Type 0
MayBeCut left images c = images c ⊎ (BeginsAsLog c → ⊥) ⊎ HoldsCut left c

-- the file reads as before, or is no longer than before or than the new log, which has 12 bytes for each account, and the gate at its tail
abbrev pub GrowsByCut : {D : Type 0} → Ghosts D → Option (List ℕ) → D → D → Type 0
GrowsByCut g left old new = (g.reads new ≡ g.reads old)
    ⊎ ((list : OpenedList) × (opening : Opening) × IsSource left list × IsCutOf list opening
    × GrowsAtMostTo g (21 + 12 * length opening.accounts) old new)

-- the answers that come before anything of the log is written
abbrev pub PrecedesCut : Detail → Type 0
PrecedesCut NoMemory = ⊤
PrecedesCut Read = ⊤
PrecedesCut NotALog = ⊤
PrecedesCut BadSnapshot = ⊤
PrecedesCut (BadBatch offset) = ⊤
PrecedesCut (BadRec lsn) = ⊤
PrecedesCut (Unlawful lsn why) = ⊤
PrecedesCut Exists = ⊤
PrecedesCut detail = ⊥

-- the answers that come once the log is whole
abbrev pub FollowsCut : Detail → Type 0
FollowsCut Fine = ⊤
FollowsCut Write = ⊤
FollowsCut detail = ⊥
