-- What `new` leaves: the log of the accounts' opening balances. `left` is what the input holds at first, where it tells that.
use Rattle.std.specs.Prelude.{◌≡◌, ◌⊎◌, ℕ, ◌+◌, ◌*◌, List, length, Option, IfSome}
use Rattle.log_disk.specs.Lengths.{GrowsAtMostTo}
use Rattle.log_disk.specs.declared.disk.LogDisk.{Ghosts}
use Rattle.log_recovery.specs.Recovery.{HoldsLawful}
use Rattle.segment_file.specs.File.{BeginsAsLog}
use Rattle.segment_file.specs.Lengths.{new_end}
use Rattle.txn_script.specs.Balances.{IsBalancesText}
use Rattle.cli_shared.specs.declared.report.Detail.{Detail}
use Rattle.cli_shared.specs.declared.report.Detail.TheVariants.{Fine, NoMemory, Script, Read, Write, Exists}
use Rattle.cli_shared.specs.Creation.{new_list}

-- the input is the text of these balances; one that tells nothing may be that of any balances
abbrev pub IsInput : Option (List ℕ) → List ℕ → Type 0
IsInput left balances = IfSome left (λ bytes. IsBalancesText bytes balances)

-- the bytes are the new log
abbrev pub HoldsNew : Option (List ℕ) → List ℕ → Type 0
HoldsNew left bytes = (balances : List ℕ) × IsInput left balances × HoldsLawful bytes (new_list balances)

-- each image is the new log
abbrev pub AllHoldNew : Option (List ℕ) → (List ℕ → Type 0) → Type 0
AllHoldNew left images = (balances : List ℕ) × IsInput left balances × ((c : List ℕ) → images c → HoldsLawful c (new_list balances))

-- what `new` may leave at any moment: an image of before, no log, or the new log
abbrev pub MayBeLeft : Option (List ℕ) → (List ℕ → Type 0) → List ℕ → Type 0
MayBeLeft left images c = images c ⊎ (BeginsAsLog c → ⊥) ⊎ HoldsNew left c

-- The file reads as before, or is no longer than before or than the new log, which has two units for each account, and the gate at its tail.
abbrev pub GrowsByNew : {D : Type 0} → Ghosts D → Option (List ℕ) → D → D → Type 0
GrowsByNew g left old new = (g.reads new ≡ g.reads old)
    ⊎ ((balances : List ℕ) × IsInput left balances × GrowsAtMostTo g (new_end (2 * length balances) + 1) old new)

-- the answers that come before anything of the log is written
abbrev pub PrecedesLog : Detail → Type 0
PrecedesLog NoMemory = Unit {0}
PrecedesLog (Script line) = Unit {0}
PrecedesLog Read = Unit {0}
PrecedesLog Exists = Unit {0}
PrecedesLog detail = ⊥

-- the answers that come once the log is whole
abbrev pub FollowsLog : Detail → Type 0
FollowsLog Fine = Unit {0}
FollowsLog Write = Unit {0}
FollowsLog detail = ⊥
