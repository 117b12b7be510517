-- The list of a new log, and whether a log is there.
use Rattle.std.specs.Prelude.{ℕ, ◌+◌, List, [], ◌∷◌}
use Rattle.log_record.specs.declared.rec.Rec.{Rec}
use Rattle.log_record.specs.declared.rec.Rec.TheVariants.{Genesis}
use Rattle.log_recovery.specs.Opened.{OpenedList, whole_list}
use Rattle.cli_shared.specs.declared.report.Detail.{Detail}
use Rattle.cli_shared.specs.declared.report.Detail.TheVariants.{NoMemory, Disk, Exists}

-- a Genesis for each balance, the first for this account
abbrev pub genesis_from : ℕ → List ℕ → List Rec
genesis_from account [] = []
genesis_from account (balance ∷ balances) = Genesis account balance ∷ genesis_from (account + 1) balances

-- the records of a new log: the accounts from 0 on
abbrev pub genesis_list : List ℕ → List Rec
genesis_list balances = genesis_from 0 balances

-- its list: these records, and nothing before them
abbrev pub new_list : List ℕ → OpenedList
new_list balances = whole_list (genesis_list balances)

-- Exists is answered where the first gate is open and nowhere else; want of memory and a fault of the disk may come before it
abbrev pub TellsWhether : Type 0 → Detail → Type 0
TellsWhether opened Exists = opened
TellsWhether opened NoMemory = Unit {0}
TellsWhether opened Disk = Unit {0}
TellsWhether opened detail = opened → ⊥

-- why it isn't found that no log is there
abbrev pub IsFindingFault : Detail → Type 0
IsFindingFault Disk = Unit {0}
IsFindingFault Exists = Unit {0}
IsFindingFault detail = ⊥
