-- What the program promises of each command: what the command does, and that it is done where it finds what it needs and answers no fault.
-- `g`, `h` and `i` are what the disk, the input and the output show; `old` and `new` are the three of them before and after.
use Rattle.std.specs.Prelude.{◌≡◌, ◌≤◌, ◌<◌, ◌+◌, ◌⊎◌, ℕ, List, length, Option, Some, None}
use Rattle.std.specs.Bool.{⊤}
use Rattle.command_line.specs.declared.options.RunOptions.{RunOptions}
use Rattle.lock_core.specs.declared.job.Job.{Job}
use Rattle.log_disk.specs.declared.disk.LogDisk.{Ghosts}
use Rattle.log_disk.specs.declared.source.Source.{Ghosts as SourceGhosts}
use Rattle.log_disk.specs.declared.sink.Sink.{Ghosts as SinkGhosts}
use Rattle.log_record.specs.declared.limits.TheConstants.{LAST_TXN}
use Rattle.log_recovery.specs.Opened.{OpenedList, IsListBoundary, base_in}
use Rattle.log_recovery.specs.Recovery.{HoldsLawful, HoldsList}
use Rattle.segment_file.specs.File.{BeginsOpen}
use Rattle.txn_script.specs.Balances.{IsBalancesText}
use Rattle.txn_script.specs.Script.{IsScriptText}
use Rattle.cli_shared.specs.declared.report.Detail.{Detail}
use Rattle.cli_shared.specs.declared.report.Detail.TheVariants.{Fine, NoMemory, Read, Write, Disk}
use Rattle.cli_shared.specs.World.{World}
use Rattle.cli_new.specs.Command.{DoesNew}
use Rattle.cli_cut.specs.Command.{DoesCut, DoesUpgrade}
use Rattle.cli_standby.specs.Command.{DoesFollow}
use Rattle.cli_standby.specs.Following.{IsFollowDone, IsLawfulStream}
use Rattle.cli_run.specs.Command.{DoesRun}
use Rattle.cli_run.specs.RunAnswers.{IsRunDone, accounts_of, next_txn}
use Rattle.cli_dispatch.specs.Reports.{DoesAsOf, DoesDump, DoesRecover, DoesShip, DoesStatement}
use Rattle.cli_top.specs.Answered.{DoesDemo}

-- no fault of the disk, the input or the output is answered, so none was counted
abbrev pub IsFaultless : Detail → Type 0
IsFaultless Read = ⊥
IsFaultless Write = ⊥
IsFaultless Disk = ⊥
IsFaultless detail = ⊤

-- all was done, or memory was wanting
abbrev pub IsDone : Detail → Type 0
IsDone detail = (detail ≡ Fine) ⊎ (detail ≡ NoMemory)

-- The command did what it promises. Where it finds what it needs, and answers no fault, it is done.
pub record Fulfils (Does Finds : Type 0) (IsDone : Detail → Type 0) (detail : Detail) : Type 0 where
  pub does : Does
  pub complete : Finds → IsFaultless detail → IsDone detail

-- the input tells its bytes, and of these this holds
abbrev pub Shows : Option (List ℕ) → (List ℕ → Type 0) → Type 0
Shows (Some bytes) Holds = Holds bytes
Shows None Holds = ⊥

-- the input holds a list of which this holds
abbrev pub ShowsList : Option (List ℕ) → (List ℕ → OpenedList → Type 0) → Type 0
ShowsList left Holds = Shows left (λ bytes. (list : OpenedList) × Holds bytes list)

-- an honest disk without a log
abbrev pub HasNoLog : {D : Type 0} → Ghosts D → D → Type 0
HasNoLog g disk = g.honest disk × (BeginsOpen (g.reads disk) → ⊥)

-- the input holds a lawful list with this boundary
abbrev pub ShowsBoundary : ℕ → Option (List ℕ) → Type 0
ShowsBoundary lsn left = ShowsList left (λ bytes list. HoldsLawful bytes list × IsListBoundary list lsn)

-- the honest disk holds a lawful list, and the input is a script for it whose transfers have numbers
abbrev pub FindsScript : {D : Type 0} → Ghosts D → D → Option (List ℕ) → Type 0
FindsScript g disk left = g.honest disk × ShowsList left (λ bytes list. HoldsLawful (g.reads disk) list
    × (jobs : List Job) × IsScriptText (accounts_of list) bytes jobs × (next_txn list + length jobs ≤ LAST_TXN))

-- the honest disk holds a lawful list, and the input is a stream with which it stays lawful
abbrev pub FindsStream : {D : Type 0} → Ghosts D → D → Option (List ℕ) → Type 0
FindsStream g disk left = g.honest disk × ShowsList left (λ bytes list. HoldsLawful (g.reads disk) list × IsLawfulStream bytes list)

abbrev pub FulfilsRecover : {D S K : Type 0} → SourceGhosts S → SinkGhosts K → World D S K → World D S K → Detail → Type 0
FulfilsRecover h i old new detail = Fulfils (DoesRecover h i old new detail)
    (ShowsList (h.left old.input) HoldsLawful) IsDone detail

abbrev pub FulfilsDump : {D S K : Type 0} → SourceGhosts S → SinkGhosts K → World D S K → World D S K → Detail → Type 0
FulfilsDump h i old new detail = Fulfils (DoesDump h i old new detail) (ShowsList (h.left old.input) HoldsList) IsDone detail

abbrev pub FulfilsNew : {D S K : Type 0} → Ghosts D → SourceGhosts S → SinkGhosts K → List ℕ → World D S K → World D S K
    → Detail → Type 0
FulfilsNew g h i log old new detail = Fulfils (DoesNew g h i log old new detail)
    (HasNoLog g old.disk × Shows (h.left old.input) (λ bytes. (balances : List ℕ) × IsBalancesText bytes balances)) IsDone detail

abbrev pub FulfilsRun : {D S K : Type 0} → Ghosts D → SourceGhosts S → SinkGhosts K → List ℕ → RunOptions → World D S K → World D S K
    → Detail → Type 0
FulfilsRun g h i log options old new detail = Fulfils (DoesRun g h i log options old new detail)
    (FindsScript g old.disk (h.left old.input)) IsRunDone detail

abbrev pub FulfilsDemo : {D S K : Type 0} → Ghosts D → SinkGhosts K → List ℕ → ℕ → ℕ → RunOptions → World D S K → World D S K
    → Detail → Type 0
FulfilsDemo g i log n seed options old new detail = Fulfils (DoesDemo g i log n seed options old new detail)
    (HasNoLog g old.disk) IsDone detail

abbrev pub FulfilsCut : {D S K : Type 0} → Ghosts D → SourceGhosts S → SinkGhosts K → List ℕ → World D S K → World D S K
    → Detail → Type 0
FulfilsCut g h i log old new detail = Fulfils (DoesCut g h i log old new detail)
    (HasNoLog g old.disk × ShowsList (h.left old.input) HoldsLawful) IsDone detail

abbrev pub FulfilsUpgrade : {D S K : Type 0} → Ghosts D → SourceGhosts S → SinkGhosts K → List ℕ → World D S K → World D S K
    → Detail → Type 0
FulfilsUpgrade g h i log old new detail = Fulfils (DoesUpgrade g h i log old new detail)
    (HasNoLog g old.disk × ShowsList (h.left old.input) HoldsLawful) IsDone detail

abbrev pub FulfilsShip : {D S K : Type 0} → SourceGhosts S → SinkGhosts K → ℕ → World D S K → World D S K → Detail → Type 0
FulfilsShip h i from old new detail = Fulfils (DoesShip h i from old new detail)
    (ShowsBoundary from (h.left old.input)) IsDone detail

abbrev pub FulfilsAsOf : {D S K : Type 0} → SourceGhosts S → SinkGhosts K → ℕ → World D S K → World D S K → Detail → Type 0
FulfilsAsOf h i lsn old new detail = Fulfils (DoesAsOf h i lsn old new detail)
    (ShowsBoundary lsn (h.left old.input)) IsDone detail

abbrev pub FulfilsStatement : {D S K : Type 0} → SourceGhosts S → SinkGhosts K → ℕ → World D S K → World D S K → Detail → Type 0
FulfilsStatement h i account old new detail = Fulfils (DoesStatement h i account old new detail)
    (ShowsList (h.left old.input) (λ bytes list. HoldsLawful bytes list × (account < (base_in list).accounts))) IsDone detail

abbrev pub FulfilsFollow : {D S K : Type 0} → Ghosts D → SourceGhosts S → SinkGhosts K → List ℕ → World D S K → World D S K
    → Detail → Type 0
FulfilsFollow g h i log old new detail = Fulfils (DoesFollow g h i log old new detail)
    (FindsStream g old.disk (h.left old.input)) IsFollowDone detail
