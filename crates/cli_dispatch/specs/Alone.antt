-- What comes of the words where no workers are needed.
use Rattle.std.specs.Prelude.{◌≡◌, ◌⊎◌, ℕ, List}
use Rattle.command_line.specs.CommandLine.{IsCommandLine, AreTaken}
use Rattle.command_line.specs.declared.command.Command.{Command}
use Rattle.command_line.specs.declared.command.Command.TheVariants.{New, Run, Recover, Dump, Demo, Cut, Upgrade, Ship, Follow, AsOf, Statement}
use Rattle.log_disk.specs.declared.disk.LogDisk.{Ghosts}
use Rattle.log_disk.specs.declared.source.Source.{Ghosts as SourceGhosts}
use Rattle.log_disk.specs.declared.sink.Sink.{Ghosts as SinkGhosts}
use Rattle.cli_shared.specs.declared.report.Detail.{Detail}
use Rattle.cli_shared.specs.declared.report.Detail.TheVariants.{NoMemory, Usage}
use Rattle.cli_dispatch.specs.declared.answer.Answer.{Answer}
use Rattle.cli_dispatch.specs.declared.answer.Answer.TheVariants.{Done, Asked}
use Rattle.cli_dispatch.specs.declared.answer.WithWorkers.{WithWorkers}
use Rattle.cli_dispatch.specs.declared.answer.WithWorkers.TheVariants as with_workers
use Rattle.cli_shared.specs.World.{TellsFaults, World}
use Rattle.cli_new.specs.Command.{DoesNew}
use Rattle.cli_cut.specs.Command.{DoesCut, DoesUpgrade}
use Rattle.cli_standby.specs.Command.{DoesFollow}
use Rattle.cli_dispatch.specs.Reports.{DoesAsOf, DoesDump, DoesRecover, DoesShip, DoesStatement}

-- the command is one that needs no workers, and did what it promises
abbrev pub DoesAlone : {D S K : Type 0} → Ghosts D → SourceGhosts S → SinkGhosts K → Command → World D S K → World D S K → Detail → Type 0
DoesAlone g h i (New log) old new detail = DoesNew g h i log old new detail
DoesAlone g h i (Run log options) old new detail = ⊥
DoesAlone g h i Recover old new detail = DoesRecover h i old new detail
DoesAlone g h i Dump old new detail = DoesDump h i old new detail
DoesAlone g h i (Demo log n seed options) old new detail = ⊥
DoesAlone g h i (Cut log) old new detail = DoesCut g h i log old new detail
DoesAlone g h i (Upgrade log) old new detail = DoesUpgrade g h i log old new detail
DoesAlone g h i (Ship from) old new detail = DoesShip h i from old new detail
DoesAlone g h i (Follow log) old new detail = DoesFollow g h i log old new detail
DoesAlone g h i (AsOf lsn) old new detail = DoesAsOf h i lsn old new detail
DoesAlone g h i (Statement account) old new detail = DoesStatement h i account old new detail

-- it did so, and told of faults
pub record ObeysAlone {D S K : Type 0} (g : Ghosts D) (h : SourceGhosts S) (i : SinkGhosts K) (command : Command) (old new : World D S K)
    (detail : Detail) : Type 0 where
  pub done : DoesAlone g h i command old new detail
  pub faults : TellsFaults g h i old new detail

-- the words ask such a command, and it was obeyed
pub record HasObeyedAlone {D S K : Type 0} (g : Ghosts D) (h : SourceGhosts S) (i : SinkGhosts K) (words : List (List ℕ)) (old new : World D S K)
    (detail : Detail) : Type 0 where
  pub command : Command
  pub asked : IsCommandLine words command
  pub obeys : ObeysAlone g h i command old new detail

-- the command that is asked
abbrev pub command_of : WithWorkers → Command
command_of (with_workers.Run log options) = Run log options
command_of (with_workers.Demo log n seed options) = Demo log n seed options

-- a command was asked and obeyed; or the words ask none; or there was no memory to read them; or they ask a command that needs workers
abbrev pub AnsweredAlone : {D S K : Type 0} → Ghosts D → SourceGhosts S → SinkGhosts K → List (List ℕ) → World D S K → World D S K → Answer → Type 0
AnsweredAlone g h i words old new (Done detail) = HasObeyedAlone g h i words old new detail
    ⊎ ((detail ≡ Usage) × (AreTaken words → ⊥) × (new ≡ old)) ⊎ ((detail ≡ NoMemory) × (new ≡ old))
AnsweredAlone g h i words old new (Asked asked) = IsCommandLine words (command_of asked) × (new ≡ old)
