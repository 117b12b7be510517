-- What a call of the program comes to, by its words: what the command that they ask promises, or nothing. `g`, `h` and `i` are what the
-- disk, the input and the output show; `old` and `new` are the three of them before and after. The fields are the clauses of the commands.
use Rattle.std.specs.Prelude.{◌≡◌, ◌⊎◌, ℕ, List}
use Rattle.command_line.specs.CommandLine.{IsCommandLine, AreTaken}
use Rattle.command_line.specs.declared.command.Command.{Command}
use Rattle.command_line.specs.declared.command.Command.TheVariants.{New, Run, Recover, Dump, Demo, Cut, Upgrade, Ship, Follow, AsOf, Statement}
use Rattle.command_line.specs.declared.options.RunOptions.{RunOptions}
use Rattle.log_disk.specs.declared.disk.LogDisk.{Ghosts}
use Rattle.log_disk.specs.declared.source.Source.{Ghosts as SourceGhosts}
use Rattle.log_disk.specs.declared.sink.Sink.{Ghosts as SinkGhosts}
use Rattle.cli_shared.specs.declared.report.Detail.{Detail}
use Rattle.cli_shared.specs.declared.report.Detail.TheVariants.{NoMemory, Usage}
use Rattle.cli_shared.specs.World.{TellsFaults, World}
use Rattle.cli_new.specs.Command.{DoesNew}
use Rattle.cli_cut.specs.Command.{DoesCut, DoesUpgrade}
use Rattle.cli_standby.specs.Command.{DoesFollow}
use Rattle.cli_run.specs.Command.{DoesRun}
use Rattle.cli_demo.specs.Command.{HasDemonstrated}
use Rattle.cli_dispatch.specs.Reports.{DoesAsOf, DoesDump, DoesRecover, DoesShip, DoesStatement}

-- `demo` reads nothing
pub record DoesDemo {D S K : Type 0} (g : Ghosts D) (i : SinkGhosts K) (log : List ℕ) (n seed : ℕ) (options : RunOptions)
    (old new : World D S K) (detail : Detail) : Type 0 where
  pub demonstrated : HasDemonstrated g i log n seed options old.disk new.disk old.out new.out detail
  pub unread : new.input ≡ old.input

-- the command did what it promises
abbrev pub Does : {D S K : Type 0} → Ghosts D → SourceGhosts S → SinkGhosts K → Command → World D S K → World D S K → Detail → Type 0
Does g h i (New log) old new detail = DoesNew g h i log old new detail
Does g h i (Run log options) old new detail = DoesRun g h i log options old new detail
Does g h i Recover old new detail = DoesRecover h i old new detail
Does g h i Dump old new detail = DoesDump h i old new detail
Does g h i (Demo log n seed options) old new detail = DoesDemo g i log n seed options old new detail
Does g h i (Cut log) old new detail = DoesCut g h i log old new detail
Does g h i (Upgrade log) old new detail = DoesUpgrade g h i log old new detail
Does g h i (Ship from) old new detail = DoesShip h i from old new detail
Does g h i (Follow log) old new detail = DoesFollow g h i log old new detail
Does g h i (AsOf lsn) old new detail = DoesAsOf h i lsn old new detail
Does g h i (Statement account) old new detail = DoesStatement h i account old new detail

-- the command did what it promises, and told of faults
pub record Obeys {D S K : Type 0} (g : Ghosts D) (h : SourceGhosts S) (i : SinkGhosts K) (command : Command) (old new : World D S K)
    (detail : Detail) : Type 0 where
  pub faults : TellsFaults g h i old new detail
  pub done : Does g h i command old new detail

-- the words ask this command, and it was obeyed
pub record HasObeyed {D S K : Type 0} (g : Ghosts D) (h : SourceGhosts S) (i : SinkGhosts K) (words : List (List ℕ)) (old new : World D S K)
    (detail : Detail) : Type 0 where
  pub command : Command
  pub asked : IsCommandLine words command
  pub obeys : Obeys g h i command old new detail

-- a command was asked and obeyed; or the words ask none; or there was no memory to read them
abbrev pub Answered : {D S K : Type 0} → Ghosts D → SourceGhosts S → SinkGhosts K → List (List ℕ) → World D S K → World D S K
    → Detail → Type 0
Answered g h i words old new detail = HasObeyed g h i words old new detail
    ⊎ ((detail ≡ Usage) × (AreTaken words → ⊥) × (new ≡ old)) ⊎ ((detail ≡ NoMemory) × (new ≡ old))
