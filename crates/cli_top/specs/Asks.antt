-- What the words ask.
use Rattle.std.specs.Prelude.{ℕ, List}
use Rattle.command_line.specs.CommandLine.{IsCommandLine}
use Rattle.command_line.specs.declared.command.Command.TheVariants.{New, Run, Cut, Upgrade, Follow}
use Rattle.command_line.specs.declared.options.RunOptions.{RunOptions}
use Rattle.command_line.specs.declared.command.Command.TheVariants as command

-- the words ask `new`
abbrev pub AsksNew : List (List ℕ) → Type 0
AsksNew words = (log : List ℕ) × IsCommandLine words (New log)

-- the words ask `run`
abbrev pub AsksRun : List (List ℕ) → Type 0
AsksRun words = (log : List ℕ) × (options : RunOptions) × IsCommandLine words (Run log options)

-- the words ask `demo`
abbrev pub AsksDemo : List (List ℕ) → Type 0
AsksDemo words = (log : List ℕ) × (n seed : ℕ) × (options : RunOptions) × IsCommandLine words (command.Demo log n seed options)

-- the words ask `cut`
abbrev pub AsksCut : List (List ℕ) → Type 0
AsksCut words = (log : List ℕ) × IsCommandLine words (Cut log)

-- the words ask `upgrade`
abbrev pub AsksUpgrade : List (List ℕ) → Type 0
AsksUpgrade words = (log : List ℕ) × IsCommandLine words (Upgrade log)

-- the words ask `follow`
abbrev pub AsksFollow : List (List ℕ) → Type 0
AsksFollow words = (log : List ℕ) × IsCommandLine words (Follow log)
