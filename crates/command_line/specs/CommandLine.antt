-- The command line of the program: the command that is defined, and what words ask by it. Words have the program's name first.
use Rattle.std.specs.Prelude.{◌≡◌, ◌≢◌, ◌≤◌, ◌⊎◌, ◌↔◌, IsTrue, ℕ, codes, Option, Some, None, unwrap_or, true, List, [], ◌∷◌, Result, MatchResult}
use Rattle.clap.specs.Words.{App, Rule, Row, new_app, new_rule, with_rule, with_subcommand, fault_of, subcommand_of, first_of}
use Rattle.clap.specs.declared.builder.action.ArgAction.TheVariants.{SetTrue}
use Rattle.lsn_space.specs.Number.{number_text}
use Rattle.lsn_space.specs.declared.lsn.TheConstants.{LAST}
use Rattle.lsn_space.specs.declared.numerals.TheConstants.{MOST_GENERATED}
use Rattle.command_line.specs.Ranges.{AreInRange}
use Rattle.command_line.specs.declared.options.TheConstants.{DEFAULT_RING, DEFAULT_SLOTS, DEFAULT_WORKERS}
use Rattle.command_line.specs.declared.parsing.TheConstants.{GREATEST_ACCOUNT, GREATEST_SEED}
use Rattle.command_line.specs.declared.options.RunOptions.{RunOptions}
use Rattle.command_line.specs.declared.command.Command.{Command}
use Rattle.command_line.specs.declared.command.Command.TheVariants.{New, Run, Recover, Dump, Demo, Cut, Upgrade, Ship, Follow, AsOf, Statement}
use Rattle.command_line.specs.declared.command.Subcommand.{Subcommand}
use Rattle.command_line.specs.declared.command.Subcommand.TheVariants as subcommand
use Rattle.command_line.specs.declared.command.RefusedWords.{RefusedWords}
use Rattle.command_line.specs.declared.command.RefusedWords.TheVariants as refused

-- a value that must be given, by its place
abbrev pub required_rule : List ℕ → Rule
required_rule id = record (new_rule id) { required = true }

-- an option with a value
abbrev pub option_rule : List ℕ → Rule
option_rule id = record (new_rule id) { long = Some id }

-- an option without one
abbrev pub flag_rule : List ℕ → Rule
flag_rule id = record (new_rule id) { long = Some id; action = Some SetTrue }

-- a subcommand of this name that is given one value
abbrev pub value_command : List ℕ → List ℕ → App
value_command name value = with_rule (new_app name) (required_rule value)

unfoldable pub run_command : App
run_command = with_rule (with_rule (with_rule (with_rule (value_command (codes "run") (codes "LOG"))
    (option_rule (codes "workers"))) (option_rule (codes "ring"))) (option_rule (codes "slots"))) (flag_rule (codes "wait"))

unfoldable pub demo_command : App
demo_command = with_rule (with_rule (with_rule (with_rule (with_rule (value_command (codes "demo") (codes "LOG"))
    (required_rule (codes "N"))) (required_rule (codes "SEED"))) (option_rule (codes "workers"))) (option_rule (codes "ring")))
    (option_rule (codes "slots"))

-- in their order
abbrev pub subcommands : List App
subcommands =
    value_command (codes "new") (codes "LOG") ∷ run_command ∷ new_app (codes "recover") ∷ new_app (codes "dump") ∷ demo_command
    ∷ value_command (codes "cut") (codes "LOG") ∷ value_command (codes "upgrade") (codes "LOG")
    ∷ value_command (codes "ship") (codes "FROM") ∷ value_command (codes "follow") (codes "LOG")
    ∷ value_command (codes "asof") (codes "LSN") ∷ value_command (codes "statement") (codes "ACCOUNT") ∷ []

-- a command that has these subcommands too
abbrev pub with_subcommands : App → List App → App
with_subcommands command [] = command
with_subcommands command (one ∷ more) = with_subcommands (with_subcommand command one.top) more

-- the command without its subcommands: one of them is required, and it has no flag or subcommand for help or version
abbrev pub bare_command : App
bare_command = record (new_app (codes "aether")) {
  top = record (new_app (codes "aether")).top {
    subcommand_required = true;
    disable_help_flag = true;
    disable_help_subcommand = true;
    disable_version_flag = true;
  };
}

-- the command of the program
unfoldable pub aether_command : App
aether_command = with_subcommands bare_command subcommands

-- the command takes the words
abbrev pub AreKnown : List (List ℕ) → Type 0
AreKnown words = fault_of aether_command words ≡ []

-- the words name the subcommand of this name, with these matches
abbrev pub NamesSubcommand : List (List ℕ) → List ℕ → List Row → Type 0
NamesSubcommand words name rows = subcommand_of aether_command words ≡ Some (name, rows)

-- the name of a subcommand
abbrev pub name_of : Subcommand → List ℕ
name_of subcommand.New = codes "new"
name_of subcommand.Run = codes "run"
name_of subcommand.Recover = codes "recover"
name_of subcommand.Dump = codes "dump"
name_of subcommand.Demo = codes "demo"
name_of subcommand.Cut = codes "cut"
name_of subcommand.Upgrade = codes "upgrade"
name_of subcommand.Ship = codes "ship"
name_of subcommand.Follow = codes "follow"
name_of subcommand.AsOf = codes "asof"
name_of subcommand.Statement = codes "statement"

-- one of the subcommands has this name
abbrev pub IsSubcommand : List ℕ → Type 0
IsSubcommand name = (this : Subcommand) × (name ≡ name_of this)

-- the value of LOG, which stands first in its row
abbrev pub log_in : List Row → List ℕ
log_in rows = unwrap_or (first_of (codes "LOG") rows) []

-- the value of this argument is the text of the number, which is no greater than `most`
abbrev pub IsGiven : List Row → List ℕ → ℕ → ℕ → Type 0
IsGiven rows argument most number = (number ≤ most) × (first_of argument rows ≡ Some (number_text number))

-- the number of an option: its value is the text of the number; without a value it is the default
abbrev pub IsNumberOf : Option (List ℕ) → ℕ → ℕ → Type 0
IsNumberOf None default number = number ≡ default
IsNumberOf (Some text) default number = text ≡ number_text number

-- how to work: by the defaults where the words say nothing else
pub record AreOptions (rows : List Row) (options : RunOptions) : Type 0 where
  pub range : AreInRange options
  pub workers : IsNumberOf (first_of (codes "workers") rows) DEFAULT_WORKERS options.workers
  pub ring : IsNumberOf (first_of (codes "ring") rows) DEFAULT_RING options.ring
  pub slots : IsNumberOf (first_of (codes "slots") rows) DEFAULT_SLOTS options.slots
  pub wait : IsTrue options.wait ↔ (first_of (codes "wait") rows ≡ Some (codes "true"))

-- a number is written otherwise, or outside its range
abbrev pub HasNoOptions : List Row → Type 0
HasNoOptions rows = (options : RunOptions) → AreOptions rows options → ⊥

-- what `demo` is given besides its log
pub record IsDemo (rows : List Row) (transfers seed : ℕ) (options : RunOptions) : Type 0 where
  pub transfers_given : IsGiven rows (codes "N") MOST_GENERATED transfers
  pub seed_given : IsGiven rows (codes "SEED") GREATEST_SEED seed
  pub options_are : AreOptions rows options

-- a command with one number, which this argument gives, up to `most`
abbrev pub AsksNumber : List Row → List ℕ → ℕ → (ℕ → Command) → Command → Type 0
AsksNumber rows argument most with_number command = (number : ℕ) × IsGiven rows argument most number × (command ≡ with_number number)

-- a subcommand with these matches asks this command
abbrev pub Asks : Subcommand → List Row → Command → Type 0
Asks subcommand.New rows command = command ≡ New (log_in rows)
Asks subcommand.Run rows command = (options : RunOptions) × AreOptions rows options × (command ≡ Run (log_in rows) options)
Asks subcommand.Recover rows command = command ≡ Recover
Asks subcommand.Dump rows command = command ≡ Dump
Asks subcommand.Demo rows command = (transfers seed : ℕ) × (options : RunOptions) × IsDemo rows transfers seed options
    × (command ≡ Demo (log_in rows) transfers seed options)
Asks subcommand.Cut rows command = command ≡ Cut (log_in rows)
Asks subcommand.Upgrade rows command = command ≡ Upgrade (log_in rows)
Asks subcommand.Ship rows command = AsksNumber rows (codes "FROM") LAST Ship command
Asks subcommand.Follow rows command = command ≡ Follow (log_in rows)
Asks subcommand.AsOf rows command = AsksNumber rows (codes "LSN") LAST AsOf command
Asks subcommand.Statement rows command = AsksNumber rows (codes "ACCOUNT") GREATEST_ACCOUNT Statement command

-- it asks nothing: one of its numbers is written otherwise, or outside its range
abbrev pub AsksNothing : Subcommand → List Row → Type 0
AsksNothing this rows = (command : Command) → Asks this rows command → ⊥

-- the command takes the words, and they ask this
pub record IsCommandLine (words : List (List ℕ)) (command : Command) : Type 0 where
  pub known : AreKnown words
  pub subcommand : Subcommand
  pub rows : List Row
  pub named : NamesSubcommand words (name_of subcommand) rows
  pub asked : Asks subcommand rows command

-- the words ask something
abbrev pub AreTaken : List (List ℕ) → Type 0
AreTaken words = (command : Command) × IsCommandLine words command

-- a subcommand that takes numbers
abbrev pub HasNumbers : Subcommand → Type 0
HasNumbers this =
    (this ≡ subcommand.Run) ⊎ (this ≡ subcommand.Demo) ⊎ (this ≡ subcommand.Ship) ⊎ (this ≡ subcommand.AsOf) ⊎ (this ≡ subcommand.Statement)

-- the words name such a subcommand
abbrev pub NamesNumbers : List (List ℕ) → Type 0
NamesNumbers words = (this : Subcommand) × (rows : List Row) × HasNumbers this × NamesSubcommand words (name_of this) rows

-- the words name such a subcommand, but with numbers that it doesn't take
abbrev pub NamesBadNumbers : List (List ℕ) → Type 0
NamesBadNumbers words =
    (this : Subcommand) × (rows : List Row) × HasNumbers this × NamesSubcommand words (name_of this) rows × AsksNothing this rows

-- what is answered for a subcommand with these matches: what it asks, want of memory, or that it asks nothing
abbrev pub Answers : Subcommand → List Row → Result Command RefusedWords → Type 0
Answers this rows result =
    MatchResult result (Asks this rows) (λ fault. (fault ≡ refused.NoMemory) ⊎ ((fault ≡ refused.Usage) × AsksNothing this rows))

-- why the command doesn't take words; want of memory says nothing of them
abbrev pub IsMismatchOf : List (List ℕ) → RefusedWords → Type 0
IsMismatchOf words refused.Usage = fault_of aether_command words ≢ []
IsMismatchOf words refused.NoMemory = Unit {0}

-- why words are refused; want of memory says nothing of them
abbrev pub IsRefusalOf : List (List ℕ) → RefusedWords → Type 0
IsRefusalOf words refused.Usage = AreTaken words → ⊥
IsRefusalOf words refused.NoMemory = Unit {0}
