-- The options of `run` and `demo` that words ask are in their ranges.
use Rattle.std.proofs.Common.{◌≡◌, ℕ, List, subst, sym}
use Rattle.clap.specs.Words.{Row}
use Rattle.command_line.specs.CommandLine.{Asks, IsCommandLine}
use Rattle.command_line.specs.Ranges.{AreInRange}
use Rattle.command_line.specs.declared.command.Command.TheVariants.{Run, Demo}
use Rattle.command_line.specs.declared.command.Subcommand.{Subcommand}
use Rattle.command_line.specs.declared.command.Subcommand.TheVariants as subcommand
use Rattle.command_line.specs.declared.options.RunOptions.{RunOptions}

asks-run : (this : Subcommand) (rows : List Row) (log : List ℕ) (options : RunOptions) → Asks this rows (Run log options) → AreInRange options
asks-run subcommand.Run rows log options asked =
    let same = asked.2 in let one : options ≡ asked.0 = cc in subst AreInRange (sym one) asked.1.range
asks-run subcommand.New rows log options asked = let other = asked in cc
asks-run subcommand.Recover rows log options asked = let other = asked in cc
asks-run subcommand.Dump rows log options asked = let other = asked in cc
asks-run subcommand.Demo rows log options asked = let other = asked.4 in cc
asks-run subcommand.Cut rows log options asked = let other = asked in cc
asks-run subcommand.Upgrade rows log options asked = let other = asked in cc
asks-run subcommand.Ship rows log options asked = let other = asked.2 in cc
asks-run subcommand.Follow rows log options asked = let other = asked in cc
asks-run subcommand.AsOf rows log options asked = let other = asked.2 in cc
asks-run subcommand.Statement rows log options asked = let other = asked.2 in cc

asks-demo : (this : Subcommand) (rows : List Row) (log : List ℕ) (n seed : ℕ) (options : RunOptions) → Asks this rows (Demo log n seed options)
    → AreInRange options
asks-demo subcommand.Demo rows log n seed options asked =
    let same = asked.4 in let one : options ≡ asked.2 = cc in subst AreInRange (sym one) asked.3.options_are.range
asks-demo subcommand.New rows log n seed options asked = let other = asked in cc
asks-demo subcommand.Run rows log n seed options asked = let other = asked.2 in cc
asks-demo subcommand.Recover rows log n seed options asked = let other = asked in cc
asks-demo subcommand.Dump rows log n seed options asked = let other = asked in cc
asks-demo subcommand.Cut rows log n seed options asked = let other = asked in cc
asks-demo subcommand.Upgrade rows log n seed options asked = let other = asked in cc
asks-demo subcommand.Ship rows log n seed options asked = let other = asked.2 in cc
asks-demo subcommand.Follow rows log n seed options asked = let other = asked in cc
asks-demo subcommand.AsOf rows log n seed options asked = let other = asked.2 in cc
asks-demo subcommand.Statement rows log n seed options asked = let other = asked.2 in cc

pub run_options-in_range : (words : List (List ℕ)) (log : List ℕ) (options : RunOptions) → IsCommandLine words (Run log options) → AreInRange options
run_options-in_range words log options asked = asks-run asked.subcommand asked.rows log options asked.asked

pub demo_options-in_range : (words : List (List ℕ)) (log : List ℕ) (n seed : ℕ) (options : RunOptions) → IsCommandLine words (Demo log n seed options)
    → AreInRange options
demo_options-in_range words log n seed options asked = asks-demo asked.subcommand asked.rows log n seed options asked.asked
