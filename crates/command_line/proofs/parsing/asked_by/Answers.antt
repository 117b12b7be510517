use Rattle.std.proofs.Common.{◌≡◌, ◌∙◌, sym, ap, false, is_some}
use Rattle.clap.specs.Words.{subcommand_of}
use Rattle.command_line.specs.CommandLine.{aether_command}
use Rattle.command_line.proofs.Facts.{name_and_rows-option_map_both, option_map_both-none, named-one, named_some}
use Rattle.command_line.proofs.parsing.asked_by.Goals as goal

pub unreachable-requires : goal.unreachable-requires
unreachable-requires c =
    let none : is_some (subcommand_of aether_command c.requires.0) ≡ false =
    ap is_some (sym c.requires.2) ∙ option_map_both-none _ _ _ c.in_default.ensures.variant in
    let some = named_some c.requires.0 c.requires.1 in
    cc

pub asked-requires : goal.asked-requires
asked-requires c = named-one c.requires.0 _ _ (sym c.requires.2 ∙ name_and_rows-option_map_both _ _ _ _ _ c.in-Some.ensures.name c.in-Some.ensures.rows)

pub returns-clause-exact : goal.returns-clause-exact
returns-clause-exact c = λ words known same. c.asked.ensures.exact words known
    (sym same ∙ name_and_rows-option_map_both _ _ _ _ _ c.in-Some.ensures.name c.in-Some.ensures.rows)

pub returns-clause-taken : goal.returns-clause-taken
returns-clause-taken c = λ words known same. c.asked.ensures.taken words known
    (sym same ∙ name_and_rows-option_map_both _ _ _ _ _ c.in-Some.ensures.name c.in-Some.ensures.rows)
