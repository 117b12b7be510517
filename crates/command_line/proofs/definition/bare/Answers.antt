use Rattle.std.proofs.Common.{◌∙◌, ap, true}
use Rattle.clap.specs.Words.{App}
use Rattle.clap.specs.Simple.{app_of_fields}
use Rattle.command_line.proofs.definition.bare.Goals as goal

pub returns : goal.returns
returns c =
    let needs = ap app_of_fields c.subcommand_required.ensures ∙ ap (λ (a : App). record a { top = record a.top { subcommand_required = true } }) c.new.ensures.app in
    let flag = ap app_of_fields c.disable_help_flag.ensures ∙ ap (λ (a : App). record a { top = record a.top { disable_help_flag = true } }) needs in
    let help = ap app_of_fields c.disable_help_subcommand.ensures ∙ ap (λ (a : App). record a { top = record a.top { disable_help_subcommand = true } }) flag in
    ap app_of_fields c.disable_version_flag.ensures ∙ ap (λ (a : App). record a { top = record a.top { disable_version_flag = true } }) help
