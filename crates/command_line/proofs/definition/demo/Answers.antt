use Rattle.std.proofs.Common.{◌≡◌, codes}
use Rattle.clap.specs.Words.{rule_of}
use Rattle.command_line.specs.CommandLine.{demo_command, required_rule}
use Rattle.command_line.proofs.definition.demo.Goals as goal

pub returns : goal.returns
unfolding demo_command
returns c =
    let n : rule_of c.required.result ≡ required_rule (codes "N") = c.required.ensures.rule in
    let last : rule_of c.required-2.result ≡ required_rule (codes "SEED") = c.required-2.ensures.rule in
    let transfers = c.and_arg-command.ensures _ _ c.on_value-command.ensures n c.required.ensures.local in
    let seed = c.and_arg-command-2.ensures _ _ transfers last c.required-2.ensures.local in
    let workers = c.and_arg-command-3.ensures _ _ seed c.option.ensures.rule c.option.ensures.local in
    let ring = c.and_arg-command-4.ensures _ _ workers c.option-2.ensures.rule c.option-2.ensures.local in
    c.and_arg.ensures _ _ ring c.option-3.ensures.rule c.option-3.ensures.local
