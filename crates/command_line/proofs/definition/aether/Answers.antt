use Rattle.command_line.specs.CommandLine.{aether_command}
use Rattle.command_line.proofs.definition.aether.Goals as goal

pub returns : goal.returns
unfolding aether_command
returns c =
    let new = c.and_subcommand-command.ensures _ _ c.bare.ensures c.on_value.ensures in
    let run = c.and_subcommand-command-2.ensures _ _ new c.run.ensures in
    let recover = c.and_subcommand-command-3.ensures _ _ run (c.new.ensures.app, c.new.ensures.local) in
    let dump = c.and_subcommand-command-4.ensures _ _ recover (c.new-2.ensures.app, c.new-2.ensures.local) in
    let demo = c.and_subcommand-command-5.ensures _ _ dump c.demo.ensures in
    let cut = c.and_subcommand-command-6.ensures _ _ demo c.on_value-2.ensures in
    let upgrade = c.and_subcommand-command-7.ensures _ _ cut c.on_value-3.ensures in
    let ship = c.and_subcommand-command-8.ensures _ _ upgrade c.on_value-4.ensures in
    let follow = c.and_subcommand-command-9.ensures _ _ ship c.on_value-5.ensures in
    let asof = c.and_subcommand-command-10.ensures _ _ follow c.on_value-6.ensures in
    c.and_subcommand.ensures _ _ asof c.on_value-7.ensures
