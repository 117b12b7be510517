use Rattle.command_line.specs.CommandLine.{run_command}
use Rattle.command_line.proofs.definition.run.Goals as goal

pub returns : goal.returns
unfolding run_command
returns c =
    let workers = c.and_arg-command.ensures _ _ c.on_value-command.ensures c.option.ensures.rule c.option.ensures.local in
    let ring = c.and_arg-command-2.ensures _ _ workers c.option-2.ensures.rule c.option-2.ensures.local in
    let slots = c.and_arg-command-3.ensures _ _ ring c.option-3.ensures.rule c.option-3.ensures.local in
    c.and_arg.ensures _ _ slots c.flag.ensures.rule c.flag.ensures.local
