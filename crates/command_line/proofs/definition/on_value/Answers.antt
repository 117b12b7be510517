use Rattle.command_line.proofs.definition.on_value.Goals as goal

pub returns : goal.returns
returns c = c.and_arg.ensures _ _ (c.new.ensures.app, c.new.ensures.local) c.required.ensures.rule c.required.ensures.local
