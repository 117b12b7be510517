use Rattle.cli_dispatch.specs.Alone.{command_of}
use Rattle.cli_shared.specs.World.{world}
use Rattle.cli_top.proofs.AnsweredLemmas.{answered-alone, Obeys-answered}
use Rattle.cli_top.proofs.top.answer.Goals as goal

pub returns-in-Done : goal.returns-in-Done
returns-in-Done g c = answered-alone g.D.LogDisk g.S.Source g.K.Sink c.args.words.now
    (world c.args.disk.now c.args.script.now c.args.out.now)
    (world c.answer_alone.new.disk c.answer_alone.new.input c.answer_alone.new.out) c.in-Done.detail c.in-Done.ensures

pub returns-in-Asked : goal.returns-in-Asked
returns-in-Asked g c = Obeys-answered g.D.LogDisk g.S.Source g.K.Sink c.args.words.now
    (world c.args.disk.now c.args.script.now c.args.out.now)
    (world c.answer_alone.new.disk c.answer_alone.new.input c.answer_alone.new.out)
    (world c.obey.new.disk c.obey.new.script c.obey.new.out)
    c.obey.result (command_of c.in-Asked.asked) c.in-Asked.ensures.0 c.in-Asked.ensures.1 c.obey.ensures
