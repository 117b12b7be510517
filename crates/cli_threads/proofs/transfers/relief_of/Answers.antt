use Rattle.std.proofs.Common.{rules}
use Rattle.cli_threads.proofs.BegunLemmas.{may_turn-begun}
use Rattle.cli_threads.proofs.transfers.relief_of.Goals as goal

pub returns-clause-ready : goal.returns-clause-ready
returns-clause-ready g c = may_turn-begun g.D.LogDisk g.K.Sink c.make.result c.args.table.now c.requires.seat.0 c.args.seat c.args.tail c.args.outside.disk.now
    c.requires.seat.1 (search rules) (search rules) (search rules) (search rules) (search rules) c.requires.log.shut c.requires.log.next c.requires.log.place
    c.make.ensures.fine (c.make.ensures.done, c.make.ensures.refused) c.make.ensures.told
