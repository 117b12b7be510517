use Rattle.std.proofs.Common.{◌+◌, ◌∙◌, ap}
use Rattle.ledger_view.proofs.ViewLemmas.{views-genesis_record}
use Rattle.ledger_view.proofs.view.View.add_genesis.Goals as goal

pub returns-in-Ok : goal.returns-in-Ok
returns-in-Ok c = λ opening h viewed.
    views-genesis_record opening c.args.self.now c.args.lsn c.take.new.self h viewed c.args.rec.now c.args.account c.args.balance c.new.result c.push.new.self
    c.requires.is (c.new.ensures ∙ ap (λ n. n + 2) c.units.ensures) c.in-Ok.ensures c.requires.can (c.in_ok-take.ensures.taken opening h viewed.judged)
