use Rattle.source_recovery.proofs.TakerLemmas.{read_further-StandsAt, read_to_bad-StandsAt}
use Rattle.source_recovery.proofs.records.UnitsTaker.read_on.Goals as goal

pub returns-then-rest-least-clause-stands : goal.returns-then-rest-least-clause-stands
returns-then-rest-least-clause-stands g c = λ asked opening all stands.
    read_to_bad-StandsAt (g.T.TakesAsked.has_taken asked) c.args.least opening all c.args.units.now c.read_records-rest.result.now c.args.self.now
    c.in-Failed.lsn c.in-Failed.why c.place_of-self.result c.in-Failed.is stands c.read_records-rest.ensures.front c.place_of-self.ensures
    c.requires.some c.if-rest-least.true (c.read_records-rest.ensures.bad c.if-rest-least.true)

pub returns-else-rest-least-clause-stands : goal.returns-else-rest-least-clause-stands
returns-else-rest-least-clause-stands g c = λ asked opening all stands.
    read_further-StandsAt (g.T.TakesAsked.has_taken asked) c.args.least opening all c.args.units.now c.read_records-rest.result.now
    c.args.self.now c.in-Failed.lsn c.in-Failed.why c.place_of-self.result c.in-Failed.is stands
    c.read_records-rest.ensures.front c.place_of-self.ensures
