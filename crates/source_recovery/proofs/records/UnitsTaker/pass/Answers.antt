use Rattle.std.proofs.Common.{arith}
use Rattle.source_recovery.proofs.TakerLemmas.{dropped-EndsWith, ends_with-trans, left_behind_bad-StandsAt}
use Rattle.source_recovery.proofs.records.UnitsTaker.pass.Goals as goal

pub read_on-rest-requires-clause-stands : goal.read_on-rest-requires-clause-stands
read_on-rest-requires-clause-stands g c = let to = c.requires.taken in (to.0, to.1, to.2, c.in_ok-taken.ensures.passed.1 to.0 to.1 to.2 to.3)

pub returns-then-rest-least-clause-passed : goal.returns-then-rest-least-clause-passed
returns-then-rest-least-clause-passed g c = (
  ends_with-trans c.args.units.now c.in_ok-taken.taken.now c.read_on-rest.result.now c.in_ok-taken.ensures.passed.0
      c.read_on-rest.ensures.ends,
  λ asked opening all to. c.read_on-rest.ensures.stands asked opening all (c.in_ok-taken.ensures.passed.1 asked opening all to),
)

pub place_of-self-requires-clause-fits : goal.place_of-self-requires-clause-fits
place_of-self-requires-clause-fits g c =
    let to = c.requires.taken in
    let stands = c.read_on-rest.ensures.stands to.0 to.1 to.2 (c.in_ok-taken.ensures.passed.1 to.0 to.1 to.2 to.3) in
    omega (arith, stands.place, stands.fits)

pub returns-clause-passed : goal.returns-clause-passed
returns-clause-passed g c =
    let units = c.args.units.now in let rest = c.read_on-rest.result.now in let end = c.split_at.result.1.now in (
      dropped-EndsWith units rest end _
          (ends_with-trans units c.in_ok-taken.taken.now rest c.in_ok-taken.ensures.passed.0 c.read_on-rest.ensures.ends)
          c.split_at.ensures.back,
      λ asked opening all to.
          left_behind_bad-StandsAt (g.T.TakesAsked.has_taken asked) c.args.least opening all rest end c.read_on-rest.new.self
          c.place_of-self.result c.read_on-rest.ensures.few c.if-rest-least.false c.place_of-self.ensures
          (c.read_on-rest.ensures.stands asked opening all (c.in_ok-taken.ensures.passed.1 asked opening all to)),
    )
