use Rattle.std.proofs.Common.{ℕ, List, subst}
use Rattle.source_recovery.specs.Taker.{StandsAt}
use Rattle.source_recovery.proofs.TakerLemmas.{below_one-empty}
use Rattle.source_recovery.proofs.records.UnitsTaker.finish.Goals as goal

pub returns-in-Ok-clause-taken : goal.returns-in-Ok-clause-taken
returns-in-Ok-clause-taken g c = λ asked opening all to.
    let none = below_one-empty c.in-Ok.field-0.now c.in-Ok.ensures.few in
    let At : List ℕ → Type 0 = λ rest. StandsAt (g.T.TakesAsked.has_taken asked) 1 opening all rest c.pass.new.self in
    c.answer.ensures.taken asked opening all (subst At none (c.in-Ok.ensures.passed.1 asked opening all to))

pub returns-in-Ok-clause-fault : goal.returns-in-Ok-clause-fault
returns-in-Ok-clause-fault g c = λ asked opening all to.
    let none = below_one-empty c.in-Ok.field-0.now c.in-Ok.ensures.few in
    let At : List ℕ → Type 0 = λ rest. StandsAt (g.T.TakesAsked.has_taken asked) 1 opening all rest c.pass.new.self in
    c.answer.ensures.fault asked opening all (subst At none (c.in-Ok.ensures.passed.1 asked opening all to))
