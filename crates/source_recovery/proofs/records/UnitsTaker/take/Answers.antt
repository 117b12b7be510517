use Rattle.std.proofs.Common.{◌≡◌, ◌-◌, rules, drop, length, subst, sym}
use Rattle.log_record.specs.declared.units.TheConstants.{LONGEST_RECORD}
use Rattle.source_recovery.specs.Taker.{StandsAt, HasTakenTo}
use Rattle.source_recovery.proofs.TakerLemmas.{left_out-rest}
use Rattle.source_recovery.proofs.records.UnitsTaker.take.Goals as goal

pub returns-clause-taken : goal.returns-clause-taken
returns-clause-taken g c = λ asked opening all to.
    let units = c.as_slice.result.now in
    let rest = c.in_ok-left.field-0.now in
    let after = c.leave_out.new.units.items in
    let left = subst (λ items. after ≡ drop (c.len-count.result - length rest) items) (sym c.as_slice.ensures.value) c.leave_out.ensures in
    subst (λ rest'. StandsAt (g.T.TakesAsked.has_taken asked) LONGEST_RECORD opening all rest' c.pass.new.self)
    (sym (left_out-rest units rest after c.len-count.result c.in_ok-left.ensures.passed.0 (search rules) left))
    (c.in_ok-left.ensures.passed.1 asked opening all
    (subst (λ items. HasTakenTo (g.T.TakesAsked.has_taken asked) opening all items c.args.self.now) (sym c.as_slice.ensures.value) to))
