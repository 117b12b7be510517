use Rattle.std.proofs.Common.{◌≡◌, ◌∙◌, ◌+◌, ◌-◌, ap, arith, drop, subst, sym}
use Rattle.log_recovery.specs.Boundaries.{GoesOnAt}
use Rattle.log_recovery.proofs.BoundaryLemmas.{Seeks, boundary-within, seeks-from_boundary, seeks_beyond-no_boundary, seeks_ended-no_boundary, seeks_found-goes_on_at, seeks-step}
use Rattle.log_recovery.proofs.boundaries.units_behind.Goals as goal

pub overflow_sub-passed : goal.overflow_sub-passed
overflow_sub-passed c =
    let known = c.requires.known c.requires.records.0 c.requires.records.1 in
    omega (arith, known.1, c.units-at.ensures, c.units.ensures, c.begin_of.ensures)

pub split_at-requires : goal.split_at-requires
split_at-requires c =
    let known = c.requires.known c.requires.records.0 c.requires.records.1 in
    let within = boundary-within _ _ known.0 c.requires.records.1 known.2 in
    omega (arith, within, known.1, c.units-at.ensures, c.units.ensures, c.begin_of.ensures)

pub records-init : goal.records-init
records-init c =
    let begin = c.args.opening.now.lsn in let units = c.args.units.now in
    let known = c.requires.known c.requires.records.0 c.requires.records.1 in
    let passed : c.units-at.result - c.units.result ≡ known.0 = omega (arith, known.1, c.units-at.ensures, c.units.ensures, c.begin_of.ensures) in
    let begun = seeks-from_boundary begin units c.args.known c.args.lsn c.requires.records.0 c.requires.records.1 known.0 known.1 known.2 c.requires.below in
    subst (λ rest. Seeks begin units rest c.units-at.result c.units-goal.result) (sym (c.split_at.ensures.back ∙ ap (λ n. drop n units) passed))
    (subst (λ at. Seeks begin units (drop known.0 units) at c.units-goal.result) (sym c.units-at.ensures)
    (subst (λ goal. Seeks begin units (drop known.0 units) c.args.known goal) (sym c.units-goal.ensures) begun))

pub records-preserved : goal.records-preserved
records-preserved c =
    let dropped = c.split_at-in-records.ensures.back ∙ ap (λ n. drop n c.records.rest.now) c.in-Ok.ensures.found.1 in
    seeks-step _ _ _ _ _ c.records.invariant c.in-Ok.field-0-0 c.in-Ok.ensures.found.0 (omega (arith, c.records-test.true)) _ _ dropped
    (ap (λ n. c.records.at + n) c.in-Ok.ensures.found.1)

pub returns-in_default : goal.returns-in_default
returns-in_default c = record {
  none = λ records list is.
      seeks_ended-no_boundary _ _ _ _ _ c.records.invariant (omega (arith, c.records-test.true)) c.in_default.ensures.bad records list is.0 (c.units-goal.ensures ∙ is.1) is.2;
  some = tt;
}

pub returns-then-at-goal : goal.returns-then-at-goal
returns-then-at-goal c = record {
  some = λ records list.
      subst (λ lsn. GoesOnAt c.args.opening.now.lsn records lsn c.records.rest.now) c.units-goal.ensures
      (seeks_found-goes_on_at _ _ _ _ _ c.records.invariant (omega (arith, c.if-at-goal.true)) records list);
  none = tt;
}

pub returns-else-at-goal : goal.returns-else-at-goal
returns-else-at-goal c = record {
  none = λ records list is.
      seeks_beyond-no_boundary _ _ _ _ _ c.records.invariant (omega (arith, c.records-test.false, c.if-at-goal.false)) records list is.0 (c.units-goal.ensures ∙ is.1) is.2;
  some = tt;
}
