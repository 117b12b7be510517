use Rattle.std.proofs.Common.{refl, sym, ◌∙◌, eq-eqb}
use Rattle.std.proofs.lemmas.Bool.{ne_eqb, cond-true, cond-false}
use Rattle.txn_parts.proofs.leg.bear.Goals as goal

pub returns-then-holding-leg : goal.returns-then-holding-leg
returns-then-holding-leg c = rw (sym c.leg.view_is) (record {
  taken = refl;
  balance = sym (cond-true _ _ _ (eq-eqb _ _ (sym c.if-holding-leg.true)));
})

pub returns-then-holding-leg-2 : goal.returns-then-holding-leg-2
returns-then-holding-leg-2 c = rw (sym c.leg.view_is) (record {
  taken = refl;
  balance = sym (cond-false _ _ _ (ne_eqb _ _ (λ same. c.if-holding-leg.false (sym same)))
      ∙ cond-true _ _ _ (eq-eqb _ _ (sym c.if-holding-leg-2.true)));
})
