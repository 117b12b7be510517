use Rattle.std.proofs.Common.{refl, sym, arith}
use Rattle.txn_parts.proofs.leg.refusal.Goals as goal

pub returns-then-holding_of-leg-clause-refused : goal.returns-then-holding_of-leg-clause-refused
returns-then-holding_of-leg-clause-refused c = let payer = c.holding_of in rw (sym c.leg.view_is) (
  refl,
  record { holding = payer.result.now; contains = payer.ensures.found; account_is = payer.ensures.account; balance = c.if-holding_of-leg.true },
)

pub returns-then-holding_of-leg-2-clause-refused : goal.returns-then-holding_of-leg-2-clause-refused
returns-then-holding_of-leg-2-clause-refused c = let payer = c.holding_of in let payee = c.holding_of-2 in rw (sym c.leg.view_is) (
  refl,
  record { holding = payer.result.now; contains = payer.ensures.found; account_is = payer.ensures.account; balance = c.if-holding_of-leg.false },
  record { holding = payee.result.now; contains = payee.ensures.found; account_is = payee.ensures.account; balance = omega (arith, c.if-holding_of-leg-2.true) },
)

pub returns-clause-fits : goal.returns-clause-fits
returns-clause-fits c = let payer = c.holding_of in let payee = c.holding_of-2 in rw (sym c.leg.view_is) (record {
  payer = record { holding = payer.result.now; contains = payer.ensures.found; account_is = payer.ensures.account; balance = c.if-holding_of-leg.false };
  payee = record { holding = payee.result.now; contains = payee.ensures.found; account_is = payee.ensures.account; balance = omega (arith, c.if-holding_of-leg-2.false) };
})
