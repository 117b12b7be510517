use Rattle.std.proofs.Common.{rules, sym}
use Rattle.txn_script.proofs.pay.is_allowed.Goals as goal

pub returns-then-leg-ge1 : goal.returns-then-leg-ge1
returns-then-leg-ge1 c = rw (sym c.leg.view_is) (search rules steps 400000)
