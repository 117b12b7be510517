use Rattle.std.proofs.Common.{◌≡◌, take, drop}
use Rattle.std.specs.List.{AllZip}
use Rattle.txn_parts.specs.Leg.{IsAfter}
use Rattle.txn_parts.proofs.leg.move_amount.Given as goal

pub record Moves (l : goal.Live-holdings) : Type 0 where
  pub before : AllZip (IsAfter l.fn.leg) (take l.holding-index l.fn.holdings) (take l.holding-index l.holdings)
  pub behind : drop l.holding-index l.holdings ≡ drop l.holding-index l.fn.holdings

abbrev pub invariant-holdings : goal.invariant-holdings
invariant-holdings l = Moves l
