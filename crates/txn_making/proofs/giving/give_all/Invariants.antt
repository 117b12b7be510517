use Rattle.std.proofs.Common.{◌≡◌, ◌++◌, [], All}
use Rattle.arrayvec.specs.Iter.{drain_items}
use Rattle.log_table.specs.Seats.{Becomes, view_of}
use Rattle.txn_making.specs.Holdings.{held_behind, AreDistinct, IsKnown, GoesBack, with_held}
use Rattle.txn_making.proofs.giving.give_all.Given as goal

pub record Gives (l : goal.Live-holdings) : Type 0 where
  pub can_next : (goal.iterator-holdings).can_next l.holding-iterator
  pub is_finite : (goal.iterator-holdings).is_finite l.holding-iterator
  pub parts : l.yielded ++ drain_items l.holding-iterator ≡ l.fn.holdings.items
  pub seat : Becomes l.fn.seat l.seat (with_held (held_behind (drain_items l.holding-iterator) []) l.yielded (view_of l.fn.seat))
  pub distinct : AreDistinct (drain_items l.holding-iterator)
  pub known : All (IsKnown l.table.accounts) (drain_items l.holding-iterator)
  pub values : All (GoesBack l.release (view_of l.fn.seat).books) (drain_items l.holding-iterator)

abbrev pub invariant-holdings : goal.invariant-holdings
invariant-holdings l = Gives l
