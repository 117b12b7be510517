use Rattle.std.proofs.Common.{◌≡◌, take}
use Rattle.lock_core.proofs.ChangesLemmas.{AppliesToTouched}
use Rattle.lock_core.proofs.account_changes.apply_changes.Given as goal

abbrev pub invariant-loop-i : goal.invariant-loop-i
invariant-loop-i l = record {
  room : l.accounts.room ≡ l.initial.accounts.room;
  rows : AppliesToTouched (take l.i l.changes) l.changes l.end l.initial.accounts.rows l.accounts.rows;
}
