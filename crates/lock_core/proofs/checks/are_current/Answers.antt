use Rattle.std.proofs.Common.{◌≡◌, sym, true≢false}
use Rattle.lock_core.specs.declared.update.Change.{Change}
use Rattle.lock_core.specs.AccountRows.{row}
use Rattle.lock_core.proofs.ListLemmas.{all-at}
use Rattle.lock_core.proofs.checks.are_current.Goals as goal

pub returns-then-not-is_current : goal.returns-then-not-is_current
returns-then-not-is_current c = (
  λ never. absurd (true≢false (sym never)),
  λ all.
      c.if-not-is_current.ensures.1 (all-at (λ (change : Change). change.prev ≡ (row c.args.accounts.now.rows change.account).1)
      c.args.changes.now c.loop-change.change-index c.change-item.result all c.loop-change-test.true c.change-item.is),
)
