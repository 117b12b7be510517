use Rattle.std.proofs.Common.{◌≡◌, List, length, take}
use Rattle.log_record.specs.declared.rec.Placed.{Placed}
use Rattle.lock_core.specs.Sums.{Opening}
use Rattle.lock_core.specs.Taking.{HasJudged}
use Rattle.ledger_view.specs.Entering.{Enters}
use Rattle.ledger_view.proofs.view.enter_commit.Given as goal

abbrev pub invariant-loop-i : goal.invariant-loop-i
invariant-loop-i l = record {
  count : length l.accounts ≡ length l.initial.accounts;
  enters : (opening : Opening) (h : List Placed) → HasJudged opening l.judge h
      → Enters opening h l.txn l.end l.changes (take l.i l.changes) l.initial.accounts l.accounts;
}
