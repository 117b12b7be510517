use Rattle.std.proofs.Common.{inl, [], ap, subst}
use Rattle.std.specs.Prelude.{IfOk}
use Rattle.lsn_space.specs.Opening.{Opening}
use Rattle.lock_core.specs.AccountRows.{opening_of}
use Rattle.ledger_view.specs.ViewedAccounts.{HasViewed}
use Rattle.recovery_tests.proofs.view_adding.view_of_nothing.Goals as goal

pub make-requires : goal.make-requires
make-requires c = inl (ap (λ (o : Opening). o.accounts) c.in_ok-opening.ensures)

pub returns : goal.returns
returns c = subst (λ (o : Opening). IfOk c.make.result (λ view. HasViewed (opening_of o) view [])) c.in_ok-opening.ensures c.make.ensures
