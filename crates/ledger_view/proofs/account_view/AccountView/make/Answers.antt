use Rattle.std.proofs.Common.{refl}
use Rattle.lock_core.specs.AccountRows.{opening_of}
use Rattle.ledger_view.proofs.AccountViewLemmas.{kept-none}
use Rattle.ledger_view.proofs.account_view.AccountView.make.Goals as goal

pub returns : goal.returns
returns c = kept-none c.args.account (opening_of c.args.opening.now) _ refl c.in_ok-after.ensures c.new.ensures
