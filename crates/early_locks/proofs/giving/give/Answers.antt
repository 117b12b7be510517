use Rattle.std.proofs.Common.{ap, sym, subst, refl, ◌∙◌}
use Rattle.log_rule.specs.AccountViews.{taken_as}
use Rattle.log_rule.specs.Accounts.{commit_in}
use Rattle.log_rule.specs.May.{MayGiveBack}
use Rattle.log_table.specs.Seats.{view_of}
use Rattle.early_locks.proofs.giving.give.Goals as goal

pub store_account-requires-clause-next : goal.store_account-requires-clause-next
store_account-requires-clause-next c =
    let view = view_of c.args.seat.now in
    let account = c.args.taken.account in
    subst (MayGiveBack account c.free.result) (sym (ap (λ m. m.0) c.store_balance.ensures.view.me)) record {
      active = c.requires.rests.active;
      idle = c.requires.rests.idle;
      taken = taken_as account view;
      balance = c.args.balance;
      half = refl;
      account_is = refl;
      free = c.free.ensures.held;
      last_commit = c.free.ensures.mark ∙ (c.requires.values.last_commit_is ∙ ap (commit_in view.books.placed account) (sym c.requires.holds.last_commit));
    }
