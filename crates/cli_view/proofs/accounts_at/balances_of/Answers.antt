use Rattle.std.proofs.Common.{◌∙◌, ◌∷◌, [], ap, length, sym, subst, arith, length-append}
use Rattle.lsn_space.specs.Accounts.{Accounts}
use Rattle.cli_view.specs.Balances.{AreBalances}
use Rattle.cli_view.proofs.BalanceLemmas.{AreBalances-push}
use Rattle.cli_view.proofs.accounts_at.balances_of.Goals as goal

pub accounts-preserved : goal.accounts-preserved
accounts-preserved c =
    let rows = ap (λ (a : Accounts). a.rows) c.push.ensures in
    record {
      count = omega (arith, ap length rows, length-append c.accounts.balances.rows ((c.balance.result, 0) ∷ []), c.accounts.invariant.count);
      room = ap (λ (a : Accounts). a.room) c.push.ensures ∙ c.accounts.invariant.room;
      each = λ opening h judged. subst (AreBalances opening h) (sym rows)
          (AreBalances-push opening h _ _ _ (sym c.accounts.invariant.count) (sym (c.balance.ensures opening h judged))
          (c.accounts.invariant.each opening h judged));
    }

pub returns : goal.returns
returns c = λ opening h judged. record {
  each = c.accounts.invariant.each opening h judged;
  count = omega (arith, c.accounts.invariant.count, c.accounts-test.false, c.accounts-count.ensures.accounts opening h judged);
}
