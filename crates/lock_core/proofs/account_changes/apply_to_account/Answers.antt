use Rattle.std.proofs.Common.{◌≡◌, ◌∙◌, ℕ, sym, subst, ap}
use Rattle.std.specs.Prelude.{List, Some, slice_get, slice_set}
use Rattle.std.proofs.lemmas.Option.{get_or_from_slice_get}
use Rattle.lsn_space.specs.Accounts.{Accounts}
use Rattle.lock_core.specs.AccountRows.{row, IsBalanceAfter, LeavesRange}
use Rattle.lock_core.proofs.account_changes.apply_to_account.Goals as goal

-- what is so of the row that is read
of-row : (P : ℕ × ℕ → Type 0) (rows : List (ℕ × ℕ)) (account : ℕ) (read : ℕ × ℕ) → slice_get rows account ≡ Some read → P read
    → P (row rows account)
of-row P rows account read is holds = subst P (sym (get_or_from_slice_get rows account read (0, 0) is)) holds

pub returns-in_default-clause-leaves : goal.returns-in_default-clause-leaves
returns-in_default-clause-leaves c =
    of-row (λ (v : ℕ × ℕ). LeavesRange c.args.changes.now c.args.account v.0) c.args.accounts.now.rows c.args.account
    c.at-balance.result c.at-balance.ensures c.in_default.ensures

pub returns-clause-applied : goal.returns-clause-applied
returns-clause-applied c =
    record {
      balance = c.in-Some.after;
      range = c.in-Some.ensures.0;
      after = of-row (λ (v : ℕ × ℕ). IsBalanceAfter c.args.changes.now c.args.account v.0 c.in-Some.after) c.args.accounts.now.rows
          c.args.account c.at-balance.result c.at-balance.ensures c.in-Some.ensures.1;
      rows = ap (λ (a : Accounts). a.rows) c.set.ensures ∙ ap (λ end. slice_set c.args.accounts.now.rows c.args.account (c.in-Some.after, end)) c.units.ensures;
    }
