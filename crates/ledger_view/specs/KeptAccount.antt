-- What a view of one account keeps of the history that it was given.
use Rattle.std.specs.Prelude.{◌≡◌, ◌<◌, ◌≤◌, ℕ, List, []}
use Rattle.log_record.specs.declared.rec.Placed.{Placed}
use Rattle.lock_core.specs.Sums.{Opening}
use Rattle.lock_core.specs.Lawful.{base_with}
use Rattle.lock_core.specs.Taking.{HasJudged}
use Rattle.ledger_view.specs.declared.account_view.AccountView.{AccountView}
use Rattle.ledger_view.specs.ViewedAccounts.{KeepsAccount}

-- the view is of this account, and was given this history behind the opening: a judge has taken it, and the account is kept if it is there
pub record HasKept (account : ℕ) (opening : Opening) (view : AccountView) (h : List Placed) : Type 0 where
  pub of : view.account ≡ account
  pub judged : HasJudged opening view.judge h
  pub known : account < (base_with opening h).accounts
      → (since : ℕ) × KeepsAccount opening h account (record { since = since; entries = view.entries })
  pub unknown : (base_with opening h).accounts ≤ account → view.entries ≡ []
