-- What a Commit adds to what is kept of the accounts.
use Rattle.std.specs.Prelude.{◌≡◌, ◌<◌, ◌≤◌, ◌+◌, ℕ, ℤ, pos, ◌+ℤ◌, true, false, List, [], ◌∷◌, ◌++◌, length, Result, MatchResult}
use Rattle.std.specs.List.{AllByRecursion}
use Rattle.lsn_space.specs.declared.lsn.TheConstants.{LAST}
use Rattle.log_record.specs.declared.rec.Rec.{Rec}
use Rattle.log_record.specs.declared.rec.Placed.{Placed}
use Rattle.log_record.specs.Spelling.{spelling, IsBalance, IsSpellable}
use Rattle.lock_core.specs.History.{end_from}
use Rattle.lock_core.specs.declared.update.Change.{Change}
use Rattle.lock_core.specs.declared.reason.JudgeFault.{JudgeFault}
use Rattle.lock_core.specs.Transactions.{touches}
use Rattle.lock_core.specs.Sums.{Opening}
use Rattle.lock_core.specs.Taking.{IsTakeFault}
use Rattle.ledger_view.specs.declared.entries.Entry.{Entry}
use Rattle.ledger_view.specs.declared.accounts.Account.{Account}
use Rattle.ledger_view.specs.declared.view.View.{View}
use Rattle.ledger_view.specs.Entries.{net_of, balance_after}
use Rattle.ledger_view.specs.ViewedAccounts.{last_balance, account_at, HasViewed}

-- the account with one entry more
abbrev pub with_entry : Account → Entry → Account
with_entry kept entry = record kept { entries = kept.entries ++ entry ∷ [] }

-- A net leads on to a balance: from one in its range, and that is the one to which the entries lead, if there are any.
pub record LeadsOn (entries : List Entry) (net : ℤ) (balance : ℕ) : Type 0 where
  pub before : ℕ
  pub range : IsBalance before
  pub sum : pos balance ≡ pos before +ℤ net
  pub last : (first : ℕ) → 0 < length entries → last_balance first entries ≡ before

-- the net of some changes leads on from what is kept of each account of theirs to what it holds behind a history
abbrev pub AllLeadOn : Opening → List Placed → List Change → List Change → List Account → Type 0
AllLeadOn opening h changes some accounts =
    AllByRecursion (λ change. LeadsOn (account_at accounts change.account).entries (net_of change.account changes)
    (balance_after opening h change.account)) some

-- Each account of some changes has an entry more, of a Commit of all these changes that ends here, with which the history ends; and the
-- other accounts are as they were.
pub record Enters (opening : Opening) (h : List Placed) (txn end : ℕ) (changes some : List Change) (old new : List Account) : Type 0 where
  pub count : length new ≡ length old
  pub done : (account : ℕ) → touches account some ≡ true → account_at new account ≡ with_entry (account_at old account)
      (record { end = end; txn = txn; net = net_of account changes; balance = balance_after opening h account })
  pub left : (account : ℕ) → touches account some ≡ false → account_at new account ≡ account_at old account

-- the record starts where a history ends that the view was given, and has a place there
pub record CanAdd (view : View) (lsn : ℕ) (rec : Rec) : Type 0 where
  pub given : (opening : Opening) × (h : List Placed) × HasViewed opening view h × (lsn ≡ end_from opening.state.end h)
  pub spellable : IsSpellable rec
  pub fits : lsn + length (spelling rec) ≤ LAST

-- on an entry: what was given before is then given with it, or this is the fault
abbrev pub AddsEntry : {A : Type 0} → View → View → Placed → Result A JudgeFault → Type 0
AddsEntry old new entry result = (opening : Opening) (h : List Placed) → HasViewed opening old h
    → MatchResult result (λ _. HasViewed opening new (entry ∷ h)) (IsTakeFault opening h entry)
