-- What a view keeps of the history that it was given.
use Rattle.std.specs.Prelude.{◌≡◌, ◌<◌, ◌≤◌, ℕ, pos, ◌+ℤ◌, nat_le, if◌then◌else◌, Some, None, List, [], ◌∷◌, length, slice_index_or}
use Rattle.std.specs.List.{AllByRecursion}
use Rattle.log_record.specs.declared.rec.Placed.{Placed}
use Rattle.log_record.specs.Spelling.{IsBalance}
use Rattle.lock_core.specs.History.{end_from}
use Rattle.lock_core.specs.Sums.{Opening}
use Rattle.lock_core.specs.Lawful.{base_with}
use Rattle.lock_core.specs.Taking.{HasJudged}
use Rattle.ledger_view.specs.declared.entries.Entry.{Entry}
use Rattle.ledger_view.specs.declared.accounts.Account.{Account}
use Rattle.ledger_view.specs.declared.view.View.{View}
use Rattle.ledger_view.specs.Entries.{balance_after, entries_of, balance_up_to}

-- the balance that entries lead to from a first one
abbrev pub last_balance : ℕ → List Entry → ℕ
last_balance first [] = first
last_balance first (entry ∷ entries) = last_balance entry.balance entries

-- the balance that those of them lead to that end at or below an LSN
abbrev pub balance_to : ℕ → List Entry → ℕ → ℕ
balance_to first [] lsn = first
balance_to first (entry ∷ entries) lsn = if nat_le entry.end lsn then balance_to entry.balance entries lsn else first

-- each entry adds its net to the balance before it, which is in its range; none ends below the one before it, the first not below this LSN
abbrev pub AddUp : ℕ → ℕ → List Entry → Type 0
AddUp least first [] = Unit {0}
AddUp least first (entry ∷ entries) =
    (least ≤ entry.end) × IsBalance first × (pos entry.balance ≡ pos first +ℤ entry.net) × AddUp entry.end entry.balance entries

-- What is kept of an account: where it begins, and its entries. Behind its first balance they lead to what it held at each LSN.
pub record KeepsAccount (opening : Opening) (h : List Placed) (account : ℕ) (kept : Account) : Type 0 where
  pub first : ℕ
  pub base : first ≡ (base_with opening h).balance account
  pub entries : kept.entries ≡ entries_of opening h account
  pub sums : AddUp 0 first kept.entries
  pub last : last_balance first kept.entries ≡ balance_after opening h account
  pub begun : kept.since ≤ end_from opening.state.end h
  pub past : AllByRecursion (λ entry. entry.end ≤ end_from opening.state.end h) kept.entries
  pub before : (lsn : ℕ) → lsn < kept.since → balance_up_to opening h account lsn ≡ None
  pub since : (lsn : ℕ) → kept.since ≤ lsn → balance_up_to opening h account lsn ≡ Some (balance_to first kept.entries lsn)

-- an account of which nothing is known but that it was there before the list
abbrev pub untouched : Account
untouched = record { since = 0; entries = [] }

abbrev pub account_at : List Account → ℕ → Account
account_at accounts account = slice_index_or accounts account untouched

-- the view was given this history behind the opening: a judge has taken it, and each of its accounts is kept
pub record HasViewed (opening : Opening) (view : View) (h : List Placed) : Type 0 where
  pub judged : HasJudged opening view.judge h
  pub count : length view.accounts ≡ (base_with opening h).accounts
  pub each : (account : ℕ) → account < length view.accounts → KeepsAccount opening h account (account_at view.accounts account)
