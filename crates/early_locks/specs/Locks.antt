-- What a seat has taken, and what it may give back.
use Rattle.std.specs.Prelude.{◌≡◌, ◌≢◌, ℕ, ◌≤◌, MatchBool, true, false}
use Rattle.slot_word.specs.declared.account_word.AccountWord.{AccountWord}
use Rattle.slot_word.specs.AccountWord.{word_of}
use Rattle.lock_core.specs.History.{end_from}
use Rattle.lock_core.specs.Transactions.{recs_of, has_commit, has_end}
use Rattle.log_table.specs.declared.table.Seat.{Seat}
use Rattle.log_rule.specs.declared.view.Books.{Books}
use Rattle.log_rule.specs.declared.view.Taken.{Taken as TakenHere}
use Rattle.log_rule.specs.declared.view.Given.{Given}
use Rattle.log_rule.specs.declared.view.View.{View}
use Rattle.log_rule.specs.Accounts.{FollowsJob}
use Rattle.log_rule.specs.Books.{times_held, balance_taken, last_commit_taken, taking}
use Rattle.log_table.specs.Seats.{Becomes, view_of}
use Rattle.lsn_space.specs.declared.opening.TheConstants.{MOST_BALANCE}
use Rattle.log_rule.specs.AccountViews.{saw_account, took_account, loaded_balance, stored_balance, gave_account}
use Rattle.early_locks.specs.declared.taken.Taken.{Taken}
use Rattle.early_locks.specs.declared.taken.Held.{Held}

-- the account as it was taken
abbrev pub held_of : Taken → TakenHere
held_of taken = record { account = taken.account; balance = taken.balance; last_commit = taken.mark }

-- the account as a seat with this view gives it back
abbrev pub given_at : View → Taken → Given
given_at view taken = record {
  txn = view.books.last.number;
  account = taken.account;
  balance = taken.balance;
  tail = view.seen.tail;
  durable = view.seen.durable;
  committed = has_commit (recs_of view.books.placed);
}

-- the seat loaded the free word of the account, took it with this last Commit, and loaded its balance, in three steps
pub record HasTaken (old new : Seat) (account : ℕ) (taken : Taken) : Type 0 where
  pub account_is : taken.account ≡ account
  pub word : AccountWord
  pub free : word.held ≡ false
  pub range : taken.balance ≤ MOST_BALANCE
  pub last_commit : taken.mark ≡ word.mark
  pub becomes : Becomes old new (loaded_balance taken.balance (took_account account (word_of word) (saw_account account (word_of word) (view_of old))))
  pub books : (view_of new).books ≡ taking (record { account = account; balance = taken.balance; last_commit = taken.mark }) (view_of old).books

-- The seat loaded the account's word; where that was held, it was found so, and else its exchange found another word. It made no other
-- step.
abbrev pub WasHeld : Seat → Seat → ℕ → Held → Type 0
WasHeld old new account held = MatchBool held.loaded.held
    ((held.found ≡ held.loaded) × Becomes old new (saw_account account (word_of held.loaded) (view_of old)))
    ((held.found ≢ held.loaded)
    × Becomes old new (saw_account account (word_of held.found) (saw_account account (word_of held.loaded) (view_of old))))

-- the value is of an account that the seat holds
pub record HoldsTaken (taken : Taken) (books : Books) : Type 0 where
  pub has : 1 ≤ times_held taken.account books.held
  pub balance : balance_taken books.held taken.account ≡ taken.balance
  pub last_commit : last_commit_taken books.held taken.account ≡ taken.mark

-- these are the balance and the last Commit with which the account has to go back
abbrev pub GivesBack : Taken → ℕ → ℕ → Seat → Type 0
GivesBack taken balance last_commit seat =
    FollowsJob taken.account balance last_commit taken.balance taken.mark (view_of seat).books.placed

-- the account is among those given back, in two steps, and the seat is else as it was
abbrev pub HasGivenBack : Taken → ℕ → Seat → Seat → Type 0
HasGivenBack taken balance old new = Becomes old new (gave_account taken.account (stored_balance taken.account balance (view_of old)))

-- the seat's last job has its end record, and the seat saw a durable LSN at or above its end
pub record HasSeenDurable (view : View) : Type 0 where
  pub ended : has_end (recs_of view.books.placed) ≡ true
  pub durable : end_from 0 view.books.placed ≤ view.seen.durable
