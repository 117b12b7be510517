-- How each kind of step on jobs and accounts changes the view of its seat.
use Rattle.std.specs.Prelude.{◌==◌, ℕ, ◌+◌, if◌then◌else◌}
use Rattle.log_rule.specs.declared.view.Given.{Given}
use Rattle.log_rule.specs.declared.view.Seen.{Seen}
use Rattle.log_rule.specs.declared.view.View.{View}
use Rattle.slot_word.specs.AccountWord.{last_commit_in}
use Rattle.lock_core.specs.declared.job.Job.{Job}
use Rattle.lock_core.specs.Transactions.{recs_of, has_commit}
use Rattle.log_rule.specs.declared.view.Taken.{Taken}
use Rattle.log_rule.specs.declared.view.Half.{Half}
use Rattle.log_rule.specs.declared.view.Half.TheVariants.{Neither, Taking, Giving}
use Rattle.log_rule.specs.Books.{balance_taken, last_commit_taken, taking_job, half_taking, taking, half_giving, giving}
use Rattle.log_rule.specs.Views.{counted}

-- after a load of stop with which the seat takes a job
abbrev pub took_job : ℕ → Job → ℕ → View → View
took_job number job n view = record view {
  seen = record view.seen { steps = view.seen.steps + 1; stop = n };
  books = taking_job (record { number = number; job = job }) view.books;
}

-- the account's word was seen
abbrev pub seen_account : ℕ → ℕ → Seen → Seen
seen_account account word seen = record seen { steps = seen.steps + 1; account = account; account_word = word }

-- after a load of an account's word
abbrev pub saw_account : ℕ → ℕ → View → View
saw_account account word view = record view { seen = seen_account account word view.seen }

-- after an exchange of an account's word that took the account
abbrev pub took_account : ℕ → ℕ → View → View
took_account account word view =
    record view { seen = seen_account account word view.seen; books = half_taking account (last_commit_in word) view.books }

-- after an exchange of an account's word that found n
abbrev pub after_account : ℕ → ℕ → ℕ → View → View
after_account account from n view = if n == from then took_account account from view else saw_account account n view

-- the account that is half taken, once its balance is loaded
abbrev pub loaded_half : ℕ → Half → Taken
loaded_half n Neither = record { account = 0; balance = n; last_commit = 0 }
loaded_half n (Taking account last_commit) = record { account = account; balance = n; last_commit = last_commit }
loaded_half n (Giving taken balance) = taken

-- after a load of its balance
abbrev pub loaded_balance : ℕ → View → View
loaded_balance n view = record view { seen = counted view.seen; books = taking (loaded_half n view.books.half) view.books }

-- a held account as it was taken
abbrev pub taken_as : ℕ → View → Taken
taken_as account view = record {
  account = account;
  balance = balance_taken view.books.held account;
  last_commit = last_commit_taken view.books.held account;
}

-- after a store of the balance with which it goes back
abbrev pub stored_balance : ℕ → ℕ → View → View
stored_balance account balance view =
    record view { seen = counted view.seen; books = half_giving (taken_as account view) balance view.books }

-- the balance of the account that is half given back, as it was taken
abbrev pub half_balance : Half → ℕ
half_balance Neither = 0
half_balance (Taking account last_commit) = 0
half_balance (Giving taken balance) = taken.balance

-- the account as it goes back: under the number of the seat's last job, with its balance as it was taken, tail and durable as last
-- seen, and whether the log has that job's Commit
abbrev pub given_as : ℕ → View → Given
given_as account view = record {
  txn = view.books.last.number;
  account = account;
  balance = half_balance view.books.half;
  tail = view.seen.tail;
  durable = view.seen.durable;
  committed = has_commit (recs_of view.books.placed);
}

-- after a store into an account's word, which gives the account back
abbrev pub gave_account : ℕ → View → View
gave_account account view = record view { seen = counted view.seen; books = giving (given_as account view) view.books }
