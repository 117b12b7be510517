-- The account part of the rule: accounts follow the list. `words` are the two words of each account, `h` is the list that was inserted as a
-- history, newest first, and `base` the state of the accounts before it.
use Rattle.std.specs.Prelude.{◌≡◌, ◌&&◌, ℕ, ℤ, ◌+◌, ◌<◌, ◌≤◌, if◌then◌else◌, false, true, ◌⊎◌, List, [], ◌++◌}
use Rattle.std.specs.List.{AllByRecursion}
use Rattle.slot_word.specs.AccountWord.{held_in, last_commit_in, IsAccountWord}
use Rattle.lsn_space.specs.declared.opening.TheConstants.{MOST_ACCOUNTS, MOST_BALANCE}
use Rattle.lsn_space.specs.Lists.{Everywhere, summed}
use Rattle.log_record.specs.declared.rec.Placed.{Placed}
use Rattle.log_record.specs.Spelling.{IsTxn}
use Rattle.lock_core.specs.Transfers.{IsAllowedJob}
use Rattle.lock_core.specs.Records.{gain, loss}
use Rattle.lock_core.specs.History.{end_from}
use Rattle.lock_core.specs.Transactions.{of_transaction, recs_of, changes_in, has_commit, touches}
use Rattle.lock_core.specs.Sums.{BaseState, as_opening, moved, total, IsBalanceOf, AreInRange, last_commit_of}
use Rattle.lock_core.specs.Lawful.{IsLawful}
use Rattle.lock_core.specs.Serial.{IsRunWhole, IsCutShort}
use Rattle.log_rule.specs.declared.view.TakenJob.{TakenJob}
use Rattle.log_rule.specs.declared.view.Taken.{Taken}
use Rattle.log_rule.specs.declared.view.Given.{Given}
use Rattle.log_rule.specs.declared.view.Half.{Half}
use Rattle.log_rule.specs.declared.view.Half.TheVariants.{Neither, Taking, Giving}
use Rattle.log_rule.specs.declared.view.Books.{Books}
use Rattle.log_rule.specs.Books.{task_of, times_holding, times_taken}
use Rattle.log_rule.specs.Words.{AccountWords}

-- how often all seats together hold the account, by half too, and took a job of this number
abbrev pub holders : ℕ → List Books → ℕ
holders account all = summed (times_holding account) all

abbrev pub takers : ℕ → List Books → ℕ
takers number all = summed (λ (books : Books). times_taken number books.jobs) all

-- the account is one of the table's, and its word is held with the last Commit as it was taken
pub record IsMarked (accounts : ℕ) (words : ℕ → AccountWords) (account mark : ℕ) : Type 0 where
  pub known : account < accounts
  pub taken : held_in (words account).word ≡ true
  pub last_commit : last_commit_in (words account).word ≡ mark

-- so it is, and its balance is the one as it was taken
pub record IsAsTaken (accounts : ℕ) (words : ℕ → AccountWords) (held : Taken) : Type 0 where
  pub marked : IsMarked accounts words held.account held.last_commit
  pub balance : (words held.account).balance ≡ held.balance

-- what the records of one transaction, once it is committed, move of an account on one side
abbrev pub moved_if_committed : (ℤ → ℕ) → ℕ → List Placed → ℕ
moved_if_committed side account entries =
    if has_commit (recs_of entries) then moved side account (changes_in (recs_of entries)) else 0

-- this is the balance as it was taken, with what the job that placed these records made of it by its Commit
abbrev pub FollowsJobBalance : ℕ → ℕ → ℕ → List Placed → Type 0
FollowsJobBalance account balance taken_balance placed =
    balance + moved_if_committed loss account placed ≡ taken_balance + moved_if_committed gain account placed

-- An account that is half taken, whose balance is not loaded yet, has its word as taken. So has one that is half given back; its balance is
-- the one to be given, as the seat's last job, which placed these records, left it.
abbrev pub IsHalf : ℕ → (ℕ → AccountWords) → List Placed → Half → Type 0
IsHalf accounts words placed Neither = Unit {0}
IsHalf accounts words placed (Taking account last_commit) = IsMarked accounts words account last_commit
IsHalf accounts words placed (Giving taken balance) = IsMarked accounts words taken.account taken.last_commit
    × ((words taken.account).balance ≡ balance) × FollowsJobBalance taken.account balance taken.balance placed

-- an account has a word, and a balance in its range
pub record HasWords (words : AccountWords) : Type 0 where
  pub word : IsAccountWord words.word
  pub balance : words.balance ≤ MOST_BALANCE

-- a job that may be taken
pub record MayBeTaken (accounts : ℕ) (taken : TakenJob) : Type 0 where
  pub number : IsTxn taken.number
  pub job : IsAllowedJob accounts taken.job

-- A held account is held by exactly one seat, with its words' values as taken; a free one by none. A seat's last job is one of its
-- jobs, and an allowed one.
pub record HasOneHolder (accounts : ℕ) (words : ℕ → AccountWords) (all : List Books) : Type 0 where
  pub few : accounts ≤ MOST_ACCOUNTS
  pub words_are : (account : ℕ) → account < accounts → HasWords (words account)
  pub counts : (account : ℕ) → account < accounts → holders account all ≡ (if held_in (words account).word then 1 else 0)
  pub taken : Everywhere (λ (books : Books). AllByRecursion (IsAsTaken accounts words) books.held) all
  pub half : Everywhere (λ (books : Books). IsHalf accounts words books.placed books.half) all
  pub last : Everywhere (λ (books : Books). 1 ≤ books.last.number → MayBeTaken accounts books.last × (1 ≤ times_taken books.last.number books.jobs)) all

-- no job number stands twice
abbrev pub HasDistinctJobs : List Books → Type 0
HasDistinctJobs all = (number : ℕ) → takers number all ≤ 1

-- the end of the last Commit on an account, where one of these records is it, else this
abbrev pub commit_in : List Placed → ℕ → ℕ → ℕ
commit_in entries account last_commit =
    if has_commit (recs_of entries) && touches account (changes_in (recs_of entries)) then end_from 0 entries else last_commit

-- With what the seat's last job made of it by its Commit, the balance as it was taken is the balance of the whole list, and so is the
-- last Commit.
pub record Follows (base : BaseState) (h placed : List Placed) (held : Taken) : Type 0 where
  pub balance : held.balance + moved_if_committed gain held.account placed + total loss held.account h
      ≡ base.balance held.account + total gain held.account h + moved_if_committed loss held.account placed
  pub last_commit : last_commit_of base h held.account ≡ commit_in placed held.account held.last_commit

-- so of an account that is half taken, with the balance that it has, and of one that is half given back, as it was taken
abbrev pub HalfFollows : BaseState → (ℕ → AccountWords) → List Placed → List Placed → Half → Type 0
HalfFollows base words h placed Neither = Unit {0}
HalfFollows base words h placed (Taking account last_commit) =
    Follows base h placed (record { account = account; balance = (words account).balance; last_commit = last_commit })
HalfFollows base words h placed (Giving taken balance) = Follows base h placed taken

-- the values of a free account's words are those of the whole list
pub record IsUpToDate (base : BaseState) (h : List Placed) (account : ℕ) (words : AccountWords) : Type 0 where
  pub balance : IsBalanceOf base h account words.balance
  pub last_commit : last_commit_of base h account ≡ last_commit_in words.word

-- The account's balance as it was taken is that of some prefix of the list, which ends at or above the tail as the seat had seen it when
-- it gave the account back.
pub record IsOfFront (base : BaseState) (h : List Placed) (given : Given) : Type 0 where
  pub later : List Placed
  pub front : List Placed
  pub whole : h ≡ later ++ front
  pub balance : IsBalanceOf base front given.account given.balance
  pub tail : given.tail ≤ end_from base.end front

-- that is known of an account which went back while the seat's last job was not committed
abbrev pub WentBack : BaseState → List Placed → Given → Type 0
WentBack base h given = given.committed ≡ false → IsOfFront base h given

-- Where no job number stands twice: the list is a lawful continuation of the base state, and every balance is in its range. What it
-- has of a seat's last job is what the seat placed. Each free account's word is that of the list, and each held account follows it; one
-- that was given back uncommitted had the balance of a prefix. Each job is run whole or cut short, and there are no other transactions.
pub record AccountsFollowList (base : BaseState) (words : ℕ → AccountWords) (h : List Placed) (all : List Books) : Type 0 where
  pub lawful : IsLawful (as_opening base) h
  pub range : AreInRange base h
  pub placed : Everywhere (λ (books : Books). 1 ≤ books.last.number → of_transaction books.last.number h ≡ books.placed) all
  pub last : Everywhere (λ (books : Books). 1 ≤ books.last.number
      → AllByRecursion (λ (taken : TakenJob). taken.number ≡ books.last.number → taken.job ≡ books.last.job) books.jobs) all
  pub free : (account : ℕ) → account < base.accounts → held_in (words account).word ≡ false → IsUpToDate base h account (words account)
  pub held : Everywhere (λ (books : Books). AllByRecursion (Follows base h books.placed) books.held) all
  pub half : Everywhere (λ (books : Books). HalfFollows base words h books.placed books.half) all
  pub given : Everywhere (λ (books : Books). AllByRecursion (WentBack base h) books.given) all
  pub runs : Everywhere (λ (books : Books). AllByRecursion (λ (taken : TakenJob). IsRunWhole base h (task_of taken) ⊎ IsCutShort h (task_of taken)) books.jobs) all
  pub others : (number : ℕ) → takers number all ≡ 0 → of_transaction number h ≡ []

-- the accounts go with the list and with what the seats took
pub record KeepsAccounts (base : BaseState) (words : ℕ → AccountWords) (h : List Placed) (all : List Books) : Type 0 where
  pub holder : HasOneHolder base.accounts words all
  pub follows : HasDistinctJobs all → AccountsFollowList base words h all

-- An account goes back as the job that placed these records left it: where the job has no Commit, with the balance and the last Commit
-- as they were taken, and else with the balance as the job changed it, and with the end of its Commit if it has a change of the account.
pub record FollowsJob (account balance last_commit taken_balance taken_last_commit : ℕ) (placed : List Placed) : Type 0 where
  pub balance_is : FollowsJobBalance account balance taken_balance placed
  pub last_commit_is : last_commit ≡ commit_in placed account taken_last_commit
