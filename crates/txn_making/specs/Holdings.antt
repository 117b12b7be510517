-- The accounts that a transfer holds.
use Rattle.std.specs.Prelude.{◌≡◌, ◌≢◌, ℕ, ◌+◌, ◌*◌, ◌<◌, ◌≤◌, Bool, true, List, [], ◌∷◌, ◌++◌, length, map, All}
use Rattle.std.specs.List.{AllByRecursion}
use Rattle.std.specs.List.Sorted.{IsStrictlyIncreasing}
use Rattle.lsn_space.specs.declared.opening.TheConstants.{MOST_BALANCE}
use Rattle.log_table.specs.declared.table.Seat.{Seat}
use Rattle.log_rule.specs.declared.view.Books.{Books}
use Rattle.log_rule.specs.declared.view.Call.TheVariants.{Idle}
use Rattle.log_rule.specs.declared.view.Given.{Given}
use Rattle.log_rule.specs.declared.view.Taken.{Taken as TakenHere}
use Rattle.log_rule.specs.declared.view.View.{View}
use Rattle.log_rule.specs.Books.{taking}
use Rattle.log_rule.specs.May.{HasBegunNothing}
use Rattle.log_table.specs.Seats.{Becomes, view_of}
use Rattle.ring_buffer.specs.Calls.{IsSameWorker, HasEntries}
use Rattle.early_locks.specs.declared.taken.Taken.{Taken}
use Rattle.log_rule.specs.Accounts.{FollowsJob}
use Rattle.early_locks.specs.Locks.{HasSeenDurable, held_of, given_at}
use Rattle.txn_jobs.specs.declared.accounts.TheConstants.{MOST_PARTIES}
use Rattle.txn_parts.specs.declared.taken_account.TakenAccount.{TakenAccount}
use Rattle.txn_parts.specs.declared.release.Release.{Release}
pub use Rattle.txn_parts.specs.Holdings.{taken_of, account_of, back_of}

abbrev pub account_given : Given → ℕ
account_given given = given.account

-- the account is one of so many
abbrev pub IsKnown : ℕ → TakenAccount → Type 0
IsKnown accounts holding = holding.taken.account < accounts

-- the accounts taken one after another, newest first, after those that were held before
abbrev pub held_behind : List TakenAccount → List TakenHere → List TakenHere
held_behind [] held = held
held_behind (holding ∷ holdings) held = held_behind holdings (held_of holding.taken ∷ held)

-- the books with these accounts held alone
abbrev pub holding_all : List TakenAccount → Books → Books
holding_all holdings books = record books { held = held_behind holdings [] }

-- none of them is of this account
abbrev pub Lacks : ℕ → List TakenAccount → Type 0
Lacks account holdings = AllByRecursion (λ (holding : TakenAccount). holding.taken.account ≢ account) holdings

-- no account stands twice
abbrev pub AreDistinct : List TakenAccount → Type 0
AreDistinct [] = Unit {0}
AreDistinct (holding ∷ holdings) = Lacks holding.taken.account holdings × AreDistinct holdings

-- these accounts are held, each once, and no other
pub record HoldsAll (holdings : List TakenAccount) (books : Books) : Type 0 where
  pub distinct : AreDistinct holdings
  pub held : books.held ≡ held_behind holdings []

-- and each is one of so many
pub record HoldsKnown (accounts : ℕ) (holdings : List TakenAccount) (books : Books) : Type 0 where
  pub holds : HoldsAll holdings books
  pub known : All (IsKnown accounts) holdings

-- the seat's last job has no record in the log but perhaps its Note, no account is held; the log had not stopped when that was seen last
pub record MayTakeAll (view : View) : Type 0 where
  pub begins : HasBegunNothing view
  pub runs : view.seen.stop ≡ 0
  pub none_held : view.books.held ≡ []

-- these are some of so many accounts, in ascending order, and at most as many as a transfer has
pub record AreInOrder (accounts : ℕ) (list : List ℕ) : Type 0 where
  pub rising : IsStrictlyIncreasing list
  pub known : All (λ account. account < accounts) list
  pub few : length list ≤ MOST_PARTIES

-- the seat took this account
pub record TakesOne (account : ℕ) (taken : Taken) (old new : Seat) : Type 0 where
  pub account_is : taken.account ≡ account
  pub fits : taken.balance ≤ MOST_BALANCE
  pub entries : HasEntries old new (view_of old).entries (taking (held_of taken) (view_of old).books)

-- no leg has changed the balance yet
abbrev pub IsUnchanged : TakenAccount → Type 0
IsUnchanged holding = holding.balance ≡ holding.taken.balance

-- the seat, which held none, took these accounts in this order, and the log had not stopped when that was seen last
pub record TakesAll (accounts : List ℕ) (holdings : List TakenAccount) (old new : Seat) : Type 0 where
  pub accounts_are : map account_of holdings ≡ accounts
  pub unchanged : All IsUnchanged holdings
  pub entries : HasEntries old new (view_of old).entries (holding_all holdings (view_of old).books)
  pub runs : (view_of new).seen.stop ≡ 0

-- these are the values with which the account has to go back
abbrev pub GoesBack : Release → Books → TakenAccount → Type 0
GoesBack release books holding = FollowsJob holding.taken.account (back_of release holding).0 (back_of release holding).1
    holding.taken.balance holding.taken.mark books.placed

-- the accounts given back one after another by a seat with this view, newest first, after those that were given back before
abbrev pub given_behind : View → List TakenAccount → List Given → List Given
given_behind view [] given = given
given_behind view (holding ∷ holdings) given = given_behind view holdings (given_at view holding.taken ∷ given)

-- after these accounts were given back, in two steps each, with those held
abbrev pub with_held : List TakenHere → List TakenAccount → View → View
with_held held back view = record view {
  seen = record view.seen { steps = view.seen.steps + 2 * length back };
  books = record view.books { held = held; given = given_behind view back view.books.given };
}

-- the seat gave these accounts back, and holds none
abbrev pub ReturnsAll : List TakenAccount → Seat → Seat → Type 0
ReturnsAll holdings old new = Becomes old new (with_held [] holdings (view_of old))

-- where it is told that the end record is on the disk, the seat has seen so
abbrev pub MayGiveAs : Bool → View → Type 0
MayGiveAs durable view = durable ≡ true → HasSeenDurable view

-- what the seat gave back before stands behind what it gave back since
pub record KeepsGiven (old new : View) : Type 0 where
  pub back : List Given
  pub given_are : new.books.given ≡ back ++ old.books.given

-- the seat has nothing under way, is as contended as before, and has the entries and books that it had, but for accounts that it may have
-- given back
pub record KeepsBooks (old new : Seat) : Type 0 where
  pub same : IsSameWorker old new
  pub idle : (view_of new).call ≡ Idle
  pub contended : (view_of new).contended ≡ (view_of old).contended
  pub entries : (view_of new).entries ≡ (view_of old).entries
  pub books : (view_of new).books ≡ record (view_of old).books { given = (view_of new).books.given }
