-- What the list of entries is once all seats are gathered.
use Rattle.std.specs.Prelude.{◌≡◌, ℕ, zero, suc, ◌+◌, ◌≤◌, min, List, [], ◌∷◌, ◌++◌, map, length, slice_index}
use Rattle.std.specs.List.{AllByRecursion}
use Rattle.lsn_space.specs.Tiling.{IsTiling}
use Rattle.log_rule.specs.declared.view.Entry.{Entry}
use Rattle.log_rule.specs.declared.view.View.{View}
use Rattle.log_rule.specs.Log.{IsFull, IsSpelled, IsEntryBoundary, units_in}
use Rattle.log_rule.specs.Sends.{IsDrained}
use Rattle.log_record.specs.declared.rec.Rec.{Rec}
use Rattle.log_record.specs.declared.rec.Placed.{Placed}
use Rattle.lock_core.specs.History.{history_from}
use Rattle.lock_core.specs.Lawful.{IsLawful}
use Rattle.lock_core.specs.Serial.{NumberedTransfer, IsPartlySerialAfter}
use Rattle.lock_core.specs.AccountRows.{KeepsRows}
use Rattle.lock_core.specs.Sums.{BaseState, as_opening}
use Rattle.log_rule.specs.Accounts.{WentBack}
use Rattle.log_rule.specs.Books.{task_of, times_taken}
use Rattle.table_layout.specs.Layout.{Slot, index_of}
use Rattle.log_rule.specs.Members.{IsRefusalOf}

-- The entries are the whole log from the start to this LSN, without gap or overlap, and each is filled. Each LSN that a seat saw lies
-- between two of them. What was sent to the disk, and then what was read for it, are the log's first units, and all of it where the
-- log was drained.
pub record IsGathered (lsn : ℕ) (view : View) : Type 0 where
  pub tiles : IsTiling (λ (entry : Entry). entry.start) (λ (entry : Entry). entry.size) view.constants.start view.entries lsn
  pub full : AllByRecursion IsFull view.entries
  pub seen : AllByRecursion (IsEntryBoundary view.constants.start view.entries) view.seen.lsns
  pub unsent : List ℕ
  pub sent : units_in view.entries ≡ (view.sending.sent ++ view.sending.read) ++ unsent
  pub drained : IsDrained view → units_in view.entries ≡ view.sending.sent
  pub spelled : AllByRecursion IsSpelled view.entries

-- the records of the entries, in order
abbrev pub records_of : List Entry → List Rec
records_of [] = []
records_of (entry ∷ entries) = entry.rec ∷ records_of entries

-- the list that was inserted, as a history after the base state
abbrev pub history_of : BaseState → List Entry → List Placed
history_of base entries = history_from base.end [] (records_of entries)

-- The list is a lawful continuation of the base state. These jobs are run whole or cut short in it, and it has no other transactions.
-- The rows are its accounts.
pub record IsLedger (base : BaseState) (h : List Placed) (tasks : List NumberedTransfer) (rows : List (ℕ × ℕ)) : Type 0 where
  pub lawful : IsLawful (as_opening base) h
  pub serial : IsPartlySerialAfter base tasks h
  pub accounts : KeepsRows rows base h

-- There is a row for each account. Where no number of the gathered jobs stands twice, the gathered list is their ledger, and each account
-- that was given back uncommitted had the balance of a prefix of that list.
pub record HasLedger (base : BaseState) (view : View) (rows : List (ℕ × ℕ)) : Type 0 where
  pub count : length rows ≡ base.accounts
  pub ledger : ((number : ℕ) → times_taken number view.books.jobs ≤ 1)
      → IsLedger base (history_of base view.entries) (map task_of view.books.jobs) rows
  pub given : ((number : ℕ) → times_taken number view.books.jobs ≤ 1)
      → AllByRecursion (WentBack base (history_of base view.entries)) view.books.given

-- Of each group's refusal that a gathered seat heard, the total is at least the units of the seat's own record, and at most these and 26
-- for each further worker that was made; so where one worker was made, it is exactly these units.
abbrev pub HasHeardOfWorkers : View → Type 0
HasHeardOfWorkers view = AllByRecursion (IsRefusalOf (length view.standing.made)) view.seen.refusals

-- how many of the first n slots have a state that is not 0, by the words of a table whose ring has that length
abbrev pub in_use : ℕ → ℕ → List ℕ → ℕ
in_use ring zero words = 0
in_use ring (suc n) words = in_use ring n words + min (slice_index words (index_of ring 0 (Slot n))) 1
