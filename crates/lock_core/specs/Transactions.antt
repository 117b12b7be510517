-- The records of one transaction, out of a history, newest first.
use Rattle.std.specs.Prelude.{◌≢◌, ℕ, ◌==◌, ◌||◌, if◌then◌else◌, Bool, false, List, [], ◌∷◌, ◌++◌}
use Rattle.std.specs.List.{list_any, AllByRecursion}
use Rattle.log_record.specs.declared.rec.Rec.{Rec}
use Rattle.log_record.specs.declared.rec.Placed.{Placed}
use Rattle.lock_core.specs.declared.update.Change.{Change}
use Rattle.lock_core.specs.Records.{txn_of, commits, ends, changes_of, without_prev}

-- the entries of a transaction
abbrev pub of_transaction : ℕ → List Placed → List Placed
of_transaction txn [] = []
of_transaction txn (entry ∷ h) = if txn_of entry.rec == txn then entry ∷ of_transaction txn h else of_transaction txn h

-- the records of entries
abbrev pub recs_of : List Placed → List Rec
recs_of [] = []
recs_of (entry ∷ h) = entry.rec ∷ recs_of h

-- the records of a transaction
abbrev pub own_records_of : ℕ → List Placed → List Rec
own_records_of txn h = recs_of (of_transaction txn h)

-- what records change
abbrev pub changes_in : List Rec → List Change
changes_in [] = []
changes_in (rec ∷ records) = changes_of rec ++ changes_in records

-- the Updates of a transaction
abbrev pub updates_of : ℕ → List Placed → List Change
updates_of txn h = changes_in (own_records_of txn h)

-- whether one of the records ends its transaction
abbrev pub has_end : List Rec → Bool
has_end [] = false
has_end (rec ∷ records) = ends rec || has_end records

-- the Updates of a transaction that has no end record; of one that has it, none
abbrev pub open_changes_of : ℕ → List Placed → List Change
open_changes_of txn h = if has_end (own_records_of txn h) then [] else updates_of txn h

-- whether one of the records commits its transaction
abbrev pub has_commit : List Rec → Bool
has_commit [] = false
has_commit (rec ∷ records) = commits rec || has_commit records

-- whether the transaction is committed: it has a Commit
abbrev pub is_committed : ℕ → List Placed → Bool
is_committed txn h = has_commit (own_records_of txn h)

-- whether one of the changes is of this account
abbrev pub touches : ℕ → List Change → Bool
touches account changes = list_any (λ change. change.account == account) changes

-- no transaction has records in both histories
abbrev pub ShareNoTransaction : List Placed → List Placed → Type 0
ShareNoTransaction h l = AllByRecursion (λ entry. AllByRecursion (λ other. txn_of entry.rec ≢ txn_of other.rec) l) h

-- the records with their `prev` left out
abbrev pub all_without_prev : List Rec → List Rec
all_without_prev [] = []
all_without_prev (rec ∷ records) = without_prev rec ∷ all_without_prev records

-- records that are given newest first, in their order, and then more
abbrev pub in_order : List Rec → List Rec → List Rec
in_order [] rest = rest
in_order (rec ∷ records) rest = in_order records (rec ∷ rest)
