-- What a lawful list keeps that goes on from another: the Commits that others were built on, ranges, and the sum of all balances.
use Rattle.std.specs.Prelude.{◌≡◌, ℕ, true, ◌⊎◌, List, [], ◌∷◌, ◌++◌}
use Rattle.std.specs.List.{AllByRecursion}
use Rattle.log_record.specs.declared.rec.Placed.{Placed}
use Rattle.lock_core.specs.declared.update.Change.{Change}
use Rattle.lock_core.specs.Records.{txn_of, commits, ends, changes_of}
use Rattle.lock_core.specs.Transactions.{of_transaction, updates_of}
use Rattle.lock_core.specs.Sums.{BaseState, Opening, IsCommitOn, AreInRange, sum_below, balance_of, last_commit_of}
use Rattle.lock_core.specs.Lawful.{base_with}

-- the change names the last Commit on its account in the list before, and that Commit is there; the base state's where there is none
pub record IsBuiltOn (base : BaseState) (front : List Placed) (change : Change) : Type 0 where
  pub last : change.prev ≡ last_commit_of base front change.account
  pub there : (change.prev ≡ base.last_commit change.account) ⊎ IsCommitOn front change.account change.prev

-- Between what stands before and behind it, an entry that is an Update is built on the list before; a Commit stands behind those whose
-- accounts it took over, as what it commits is built on the list before it too; and behind an end record nothing of its transaction stands.
pub record StandsBetween (base : BaseState) (front later : List Placed) (entry : Placed) : Type 0 where
  pub update : AllByRecursion (IsBuiltOn base front) (changes_of entry.rec)
  pub commit : commits entry.rec ≡ true → AllByRecursion (IsBuiltOn base front) (updates_of (txn_of entry.rec) front)
  pub last : ends entry.rec ≡ true → of_transaction (txn_of entry.rec) later ≡ []

-- each entry of a history that follows a base state stands so
abbrev pub HasPredecessors : BaseState → List Placed → Type 0
HasPredecessors base h = (later front : List Placed) (entry : Placed) → h ≡ later ++ entry ∷ front → StandsBetween base front later entry

-- the sum of all balances
abbrev pub sum_of_balances : Opening → List Placed → ℕ
sum_of_balances opening h = sum_below (base_with opening h).accounts (balance_of (base_with opening h) h)

-- The list goes on from the one before. Each Commit stands behind those whose accounts it took over, no balance is outside its range, and
-- nothing was made or lost since the list before.
pub record IsSoundAfter (opening : Opening) (before h : List Placed) : Type 0 where
  pub later : List Placed
  pub whole : h ≡ later ++ before
  pub predecessors : HasPredecessors (base_with opening h) h
  pub range : AreInRange (base_with opening h) h
  pub sum : sum_of_balances opening h ≡ sum_of_balances opening before
