-- What the tests say of last Commits and pairs, in the plain words of the format: over the whole list, not prefix by prefix.
use Rattle.std.specs.Prelude.{◌≡◌, ◌&&◌, ℕ, zero, suc, if◌then◌else◌, not, Bool, true, false, List, [], ◌∷◌, length}
use Rattle.log_record.specs.declared.rec.Placed.{Placed}
use Rattle.lock_core.specs.declared.update.Change.{Change}
use Rattle.lock_core.specs.Records.{txn_of, commits, lowers}
use Rattle.lock_core.specs.Transactions.{updates_of, touches}
use Rattle.lock_core.specs.Sums.{BaseState}
use Rattle.lock_core.specs.Tests.{IsOpposite}

-- the end of the last Commit whose transaction counts, or else this address
abbrev pub last_commit_where : (ℕ → Bool) → ℕ → List Placed → ℕ
last_commit_where counts otherwise [] = otherwise
last_commit_where counts otherwise (entry ∷ h) =
    if commits entry.rec && counts (txn_of entry.rec) then entry.end else last_commit_where counts otherwise h

-- the end of the last Commit in the whole list whose transaction has, in the whole list, an Update of the account
abbrev pub plain_last_commit : BaseState → List Placed → ℕ → ℕ
plain_last_commit base h account = last_commit_where (λ txn. touches account (updates_of txn h)) (base.last_commit account) h

abbrev pub is_odd : ℕ → Bool
is_odd zero = false
is_odd (suc n) = not (is_odd n)

-- a change is the opposite of the newest of these
abbrev pub IsOppositeOfNewest : List Change → Change → Type 0
IsOppositeOfNewest [] change = ⊥
IsOppositeOfNewest (newest ∷ older) change = IsOpposite newest change

-- the 1st, 3rd, 5th change of a transaction and so on is negative, and the one after it is its opposite on another account
pub record IsPlainlyPaired (before : List Change) (change : Change) : Type 0 where
  pub odd : is_odd (length before) ≡ false → lowers change.delta ≡ true
  pub even : is_odd (length before) ≡ true → IsOppositeOfNewest before change
