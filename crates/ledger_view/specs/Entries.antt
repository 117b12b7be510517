-- What a history did to an account, Commit by Commit, and what the account held at an LSN, both computed from the whole history.
use Rattle.std.specs.Prelude.{ℕ, ℤ, pos, ◌+ℤ◌, ◌==◌, ◌&&◌, nat_le, nat_lt, if◌then◌else◌, Bool, Option, Some, None, List, [], ◌∷◌, ◌++◌}
use Rattle.log_record.specs.declared.rec.Placed.{Placed}
use Rattle.lock_core.specs.declared.update.Change.{Change}
use Rattle.lock_core.specs.Records.{txn_of, commits}
use Rattle.lock_core.specs.Transactions.{updates_of, touches}
use Rattle.lock_core.specs.Sums.{Opening, balance_of}
use Rattle.lock_core.specs.Lawful.{base_with}
use Rattle.ledger_view.specs.declared.entries.Entry.{Entry}

-- the sum of the changes' deltas on the account
abbrev pub net_of : ℕ → List Change → ℤ
net_of account [] = pos 0
net_of account (change ∷ changes) = (if change.account == account then change.delta else pos 0) +ℤ net_of account changes

-- the balance that a history behind an opening leaves the account
abbrev pub balance_after : Opening → List Placed → ℕ → ℕ
balance_after opening h account = balance_of (base_with opening h) h account

-- an entry that stands behind a history is a Commit on the account: its transaction has an Update of it
abbrev pub is_commit_on : ℕ → Placed → List Placed → Bool
is_commit_on account entry h = commits entry.rec && touches account (updates_of (txn_of entry.rec) h)

-- what such a Commit did to the account
abbrev pub entry_of : Opening → Placed → List Placed → ℕ → Entry
entry_of opening commit h account = record {
  end = commit.end;
  txn = txn_of commit.rec;
  net = net_of account (updates_of (txn_of commit.rec) h);
  balance = balance_after opening (commit ∷ h) account;
}

-- the entries of the account: of the entries of the history those that are Commits on it, in the order of the log
abbrev pub entries_of : Opening → List Placed → ℕ → List Entry
entries_of opening [] account = []
entries_of opening (entry ∷ h) account =
    if is_commit_on account entry h then entries_of opening h account ++ entry_of opening entry h account ∷ []
    else entries_of opening h account

-- the history up to an LSN: without what stands behind the last entry that ends at or below it
abbrev pub front_to : List Placed → ℕ → List Placed
front_to [] lsn = []
front_to (entry ∷ h) lsn = if nat_le entry.end lsn then entry ∷ h else front_to h lsn

-- the balance of the account, if the opening and the history have it
abbrev pub balance_if_known : Opening → List Placed → ℕ → Option ℕ
balance_if_known opening h account = if nat_lt account (base_with opening h).accounts then Some (balance_after opening h account) else None

-- what the account held at an LSN: its balance after the history up to there, if it is known there
abbrev pub balance_up_to : Opening → List Placed → ℕ → ℕ → Option ℕ
balance_up_to opening h account lsn = balance_if_known opening (front_to h lsn) account

-- the entries of the account, if the opening and the history have it
abbrev pub entries_if_known : Opening → List Placed → ℕ → Option (List Entry)
entries_if_known opening h account = if nat_lt account (base_with opening h).accounts then Some (entries_of opening h account) else None
