-- What the plain program reads of one record, and of which lists it answers.
use Rattle.std.specs.Prelude.{◌≡◌, ◌==◌, ℕ, ℤ, true, false, if◌then◌else◌, Option, MatchOption, List, [], ◌∷◌, ◌++◌}
use Rattle.log_record.specs.declared.rec.Rec.{Rec}
use Rattle.log_record.specs.declared.rec.Placed.{Placed}
use Rattle.log_record.specs.Spelling.{IsBalance}
use Rattle.lock_core.specs.declared.update.Change.{Change}
use Rattle.lock_core.specs.Records.{txn_of, changes_of}
use Rattle.lock_core.specs.Transactions.{updates_of, touches}
use Rattle.lock_core.specs.Sums.{Opening}
use Rattle.lock_core.specs.Lawful.{base_with}
use Rattle.ledger_view.specs.declared.entries.Entry.{Entry}
use Rattle.ledger_view.specs.Entries.{net_of, entries_of}

-- what the record changes for this transaction
abbrev pub own_changes : ℕ → Rec → List Change
own_changes txn rec = if txn_of rec == txn then changes_of rec else []

-- the net of a transaction on an account, if it has an Update of it in the history
abbrev pub IsNetOf : List Placed → ℕ → ℕ → Option ℤ → Type 0
IsNetOf h txn account net = MatchOption net (touches account (updates_of txn h) ≡ false)
    (λ net. (touches account (updates_of txn h) ≡ true) × (net ≡ net_of account (updates_of txn h)))

-- this is the entry of the account that the newest entry of a list makes, if it makes one
abbrev pub IsEntryOf : Opening → Placed → List Placed → ℕ → Option Entry → Type 0
IsEntryOf opening entry h account found = MatchOption found (entries_of opening (entry ∷ h) account ≡ entries_of opening h account)
    (λ own. entries_of opening (entry ∷ h) account ≡ entries_of opening h account ++ own ∷ [])

-- in the history and in each front of it the account begins with a balance in its range
abbrev pub FrontsBeginInRange : Opening → List Placed → ℕ → Type 0
FrontsBeginInRange opening h account = (later front : List Placed) → h ≡ later ++ front → IsBalance ((base_with opening front).balance account)
