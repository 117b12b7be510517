-- What one record says.
use Rattle.std.specs.Prelude.{ℕ, suc, ℤ, pos, negsuc, Bool, true, false, List, [], ◌∷◌}
use Rattle.log_record.specs.declared.rec.Rec.{Rec}
use Rattle.log_record.specs.declared.rec.Rec.TheVariants.{Genesis, Update, Commit, Short, Over, Note}
use Rattle.lock_core.specs.declared.update.Change.{Change}

-- the transaction of a record; a Genesis has none, which is written as 0
abbrev pub txn_of : Rec → ℕ
txn_of (Genesis account balance) = 0
txn_of (Update txn account delta prev) = txn
txn_of (Commit txn legs) = txn
txn_of (Short txn leg) = txn
txn_of (Over txn leg) = txn
txn_of (Note txn text) = txn

-- whether the record commits its transaction
abbrev pub commits : Rec → Bool
commits (Commit txn legs) = true
commits (Genesis account balance) = false
commits (Update txn account delta prev) = false
commits (Short txn leg) = false
commits (Over txn leg) = false
commits (Note txn text) = false

-- whether the record ends its transaction
abbrev pub ends : Rec → Bool
ends (Commit txn legs) = true
ends (Short txn leg) = true
ends (Over txn leg) = true
ends (Genesis account balance) = false
ends (Update txn account delta prev) = false
ends (Note txn text) = false

-- what the record changes: an Update one account, all others nothing
abbrev pub changes_of : Rec → List Change
changes_of (Update txn account delta prev) = record { account = account; delta = delta; prev = prev } ∷ []
changes_of (Genesis account balance) = []
changes_of (Commit txn legs) = []
changes_of (Short txn leg) = []
changes_of (Over txn leg) = []
changes_of (Note txn text) = []

-- whether a delta lowers a balance
abbrev pub lowers : ℤ → Bool
lowers (pos n) = false
lowers (negsuc n) = true

-- what a delta adds to a balance
abbrev pub gain : ℤ → ℕ
gain (pos n) = n
gain (negsuc n) = 0

-- what a delta takes from a balance
abbrev pub loss : ℤ → ℕ
loss (pos n) = 0
loss (negsuc n) = suc n

-- the record with its `prev` left out, which is written as 0
abbrev pub without_prev : Rec → Rec
without_prev (Update txn account delta prev) = Update txn account delta 0
without_prev (Genesis account balance) = Genesis account balance
without_prev (Commit txn legs) = Commit txn legs
without_prev (Short txn leg) = Short txn leg
without_prev (Over txn leg) = Over txn leg
without_prev (Note txn text) = Note txn text
