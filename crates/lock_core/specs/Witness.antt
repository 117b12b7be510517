-- A log list that is lawful, and a serial history that follows it; and what may follow where that log was cut.
use Rattle.std.specs.Prelude.{pos, negsuc, List, [], ◌∷◌}
use Rattle.log_record.specs.declared.rec.Rec.{Rec}
use Rattle.log_record.specs.declared.rec.Rec.TheVariants.{Genesis, Update, Commit}
use Rattle.log_record.specs.declared.rec.Placed.{Placed}
use Rattle.lock_core.specs.History.{history_from}
use Rattle.lsn_space.specs.Opening as space
use Rattle.lock_core.specs.Sums.{Opening}
use Rattle.lock_core.specs.AccountRows.{opening_of}
use Rattle.lock_core.specs.Alone.{PlainTransfer}

-- two accounts, of balances 100 and 0
abbrev pub genesis_log : List Rec
genesis_log = Genesis 0 100 ∷ Genesis 1 0 ∷ []

-- 30 from account 0 to account 1
abbrev pub transfer : PlainTransfer
transfer = record { legs = (0, 1, 30) ∷ []; note = [] }

-- what transaction 1 leaves of it after that log
abbrev pub transfer_records : List Rec
transfer_records = Update 1 0 (negsuc 29) 0 ∷ Update 1 1 (pos 30) 0 ∷ Commit 1 1 ∷ []

abbrev pub transfer_history : List Placed
transfer_history = history_from 4 [] transfer_records

-- what is kept of that log where it is cut behind the transfer: transaction 1 was the last, and the accounts have 70 and 30, each by a
-- Commit that ends at 9
abbrev pub snapshot : space.Opening
snapshot = record { lsn = 9; txn = 1; accounts = (70, 9) ∷ (30, 9) ∷ [] }

-- the opening that it is
abbrev pub cut : Opening
cut = opening_of snapshot

-- 30 from account 1 to account 0
abbrev pub behind_cut : List Placed
behind_cut = history_from 9 [] (Update 2 1 (negsuc 29) 9 ∷ Update 2 0 (pos 30) 9 ∷ Commit 2 1 ∷ [])

-- the beginning of the same under a number that the log had
abbrev pub again_behind_cut : List Placed
again_behind_cut = history_from 9 [] (Update 1 1 (negsuc 29) 9 ∷ [])
