-- A history is a log list as entries, the newest first: behind each entry stands the history before it.
use Rattle.std.specs.Prelude.{ℕ, ◌+◌, List, [], ◌∷◌, length}
use Rattle.log_record.specs.declared.rec.Rec.{Rec}
use Rattle.log_record.specs.declared.rec.Placed.{Placed}
use Rattle.log_record.specs.Spelling.{spelling}

-- where a history ends that begins at this address, and the next record starts
abbrev pub end_from : ℕ → List Placed → ℕ
end_from start [] = start
end_from start (entry ∷ history) = entry.end

-- a record in its place: its units follow this address
abbrev pub entry_at : ℕ → Rec → Placed
entry_at start rec = record { end = start + length (spelling rec); rec = rec }

-- a history that begins at this address, with these records after it, one after another
abbrev pub history_from : ℕ → List Placed → List Rec → List Placed
history_from start h [] = h
history_from start h (rec ∷ records) = history_from start (entry_at (end_from start h) rec ∷ h) records

-- the history of a log list, the first record of which starts at 0
abbrev pub history : List Rec → List Placed
history records = history_from 0 [] records
