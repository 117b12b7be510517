-- The dump of a list: what stands before it, each record with the place where it starts, and then the end. A line ends with LF.
use Rattle.std.specs.Prelude.{ℕ, ◌+◌, ℤ, pos, negsuc, List, [], ◌∷◌, ◌++◌, codes}
use Rattle.std.specs.List.{flat_map, zip}
use Rattle.lsn_space.specs.Number.{number_text}
use Rattle.log_record.specs.declared.rec.Rec.{Rec}
use Rattle.log_record.specs.declared.rec.Rec.TheVariants.{Genesis, Update, Commit, Short, Over, Note}
use Rattle.log_record.specs.LogList.{starts_from}
use Rattle.lsn_space.specs.Opening.{Opening}
use Rattle.log_recovery.specs.Opened.{OpenedList, list_end}
use Rattle.log_recovery.specs.Text.{lsn_line}

-- a number that may be below 0: then `-` and its digits
abbrev pub signed_text : ℤ → List ℕ
signed_text (pos n) = number_text n
signed_text (negsuc n) = codes "-" ++ number_text (n + 1)

-- two numbers, a space between them
abbrev pub two_numbers_text : ℕ → ℕ → List ℕ
two_numbers_text first second = number_text first ++ codes " " ++ number_text second

unfoldable pub update_text : ℕ → ℕ → ℤ → ℕ → List ℕ
update_text txn account delta prev =
    codes "update " ++ two_numbers_text txn account ++ codes " " ++ signed_text delta ++ codes " " ++ number_text prev

-- what a line says of the record itself
abbrev pub rec_text : Rec → List ℕ
rec_text (Genesis account balance) = codes "genesis " ++ two_numbers_text account balance
rec_text (Update txn account delta prev) = update_text txn account delta prev
rec_text (Commit txn legs) = codes "commit " ++ two_numbers_text txn legs
rec_text (Short txn leg) = codes "short " ++ two_numbers_text txn leg
rec_text (Over txn leg) = codes "over " ++ two_numbers_text txn leg
rec_text (Note txn text) = codes "note " ++ number_text txn ++ codes " " ++ text

-- the line of a record that starts at this address
unfoldable pub record_line : ℕ → Rec → List ℕ
record_line start rec = number_text start ++ codes " " ++ rec_text rec ++ codes "\n"

-- a line for each record, the first of which starts at this address
abbrev pub record_lines : ℕ → List Rec → List ℕ
record_lines at records = flat_map (λ r. record_line r.0 r.1) (zip (starts_from at records) records)

-- the line of an account, as a snapshot has it: its balance and its mark
unfoldable pub row_line : ℕ → ℕ × ℕ → List ℕ
row_line account row = codes "account " ++ number_text account ++ codes " " ++ two_numbers_text row.0 row.1 ++ codes "\n"

-- a line for each account, from this one on
abbrev pub row_lines : ℕ → List (ℕ × ℕ) → List ℕ
row_lines account [] = []
row_lines account (row ∷ rows) = row_line account row ++ row_lines (account + 1) rows

-- where a list with a snapshot begins, and the greatest transaction number before it
unfoldable pub snapshot_line : ℕ → ℕ → List ℕ
snapshot_line lsn txn = codes "snapshot " ++ two_numbers_text lsn txn ++ codes "\n"

-- what stands before a list; nothing of a list that is a whole log
abbrev pub snapshot_lines : ℕ → ℕ → List (ℕ × ℕ) → List ℕ
snapshot_lines lsn txn [] = []
snapshot_lines lsn txn (row ∷ rows) = snapshot_line lsn txn ++ row_lines 0 (row ∷ rows)

abbrev pub opening_lines : Opening → List ℕ
opening_lines opening = snapshot_lines opening.lsn opening.txn opening.accounts

-- the text of a list: what stands before it, its records, and its end
abbrev pub dump_text : OpenedList → List ℕ
dump_text list = opening_lines list.opening ++ record_lines list.opening.lsn list.records ++ lsn_line (list_end list)
