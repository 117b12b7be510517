-- The lines of end records: how a transaction ended, and the LSN at which its end record ends. A line ends with LF.
use Rattle.std.specs.Prelude.{ℕ, ◌+◌, List, [], ◌∷◌, ◌++◌, codes}
use Rattle.lsn_space.specs.Number.{number_text}
use Rattle.log_record.specs.declared.rec.Rec.{Rec}
use Rattle.log_record.specs.declared.rec.Rec.TheVariants.{Genesis, Update, Commit, Short, Over, Note}
use Rattle.log_record.specs.LogList.{size_of}
use Rattle.end_lines.specs.declared.voice.Voice.{Voice}
use Rattle.end_lines.specs.declared.voice.Voice.TheVariants.{Lines, Count}

-- `done`, the transaction, and the LSN
unfoldable pub done_line : ℕ → ℕ → List ℕ
done_line txn end = codes "done " ++ number_text txn ++ codes " " ++ number_text end ++ codes "\n"

-- `short`, the transaction, the leg, and the LSN
unfoldable pub short_line : ℕ → ℕ → ℕ → List ℕ
short_line txn leg end =
    codes "short " ++ number_text txn ++ codes " " ++ number_text leg ++ codes " " ++ number_text end ++ codes "\n"

-- `over`, the transaction, the leg, and the LSN
unfoldable pub over_line : ℕ → ℕ → ℕ → List ℕ
over_line txn leg end =
    codes "over " ++ number_text txn ++ codes " " ++ number_text leg ++ codes " " ++ number_text end ++ codes "\n"

-- the line of a record that ends at this LSN; a record that ends no transaction has none
abbrev pub end_line : ℕ → Rec → List ℕ
end_line end (Genesis account balance) = []
end_line end (Update txn account delta prev) = []
end_line end (Commit txn legs) = done_line txn end
end_line end (Short txn leg) = short_line txn leg end
end_line end (Over txn leg) = over_line txn leg end
end_line end (Note txn text) = []

-- the lines of records, the first of which starts at this LSN
abbrev pub end_lines : ℕ → List Rec → List ℕ
end_lines at [] = []
end_lines at (rec ∷ records) = end_line (at + size_of rec) rec ++ end_lines (at + size_of rec) records

-- 1 for the end record of a transaction that is done
abbrev pub is_done : Rec → ℕ
is_done (Genesis account balance) = 0
is_done (Update txn account delta prev) = 0
is_done (Commit txn legs) = 1
is_done (Short txn leg) = 0
is_done (Over txn leg) = 0
is_done (Note txn text) = 0

-- 1 for the end record of a transaction that was refused
abbrev pub is_refused : Rec → ℕ
is_refused (Genesis account balance) = 0
is_refused (Update txn account delta prev) = 0
is_refused (Commit txn legs) = 0
is_refused (Short txn leg) = 1
is_refused (Over txn leg) = 1
is_refused (Note txn text) = 0

-- how many of the records say that a transaction is done
abbrev pub done_in : List Rec → ℕ
done_in [] = 0
done_in (rec ∷ records) = is_done rec + done_in records

-- how many say that a transaction was refused
abbrev pub refused_in : List Rec → ℕ
refused_in [] = 0
refused_in (rec ∷ records) = is_refused rec + refused_in records

-- what a daemon with this voice writes of records
abbrev pub text_of : Voice → ℕ → List Rec → List ℕ
text_of Lines at records = end_lines at records
text_of Count at records = []

-- how many lines these are
abbrev pub lines_in : Voice → List Rec → ℕ
lines_in Lines records = done_in records + refused_in records
lines_in Count records = 0

-- what a daemon with this voice writes of one record, which ends at this LSN
abbrev pub line_said : Voice → ℕ → Rec → List ℕ
line_said Lines end rec = end_line end rec
line_said Count end rec = []

-- how many lines that is
abbrev pub count_said : Voice → Rec → ℕ
count_said Lines rec = is_done rec + is_refused rec
count_said Count rec = 0
