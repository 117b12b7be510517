-- What `asof` and `statement` say of the list of a log, and why they say nothing of one.
use Rattle.std.specs.Prelude.{◌≡◌, ◌<◌, ℕ, ◌-◌, List, ◌++◌, Option, codes}
use Rattle.std.specs.List.{flat_map}
use Rattle.lsn_space.specs.Number.{number_text}
use Rattle.log_record.specs.LogList.{prefix_to}
use Rattle.log_recovery.specs.Dump.{signed_text}
use Rattle.log_recovery.specs.Opened.{OpenedList, IsListBoundary, base_in, list_end, opening_before, placed, with_front}
use Rattle.log_recovery.specs.Text.{accounts_text, lsn_line}
use Rattle.ledger_view.specs.declared.entries.Entry.{Entry}
use Rattle.ledger_view.specs.Entries.{entries_of}
use Rattle.cli_reports.specs.Reports.{AnswersReport, RefusesLsn}
use Rattle.cli_shared.specs.declared.report.Detail.{Detail}
use Rattle.cli_shared.specs.declared.report.Detail.TheVariants.{NoAccount}

-- the list up to an LSN: behind the same opening, the records that end at or below it
abbrev pub list_to : OpenedList → ℕ → OpenedList
list_to list lsn = with_front list (prefix_to list.records (lsn - list.opening.lsn))

-- `asof` of a boundary says what the accounts text is of the list up to there
abbrev pub SaysAccounts : ℕ → OpenedList → List ℕ → Type 0
SaysAccounts lsn list text = IsListBoundary list lsn × (text ≡ accounts_text (list_to list lsn))

-- what `asof` answers for the bytes of a log
abbrev pub AnswersAsOf : ℕ → List ℕ → Option (List ℕ) → Option (List ℕ) → Option (List ℕ) → Detail → Type 0
AnswersAsOf lsn = AnswersReport (SaysAccounts lsn) (RefusesLsn lsn)

-- the balance with which an account begins
unfoldable pub open_line : ℕ → List ℕ
open_line balance = codes "open " ++ number_text balance ++ codes "\n"

-- the line of an entry: where its Commit ends, the transaction, what that did to the account, and the balance behind it
unfoldable pub entry_line : Entry → List ℕ
entry_line entry =
    number_text entry.end ++ codes " " ++ number_text entry.txn ++ codes " " ++ signed_text entry.net ++ codes " " ++ number_text entry.balance ++ codes "\n"

-- the first balance of an account, a line for each of its entries, and the end of the list
abbrev pub statement_lines : ℕ → List Entry → ℕ → List ℕ
statement_lines balance entries end = open_line balance ++ flat_map entry_line entries ++ lsn_line end

-- the statement of an account of the list
abbrev pub statement_text : OpenedList → ℕ → List ℕ
statement_text list account =
    statement_lines ((base_in list).balance account) (entries_of (opening_before list) (placed list) account) (list_end list)

-- `statement` of an account that the list has says its statement
abbrev pub SaysStatement : ℕ → OpenedList → List ℕ → Type 0
SaysStatement account list text = (account < (base_in list).accounts) × (text ≡ statement_text list account)

-- nothing is said of an account that the list doesn't have
abbrev pub RefusesAccount : ℕ → OpenedList → Detail → Type 0
RefusesAccount account list detail = (detail ≡ NoAccount account) × (account < (base_in list).accounts → ⊥)

-- what `statement` answers for the bytes of a log
abbrev pub AnswersStatement : ℕ → List ℕ → Option (List ℕ) → Option (List ℕ) → Option (List ℕ) → Detail → Type 0
AnswersStatement account = AnswersReport (SaysStatement account) (RefusesAccount account)
