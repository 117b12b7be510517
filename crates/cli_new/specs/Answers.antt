-- What `new` answers: what it leaves of the input and what it writes.
use Rattle.std.specs.Prelude.{◌≡◌, ℕ, List, [], Option, Some, Result, MatchResult}
use Rattle.std.specs.Io.KnownBytes.{Appends}
use Rattle.log_disk.specs.Streams.{AppendsPart}
use Rattle.log_recovery.specs.Text.{accounts_text}
use Rattle.txn_script.specs.Balances.{IsBalancesText, IsFirstBadBalance, ReadsBalances}
use Rattle.lsn_space.specs.Accounts.{Accounts}
use Rattle.cli_shared.specs.declared.report.Detail.{Detail}
use Rattle.cli_shared.specs.declared.report.Detail.TheVariants.{Fine, NoMemory, Script, Read, Write, Disk, Exists}
use Rattle.cli_shared.specs.Creation.{new_list}
use Rattle.log_disk.specs.Streams.{ReadsAll}

-- the answers that there are to `new`
abbrev pub IsAnswerToNew : Detail → Type 0
IsAnswerToNew Fine = Unit {0}
IsAnswerToNew NoMemory = Unit {0}
IsAnswerToNew (Script line) = Unit {0}
IsAnswerToNew Read = Unit {0}
IsAnswerToNew Write = Unit {0}
IsAnswerToNew Disk = Unit {0}
IsAnswerToNew Exists = Unit {0}
IsAnswerToNew detail = ⊥

-- why the input of `new` gives no balances
abbrev pub IsInputFault : Option (List ℕ) → Option (List ℕ) → Detail → Type 0
IsInputFault left left_new (Script line) = (text : List ℕ) × ReadsAll left left_new text × IsFirstBadBalance text line
IsInputFault left left_new Read = Unit {0}
IsInputFault left left_new NoMemory = Unit {0}
IsInputFault left left_new detail = ⊥

-- why `new` makes no log
abbrev pub IsMakingFault : Option (List ℕ) → Option (List ℕ) → Detail → Type 0
IsMakingFault left left_new Disk = Unit {0}
IsMakingFault left left_new Exists = Unit {0}
IsMakingFault left left_new detail = IsInputFault left left_new detail

-- the accounts are those of the whole input
abbrev pub AreOpening : Option (List ℕ) → Option (List ℕ) → Accounts → Type 0
AreOpening left left_new accounts = (text : List ℕ) × ReadsAll left left_new text × ReadsBalances text accounts

-- the accounts are, or why the input gives none
abbrev pub ReadsOpening : Option (List ℕ) → Option (List ℕ) → Result Accounts Detail → Type 0
ReadsOpening left left_new result = MatchResult result (AreOpening left left_new) (IsInputFault left left_new)

-- `new` on these bytes: what is left of them and what is written, for each detail. Where all is fine, or the writing
-- failed, the input was read to its end, and what is written is the text of the new log, or a part of it.
abbrev pub AnswersNew : List ℕ → Option (List ℕ) → Option (List ℕ) → Option (List ℕ) → Detail → Type 0
AnswersNew bytes left old new Fine =
    (left ≡ Some []) × (balances : List ℕ) × IsBalancesText bytes balances × Appends old new (accounts_text (new_list balances))
AnswersNew bytes left old new Write =
    (left ≡ Some []) × (balances : List ℕ) × IsBalancesText bytes balances × AppendsPart old new (accounts_text (new_list balances))
AnswersNew bytes left old new (Script line) = (left ≡ Some []) × IsFirstBadBalance bytes line
AnswersNew bytes left old new NoMemory = Unit {0}
AnswersNew bytes left old new Read = Unit {0}
AnswersNew bytes left old new Disk = Unit {0}
AnswersNew bytes left old new Exists = Unit {0}
AnswersNew bytes left old new detail = ⊥
