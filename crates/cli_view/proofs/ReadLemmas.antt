-- What is said of the list of a log that was read, from what its taker answers.
use Rattle.std.proofs.Common.{◌≡◌, ◌<◌, ◌≤◌, ℕ, List, [], Option, Some, None, IfSome, refl, ◌∙◌, sym, subst, arith}
use Rattle.std.specs.Io.KnownBytes.{Appends}
use Rattle.log_disk.specs.Streams.{AppendsPart}
use Rattle.log_record.specs.declared.rec.Placed.{Placed}
use Rattle.lsn_space.specs.Accounts.{Accounts}
use Rattle.lock_core.specs.History.{end_from}
use Rattle.lock_core.specs.Lawful.{base_with}
use Rattle.lock_core.specs.Sums.{Opening}
use Rattle.log_recovery.specs.Opened.{OpenedList, base_in, opening_before, placed}
use Rattle.log_recovery.specs.Text.{rows_text}
use Rattle.log_recovery.proofs.ListingLemmas.{end_from-history}
use Rattle.ledger_view.specs.declared.entries.Entry.{Entry}
use Rattle.ledger_view.specs.Entries.{entries_of}
use Rattle.segment_file.specs.declared.scan_result.Tail.{Tail}
use Rattle.source_recovery.specs.Recovery.{TakesSource}
use Rattle.cli_shared.specs.declared.report.Detail.TheVariants.{Fine, Write, NoAccount, NoSuchLsn}
use Rattle.cli_reports.specs.Reports.{AnswersReport, OfList, RefusesLsn}
use Rattle.cli_reports.proofs.ReportLemmas.{ReadsAll-of_list}
use Rattle.cli_view.specs.declared.accounts_at.AccountsAt.{AccountsAt}
use Rattle.cli_view.specs.declared.one_account.OneAccount.{OneAccount}
use Rattle.cli_view.specs.AccountsAt.{HasTakenAt, IsAnswerAt}
use Rattle.cli_view.specs.OneAccount.{HasKeptOne}
use Rattle.cli_view.specs.Reports.{RefusesAccount, SaysAccounts, SaysStatement, statement_lines}
use Rattle.cli_view.proofs.AccountsAtLemmas.{boundary-place, place-boundary}
use Rattle.cli_view.proofs.BalanceLemmas.{HasBalances-accounts_text}

-- what is said of a list that was read is said of the input's
module _ {T : Type 0} (HasTaken : Opening → T → List Placed → Type 0) (left left_new : Option (List ℕ)) (taker : T) (tail : Tail)
    (read : TakesSource HasTaken left left_new taker tail) where
  read-of_list : (Said : OpenedList → Type 0) → Said read.list → IfSome left (λ all. OfList all left_new Said)
  read-of_list Said is = ReadsAll-of_list left left_new read.bytes read.list Said read.read read.held is

  -- the tail stands at its end
  pub read-end : tail.next ≡ end_from (opening_before read.list).state.end (placed read.list)
  read-end = read.stands.next ∙ sym (end_from-history read.list.opening.lsn [] read.list.records)

-- the accounts at an LSN of a list of which only they were kept
module _ (left left_new : Option (List ℕ)) (lsn asked : ℕ) (taker : AccountsAt) (tail : Tail) (same : asked ≡ lsn)
    (given : TakesSource (HasTakenAt asked) left left_new taker tail) (found : Option Accounts)
    (told : (one : ℕ) (opening : Opening) (h : List Placed) → HasTakenAt one opening taker h → tail.next ≡ end_from opening.state.end h
    → IsAnswerAt one opening h found) where
  read : TakesSource (HasTakenAt lsn) left left_new taker tail
  read = subst (λ n. TakesSource (HasTakenAt n) left left_new taker tail) same given

  answer : IsAnswerAt lsn (opening_before read.list) (placed read.list) found
  answer = told lsn (opening_before read.list) (placed read.list) read.taken (read-end (HasTakenAt lsn) left left_new taker tail read)

  -- nothing is said at an LSN that is no boundary
  pub asof-refused : (old new : Option (List ℕ)) → found ≡ None
      → IfSome left (λ all. AnswersReport (SaysAccounts lsn) (RefusesLsn lsn) all left_new old new (NoSuchLsn lsn))
  asof-refused old new is =
      let none = subst (IsAnswerAt lsn (opening_before read.list) (placed read.list)) is answer in
      read-of_list (HasTakenAt lsn) left left_new taker tail read (λ list. RefusesLsn lsn list (NoSuchLsn lsn))
      (refl, λ boundary. none (boundary-place read.list lsn boundary))

  module _ (accounts : Accounts) (is : found ≡ Some accounts) where
    says-accounts : SaysAccounts lsn read.list (rows_text lsn accounts.rows)
    says-accounts =
        let at = subst (IsAnswerAt lsn (opening_before read.list) (placed read.list)) is answer in
        let boundary = place-boundary read.list lsn at.0 in
        (boundary, HasBalances-accounts_text read.list lsn accounts.rows boundary at.1)

    pub asof-fine : (old new : Option (List ℕ)) → Appends old new (rows_text lsn accounts.rows)
        → IfSome left (λ all. AnswersReport (SaysAccounts lsn) (RefusesLsn lsn) all left_new old new Fine)
    asof-fine old new written = read-of_list (HasTakenAt lsn) left left_new taker tail read
        (λ list. (text : List ℕ) × SaysAccounts lsn list text × Appends old new text) (rows_text lsn accounts.rows, says-accounts, written)

    pub asof-write : (old new : Option (List ℕ)) → AppendsPart old new (rows_text lsn accounts.rows)
        → IfSome left (λ all. AnswersReport (SaysAccounts lsn) (RefusesLsn lsn) all left_new old new Write)
    asof-write old new written = read-of_list (HasTakenAt lsn) left left_new taker tail read
        (λ list. (text : List ℕ) × SaysAccounts lsn list text × AppendsPart old new text) (rows_text lsn accounts.rows, says-accounts, written)

-- the statement of an account of a list of which only its entries were kept
module _ (left left_new : Option (List ℕ)) (account : ℕ) (taker : OneAccount) (tail : Tail)
    (read : TakesSource (HasKeptOne account) left left_new taker tail) where
  pub statement-refused : (old new : Option (List ℕ)) → (base_with (opening_before read.list) (placed read.list)).accounts ≤ account
      → IfSome left (λ all. AnswersReport (SaysStatement account) (RefusesAccount account) all left_new old new (NoAccount account))
  statement-refused old new none = read-of_list (HasKeptOne account) left left_new taker tail read
      (λ list. RefusesAccount account list (NoAccount account)) (refl, λ some. absurd (omega (arith, some, none)))

  module _ (balance : ℕ) (entries : List Entry) (inside : account < (base_in read.list).accounts)
      (first : balance ≡ (base_in read.list).balance account)
      (each : entries ≡ entries_of (opening_before read.list) (placed read.list) account) where
    abbrev pub text_written : List ℕ
    text_written = statement_lines balance entries tail.next

    says-statement : SaysStatement account read.list text_written
    says-statement = (inside, λ i. statement_lines (first i) (each i) (read.stands.next i))

    pub statement-fine : (old new : Option (List ℕ)) → Appends old new text_written
        → IfSome left (λ all. AnswersReport (SaysStatement account) (RefusesAccount account) all left_new old new Fine)
    statement-fine old new written = read-of_list (HasKeptOne account) left left_new taker tail read
        (λ list. (text : List ℕ) × SaysStatement account list text × Appends old new text) (text_written, says-statement, written)

    pub statement-write : (old new : Option (List ℕ)) → AppendsPart old new text_written
        → IfSome left (λ all. AnswersReport (SaysStatement account) (RefusesAccount account) all left_new old new Write)
    statement-write old new written = read-of_list (HasKeptOne account) left left_new taker tail read
        (λ list. (text : List ℕ) × SaysStatement account list text × AppendsPart old new text) (text_written, says-statement, written)
