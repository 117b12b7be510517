-- The accounts of a list up to an LSN, as they are put into rows.
use Rattle.std.proofs.Common.{◌≡◌, ℕ, ◌-◌, List, [], ◌∷◌, ◌++◌, length, slice_index_or}
use Rattle.std.proofs.Common.{ap, ap₂, ◌∙◌, sym, arith, length-append}
use Rattle.std.proofs.Math.ListN.{get_or-append}
use Rattle.std.proofs.Math.Seq.{get_or-append_seam}
use mathlib.Core.Logic.{dite}
use native.Mathlib.Decide.{dec_lt}
use Rattle.log_record.specs.declared.rec.Placed.{Placed}
use Rattle.log_record.specs.LogList.{end_of, prefix_to}
use Rattle.log_record.proofs.LogListLemmas.{end_of-prefix_to-boundary}
use Rattle.lock_core.specs.Sums.{Opening}
use Rattle.lock_core.specs.Lawful.{base_with}
use Rattle.log_recovery.specs.Opened.{OpenedList, IsListBoundary, list_end, opening_before, placed}
use Rattle.log_recovery.specs.Text.{account_lines, accounts_text, lsn_line, rows_text}
use Rattle.log_recovery.proofs.TextLemmas.{account_lines-same, balance_in}
use Rattle.ledger_view.specs.Entries.{balance_after, front_to}
use Rattle.ledger_view.proofs.FrontLemmas.{front_to-prefix}
use Rattle.cli_view.specs.Balances.{AreBalances, HasBalances}
use Rattle.cli_view.specs.Reports.{list_to}

-- the accounts text of a history that ends at an LSN
abbrev text_at : Opening → ℕ → List Placed → List ℕ
text_at opening lsn h = lsn_line lsn ++ account_lines (balance_after opening h) (base_with opening h).accounts

rows-text : (opening : Opening) (h : List Placed) (lsn : ℕ) (rows : List (ℕ × ℕ)) → HasBalances opening h rows
    → rows_text lsn rows ≡ text_at opening lsn h
rows-text opening h lsn rows has =
    ap (λ lines. lsn_line lsn ++ lines) (account_lines-same (balance_in rows) (balance_after opening h) (length rows)
    (λ account inside. sym (has.each account inside)))
    ∙ ap (λ (n : ℕ). lsn_line lsn ++ account_lines (balance_after opening h) n) has.count

-- at a boundary of a list they are the accounts of the list up to there
pub HasBalances-accounts_text : (list : OpenedList) (lsn : ℕ) (rows : List (ℕ × ℕ)) → IsListBoundary list lsn
    → HasBalances (opening_before list) (front_to (placed list) lsn) rows → rows_text lsn rows ≡ accounts_text (list_to list lsn)
HasBalances-accounts_text list lsn rows boundary has =
    let begin : ℕ = list.opening.lsn in
    let at : lsn - begin ≡ boundary.0 = omega (arith, boundary.1) in
    let ended = ap (λ n. end_of (prefix_to list.records n)) at ∙ end_of-prefix_to-boundary list.records boundary.0 boundary.2 in
    let end : lsn ≡ list_end (list_to list lsn) = omega (arith, ended, boundary.1) in
    let front : front_to (placed list) lsn ≡ placed (list_to list lsn) = front_to-prefix begin [] list.records lsn (omega (arith, boundary.1)) in
    rows-text (opening_before list) (front_to (placed list) lsn) lsn rows has ∙ ap₂ (text_at (opening_before list)) end front

-- a row more, of the next account
pub AreBalances-push : (opening : Opening) (h : List Placed) (account balance : ℕ) (rows : List (ℕ × ℕ)) → account ≡ length rows
    → balance_after opening h account ≡ balance → AreBalances opening h rows → AreBalances opening h (rows ++ (balance, 0) ∷ [])
AreBalances-push opening h account balance rows next is each = λ one inside.
    let row : ℕ × ℕ = (balance, 0) in
    dite (dec_lt one (length rows))
    (λ old. each one old ∙ ap (λ (r : ℕ × ℕ). r.0) (sym (get_or-append rows (row ∷ []) (0, 0) one old)))
    (λ not_old.
    let here : one ≡ length rows = omega (arith, length-append rows (row ∷ []), not_old, inside) in
    ap (balance_after opening h) (here ∙ sym next)
    ∙ is
    ∙ ap (λ (r : ℕ × ℕ). r.0) (sym (get_or-append_seam rows row [] (0, 0)))
    ∙ ap (λ (n : ℕ). (slice_index_or (rows ++ row ∷ []) n (0, 0)).0) (sym here))
