-- The plain program, entry by entry.
use Rattle.std.proofs.Common.{◌≡◌, ◌≤◌, ◌<◌, ◌==◌, ◌&&◌, ◌||◌, ℕ, zero, suc, ◌+ℤ◌, Bool, true, false, cond, List, [], ◌∷◌, ◌++◌, length, take, drop}
use Rattle.std.proofs.Common.{reverse, get_or, refl, ap, ◌∙◌, sym, subst, arith, eq-eqb, ne_eqb, le_trans, lt_of_lt_of_le, zero-le}
use Rattle.std.proofs.lemmas.List.{reverse-append, take-append-drop, get_or_past}
use mathlib.Core.Logic.{dite}
use native.Mathlib.Decide.{ℕ_discrete, dec_lt}
use Rattle.lsn_space.specs.Opening as space
use Rattle.log_record.specs.declared.rec.Rec.{Rec}
use Rattle.log_record.specs.declared.rec.Rec.TheVariants.{Genesis, Update, Commit, Short, Over, Note}
use Rattle.log_record.specs.declared.rec.Placed.{Placed}
use Rattle.log_record.specs.Spelling.{IsBalance}
use Rattle.lock_core.specs.declared.update.Change.{Change}
use Rattle.lock_core.specs.Records.{txn_of, commits, changes_of}
use Rattle.lock_core.specs.Transactions.{of_transaction, recs_of, updates_of, has_commit, touches, is_committed}
use Rattle.lock_core.specs.Sums.{Opening}
use Rattle.lock_core.specs.Tests.{OpensLedger}
use Rattle.lock_core.specs.Lawful.{IsLawful, base_with, with_genesis}
use Rattle.lock_core.specs.AccountRows.{opening_of}
use Rattle.lock_core.proofs.OneMore.{updates_of-first_own, updates_of-first_other}
use Rattle.lock_core.proofs.Fronts.{lawful-front}
use Rattle.lock_core.proofs.KindLemmas.{all_genesis-accounts_count}
use Rattle.ledger_view.specs.declared.view.View.{View}
use Rattle.ledger_view.specs.Entries.{net_of}
use Rattle.ledger_view.specs.Plain.{own_changes, FrontsBeginInRange}
use Rattle.ledger_view.specs.ViewedAccounts.{account_at, HasViewed}
use Rattle.ledger_view.proofs.EntryLemmas.{add_up-first_in_range}
use Rattle.ledger_view.proofs.HistoryLemmas.{accounts-grow, base_balance-one_entry_more}
use Rattle.ledger_view.proofs.NetLemmas.{net_of-append}
use Rattle.ledger_view.proofs.ViewLemmas.{last-in-range}

-- the Updates of a transaction with one entry more
updates-more : (txn : ℕ) (entry : Placed) (h : List Placed) → updates_of txn (entry ∷ h) ≡ own_changes txn entry.rec ++ updates_of txn h
updates-more txn entry h = dite (ℕ_discrete (txn_of entry.rec) txn)
    (λ same. updates_of-first_own txn entry h same
    ∙ sym (ap (λ b. cond b (changes_of entry.rec) [] ++ updates_of txn h) (eq-eqb (txn_of entry.rec) txn same)))
    (λ other. updates_of-first_other txn entry h other
    ∙ sym (ap (λ b. cond b (changes_of entry.rec) [] ++ updates_of txn h) (ne_eqb (txn_of entry.rec) txn other)))

touches-append : (account : ℕ) (xs ys : List Change) → touches account (xs ++ ys) ≡ (touches account xs || touches account ys)
touches-append account [] ys = refl
touches-append account (x ∷ xs) ys = by_case (x.account == account) (touches-append account xs ys)
  where
    by_case : (b : Bool) → touches account (xs ++ ys) ≡ (touches account xs || touches account ys)
        → (b || touches account (xs ++ ys)) ≡ ((b || touches account xs) || touches account ys)
    by_case true rest = refl
    by_case false rest = rest

pub net-more : (txn account : ℕ) (entry : Placed) (h : List Placed)
    → net_of account (updates_of txn (entry ∷ h)) ≡ net_of account (own_changes txn entry.rec) +ℤ net_of account (updates_of txn h)
net-more txn account entry h = ap (net_of account) (updates-more txn entry h) ∙ net_of-append account (own_changes txn entry.rec) (updates_of txn h)

pub touches-entry : (txn account : ℕ) (entry : Placed) (h : List Placed)
    → touches account (updates_of txn (entry ∷ h)) ≡ (touches account (own_changes txn entry.rec) || touches account (updates_of txn h))
touches-entry txn account entry h = ap (touches account) (updates-more txn entry h) ∙ touches-append account (own_changes txn entry.rec) (updates_of txn h)

and-true : (x : Bool) → (x && true) ≡ x
and-true true = refl
and-true false = refl

and-false : (x : Bool) → (x && false) ≡ false
and-false true = refl
and-false false = refl

-- the Commits of a transaction with one entry more
pub committed-more : (txn : ℕ) (entry : Placed) (h : List Placed)
    → is_committed txn (entry ∷ h) ≡ ((commits entry.rec && (txn_of entry.rec == txn)) || is_committed txn h)
committed-more txn entry h = by_case (txn_of entry.rec == txn)
  where
    by_case : (b : Bool) → has_commit (recs_of (cond b (entry ∷ of_transaction txn h) (of_transaction txn h))) ≡ ((commits entry.rec && b) || is_committed txn h)
    by_case true = ap (λ c. c || is_committed txn h) (sym (and-true (commits entry.rec)))
    by_case false = ap (λ c. c || is_committed txn h) (sym (and-false (commits entry.rec)))

-- an account that a lawful list doesn't have begins as the opening says, which doesn't have it either
base_balance-unknown : (opening : Opening) (h : List Placed) (account : ℕ) → IsLawful opening h → (base_with opening h).accounts ≤ account
    → (opening.state.accounts ≤ account) × ((base_with opening h).balance account ≡ opening.state.balance account)
base_balance-unknown opening [] account lawful past = (past, refl)
base_balance-unknown opening (entry ∷ h) account lawful past =
    let before = base_balance-unknown opening h account lawful.1 (le_trans (accounts-grow opening h entry.rec) past) in
    (before.0, by_kind entry.rec lawful.0.0 past before.1)
  where
    by_kind : (rec : Rec) → OpensLedger opening h rec → (with_genesis rec (base_with opening h)).accounts ≤ account
        → (base_with opening h).balance account ≡ opening.state.balance account
        → (with_genesis rec (base_with opening h)).balance account ≡ opening.state.balance account
    by_kind (Genesis own balance) opens past before =
        let count = all_genesis-accounts_count opening h opens.1 in let none = opens.0 in let next = opens.2 in
        ap (λ b. cond b balance ((base_with opening h).balance account)) (ne_eqb account own (λ same. absurd (omega arith))) ∙ before
    by_kind (Update txn own delta prev) opens past before = before
    by_kind (Commit txn legs) opens past before = before
    by_kind (Short txn leg) opens past before = before
    by_kind (Over txn leg) opens past before = before
    by_kind (Note txn text) opens past before = before

-- an account of a front of a lawful list is one of the whole, and begins there with the same balance
base_balance-front : (opening : Opening) (later front : List Placed) (account : ℕ) → IsLawful opening (later ++ front) → account < (base_with opening front).accounts
    → (account < (base_with opening (later ++ front)).accounts) × ((base_with opening front).balance account ≡ (base_with opening (later ++ front)).balance account)
base_balance-front opening [] front account lawful inside = (inside, refl)
base_balance-front opening (entry ∷ later) front account lawful inside =
    let before = base_balance-front opening later front account lawful.1 inside in
    (lt_of_lt_of_le before.0 (accounts-grow opening (later ++ front) entry.rec), before.1 ∙ base_balance-one_entry_more opening entry (later ++ front) account lawful.0 before.0)

-- a list that a view was given begins, with each front of it, in range
pub viewed-fronts_begin_in_range : (opening : space.Opening) (view : View) (h : List Placed) (account : ℕ) → HasViewed (opening_of opening) view h
    → FrontsBeginInRange (opening_of opening) h account
viewed-fronts_begin_in_range opening view h account viewed later front is = dite (dec_lt account (base_with before front).accounts)
    (λ inside. let same = base_balance-front before later front account lawful inside in
    subst IsBalance (sym (same.1 ∙ ap (λ l. (base_with before l).balance account) (sym is))) (known (subst (λ l. account < (base_with before l).accounts) (sym is) same.0)))
    (λ outside. let none = base_balance-unknown before front account (lawful-front before later front lawful) (omega (arith, outside)) in
    subst IsBalance (sym (none.1 ∙ ap (λ (row : ℕ × ℕ). row.0) (get_or_past opening.accounts account (0, 0) none.0))) zero-le)
  where
    before : Opening
    before = opening_of opening

    lawful : IsLawful before (later ++ front)
    lawful = subst (IsLawful before) is viewed.judged.ledger.judged.lawful

    known : account < (base_with before h).accounts → IsBalance ((base_with before h).balance account)
    known within =
        let counted = viewed.count in
        let inside : account < length view.accounts = omega (arith, counted, within) in
        let kept = viewed.each account inside in
        subst IsBalance kept.base
        (add_up-first_in_range 0 kept.first (account_at view.accounts account).entries kept.sums (subst IsBalance (sym kept.last) (last-in-range before view h account viewed inside)))

-- what is so of each front of a list, of the entries up to a place
pub fronts_begin-take : (opening : Opening) (account : ℕ) (entries : List Placed) (n : ℕ) → FrontsBeginInRange opening (reverse entries) account
    → IsBalance ((base_with opening (reverse (take n entries))).balance account)
fronts_begin-take opening account entries n begin =
    begin (reverse (drop n entries)) (reverse (take n entries)) (ap reverse (sym (take-append-drop n entries)) ∙ reverse-append (take n entries) (drop n entries))

get_or-again : (entries : List Placed) (i : ℕ) (d : Placed) → i < length entries → get_or entries i (get_or entries i d) ≡ get_or entries i d
get_or-again [] i d inside = absurd (omega arith)
get_or-again (entry ∷ entries) zero d inside = refl
get_or-again (entry ∷ entries) (suc i) d inside = again entries i d (get_or entries i d) (omega arith)
  where
    again : (entries : List Placed) (i : ℕ) (d e : Placed) → i < length entries → get_or entries i e ≡ get_or entries i d
    again [] i d e inside = absurd (omega arith)
    again (entry ∷ entries) zero d e inside = refl
    again (entry ∷ entries) (suc i) d e inside = again entries i d e (omega arith)

-- what stands in a place of the log
pub placed_at-exists : (entries : List Placed) (i : ℕ) → i < length entries → (entry : Placed) × (entry ≡ get_or entries i entry)
placed_at-exists entries i inside =
    let none : Placed = record { end = 0; rec = Genesis 0 0 } in
    (get_or entries i none, sym (get_or-again entries i none inside))
