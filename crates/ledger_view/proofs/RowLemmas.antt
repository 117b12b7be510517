-- The entries that rows are kept of.
use Rattle.std.proofs.Common.{◌≡◌, ◌<◌, ℕ, zero, suc, pos, ◌+ℤ◌, ◌-ℤ◌, ℤ, List, [], ◌∷◌, ◌++◌, length, get_or, refl, ap, ◌∙◌, sym, arith}
use Rattle.std.proofs.lemmas.Int.{ints}
use Rattle.std.specs.List.Sorted.{IsNonDecreasingBy}
use Rattle.ledger_view.specs.declared.rows.Row.{Row}
use Rattle.ledger_view.specs.declared.entries.Entry.{Entry}
use Rattle.ledger_view.specs.Rows.{entry_of_row, entries_of_rows}
use Rattle.ledger_view.specs.ViewedAccounts.{last_balance}
use Rattle.ledger_view.proofs.MarkLemmas.{no_row, Rises}

pub length-entries_of_rows : (first : ℕ) (rows : List Row) → length (entries_of_rows first rows) ≡ length rows
length-entries_of_rows first [] = refl
length-entries_of_rows first (row ∷ rows) = ap (λ n. suc n) (length-entries_of_rows row.balance rows)

pub entries_of_rows-append : (first : ℕ) (rows : List Row) (row : Row)
    → entries_of_rows first (rows ++ row ∷ []) ≡ entries_of_rows first rows ++ entry_of_row (last_balance first (entries_of_rows first rows)) row ∷ []
entries_of_rows-append first [] row = refl
entries_of_rows-append first (x ∷ rows) row = ap (λ entries. entry_of_row first x ∷ entries) (entries_of_rows-append x.balance rows row)

-- where there are entries, they lead to the same balance from any
pub last_balance-any_first : (first other : ℕ) (entries : List Entry) → 0 < length entries → last_balance first entries ≡ last_balance other entries
last_balance-any_first first other [] some = absurd (omega arith)
last_balance-any_first first other (entry ∷ entries) some = refl

pub entries_of_rows_none-rows_none : (first : ℕ) (rows : List Row) → entries_of_rows first rows ≡ [] → rows ≡ []
entries_of_rows_none-rows_none first [] none = refl
entries_of_rows_none-rows_none first (row ∷ rows) none = absurd (let long = ap length none in omega arith)

-- the balance before a row
abbrev pub balance_before : ℕ → List Row → ℕ → ℕ
balance_before first rows zero = first
balance_before first rows (suc i) = (get_or rows i no_row).balance

pub entries_of_rows-at : (first : ℕ) (rows : List Row) (i : ℕ) (d : Entry) (r : Row) → i < length rows
    → get_or (entries_of_rows first rows) i d ≡ entry_of_row (balance_before first rows i) (get_or rows i r)
entries_of_rows-at first [] i d r inside = absurd (omega arith)
entries_of_rows-at first (row ∷ rows) zero d r inside = refl
entries_of_rows-at first (row ∷ rows) (suc zero) d r inside = entries_of_rows-at row.balance rows zero d r (omega arith)
entries_of_rows-at first (row ∷ rows) (suc (suc i)) d r inside = entries_of_rows-at row.balance rows (suc i) d r (omega arith)

-- entries end where their rows do
pub entries_of_rows_end-at : (first : ℕ) (rows : List Row) (i : ℕ) (d : Entry) (r : Row) → i < length rows → (get_or (entries_of_rows first rows) i d).end ≡ (get_or rows i r).end
entries_of_rows_end-at first rows i d r inside = ap (λ (e : Entry). e.end) (entries_of_rows-at first rows i d r inside)

pub rows-rise : (first : ℕ) (rows : List Row) → IsNonDecreasingBy (λ (entry : Entry). entry.end) (entries_of_rows first rows) → Rises rows
rows-rise first rows rises i j r before inside =
    let long = length-entries_of_rows first rows in
    let none = entry_of_row 0 r in
    let up = rises i j none before (omega (arith, long, inside)) in
    let low = entries_of_rows_end-at first rows i none r (omega (arith, before, inside)) in
    let high = entries_of_rows_end-at first rows j none r inside in
    omega (arith, up, low, high)

-- what an entry adds is what its row's balance is above the balance before it
pub entries_of_rows_net-at : (first : ℕ) (rows : List Row) (i : ℕ) (d : Entry) → i < length rows
    → (get_or (entries_of_rows first rows) i d).net ≡ pos (get_or (entries_of_rows first rows) i d).balance -ℤ pos (balance_before first rows i)
entries_of_rows_net-at first rows i d inside =
    let is = entries_of_rows-at first rows i d no_row inside in
    ap (λ (e : Entry). e.net) is ∙ ap (λ (e : Entry). pos e.balance -ℤ pos (balance_before first rows i)) (sym is)

-- the entry at a place, which has its row's numbers and adds this
pub entry_of_row-at : (first : ℕ) (rows : List Row) (i : ℕ) (d : Entry) (row : Row) (before : ℕ) → i < length rows → ((r : Row) → row ≡ get_or rows i r)
    → (get_or (entries_of_rows first rows) i d).net ≡ pos (get_or (entries_of_rows first rows) i d).balance -ℤ pos before
    → entry_of_row before row ≡ get_or (entries_of_rows first rows) i d
entry_of_row-at first rows i d row before inside is net =
    let own = entries_of_rows-at first rows i d row inside in
    let same : balance_before first rows i ≡ before = (let e = ap (λ (e : Entry). e.net) own in let b = ap (λ (e : Entry). e.balance) own in omega (arith, ints, net, e, b)) in
    (λ j. entry_of_row (sym same j) (is row j)) ∙ sym own

-- a row of which the net is known
pub entry_of_row-net : (before : ℕ) (row : Row) (net : ℤ) → pos row.balance ≡ pos before +ℤ net
    → entry_of_row before row ≡ record { end = row.end; txn = row.txn; net = net; balance = row.balance }
entry_of_row-net before row net sum =
    let same : pos row.balance -ℤ pos before ≡ net = omega (arith, ints, sum) in
    λ i. record { end = row.end; txn = row.txn; net = same i; balance = row.balance }
