use Rattle.std.proofs.Common.{◌<◌, ◌≤◌, ℕ, length, get_or, ap, sym, subst, arith}
use Rattle.std.specs.List.Sorted.{IsNonDecreasingBy}
use Rattle.ledger_view.specs.declared.entries.Entry.{Entry}
use Rattle.ledger_view.proofs.MarkLemmas.{no_row}
use Rattle.ledger_view.proofs.RowLemmas.{length-entries_of_rows, entries_of_rows_end-at, rows-rise}
use Rattle.ledger_view.proofs.entries.Entries.count_to.Goals as goal

pub count_to-requires : goal.count_to-requires
count_to-requires c =
    rows-rise c.self.inside.first c.self.inside.rows (subst (IsNonDecreasingBy (λ (entry : Entry). entry.end)) (sym c.self.view_is) c.requires)

pub returns-clause-bound : goal.returns-clause-bound
returns-clause-bound c =
    let long = length-entries_of_rows c.self.inside.first c.self.inside.rows in let seen = ap length c.self.view_is in
    omega (arith, long, seen, c.count_to.ensures.bound)

pub returns-clause-below : goal.returns-clause-below
returns-clause-below c = subst (λ l. (i : ℕ) (d : Entry) → i < c.count_to.result → (get_or l i d).end ≤ c.args.lsn) c.self.view_is
    (λ i d before.
    let end = entries_of_rows_end-at c.self.inside.first c.self.inside.rows i d no_row (omega (arith, before, c.count_to.ensures.bound)) in
    let low = c.count_to.ensures.below i no_row before in
    omega (arith, end, low))

pub returns-clause-behind : goal.returns-clause-behind
returns-clause-behind c = subst (λ l. (i : ℕ) (d : Entry) → c.count_to.result ≤ i → i < length l → c.args.lsn < (get_or l i d).end) c.self.view_is
    (λ i d from inside.
    let long = length-entries_of_rows c.self.inside.first c.self.inside.rows in
    let within : i < length c.self.inside.rows = omega (arith, long, inside) in
    let end = entries_of_rows_end-at c.self.inside.first c.self.inside.rows i d no_row within in
    let high = c.count_to.ensures.behind i no_row from within in
    omega (arith, end, high))
