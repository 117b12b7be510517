use Rattle.std.proofs.Common.{◌≡◌, ◌∙◌, ◌-◌, ◌-ℤ◌, pos, suc, length, get_or, ap, sym, subst, arith}
use Rattle.ledger_view.specs.declared.rows.Row.{Row}
use Rattle.ledger_view.specs.declared.entries.Entry.{Entry}
use Rattle.ledger_view.specs.Rows.{entries_of_rows}
use Rattle.ledger_view.proofs.MarkLemmas.{no_row}
use Rattle.ledger_view.proofs.RowLemmas.{length-entries_of_rows, balance_before, entries_of_rows_net-at}
use Rattle.ledger_view.proofs.entries.Entries.balance_before.Goals as goal

pub at-requires : goal.at-requires
at-requires c =
    let long = length-entries_of_rows c.self.inside.first c.self.inside.rows in let seen = ap length c.self.view_is in
    omega (arith, long, seen, c.requires, c.if-i-eq0.false)

pub returns-then-i-eq0-clause-net : goal.returns-then-i-eq0-clause-net
returns-then-i-eq0-clause-net c =
    let first = c.self.inside.first in let rows = c.self.inside.rows in
    let long = length-entries_of_rows first rows in let seen = ap length c.self.view_is in
    subst (λ l. (d : Entry) → (get_or l c.args.i d).net ≡ pos (get_or l c.args.i d).balance -ℤ pos first) c.self.view_is
    (λ d. entries_of_rows_net-at first rows c.args.i d (omega (arith, long, seen, c.requires))
    ∙ ap (λ n. pos (get_or (entries_of_rows first rows) c.args.i d).balance -ℤ pos (balance_before first rows n)) c.if-i-eq0.true)

pub returns-clause-net : goal.returns-clause-net
returns-clause-net c =
    let first = c.self.inside.first in let rows = c.self.inside.rows in
    let long = length-entries_of_rows first rows in let seen = ap length c.self.view_is in
    let next : c.args.i ≡ suc (c.args.i - 1) = omega (arith, c.if-i-eq0.false) in
    subst (λ l. (d : Entry) → (get_or l c.args.i d).net ≡ pos (get_or l c.args.i d).balance -ℤ pos c.at.result.balance) c.self.view_is
    (λ d. entries_of_rows_net-at first rows c.args.i d (omega (arith, long, seen, c.requires))
    ∙ ap (λ n. pos (get_or (entries_of_rows first rows) c.args.i d).balance -ℤ pos n)
    (ap (balance_before first rows) next ∙ sym (ap (λ (r : Row). r.balance) (c.at.ensures no_row))))
