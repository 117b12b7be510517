use Rattle.std.proofs.Common.{◌≡◌, ◌∙◌, ◌-ℤ◌, pos, length, get_or, ap, sym, subst, arith, rules, w64, SFits, to_z, of_z}
use Rattle.std.proofs.lemmas.Int.{to_z-of_z}
use Rattle.ledger_view.specs.Rows.{entry_of_row}
use Rattle.ledger_view.proofs.RowLemmas.{length-entries_of_rows, entry_of_row-at}
use Rattle.ledger_view.proofs.entries.Entries.at.Goals as goal

pub at-row-requires : goal.at-row-requires
at-row-requires c =
    let long = length-entries_of_rows c.self.inside.first c.self.inside.rows in let seen = ap length c.self.view_is in
    omega (arith, long, seen, c.requires)

pub returns : goal.returns
returns c = λ d.
    let long = length-entries_of_rows c.self.inside.first c.self.inside.rows in let seen = ap length c.self.view_is in
    let fits : SFits w64 c.net_between.result = search rules in
    let net : to_z w64 (of_z w64 c.net_between.result) ≡ c.net_between.result = to_z-of_z w64 c.net_between.result fits in
    let before = c.balance_before.result in
    (λ i. record { end = c.at-row.result.end; txn = c.at-row.result.txn; net = (net ∙ c.net_between.ensures) i; balance = c.at-row.result.balance })
    ∙ subst (λ l. entry_of_row before c.at-row.result ≡ get_or l c.args.i d) c.self.view_is
    (entry_of_row-at c.self.inside.first c.self.inside.rows c.args.i d c.at-row.result before (omega (arith, long, seen, c.requires)) c.at-row.ensures
    (subst (λ l. (get_or l c.args.i d).net ≡ pos (get_or l c.args.i d).balance -ℤ pos before) (sym c.self.view_is) (c.balance_before.ensures.net d)))
