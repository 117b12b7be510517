use Rattle.std.proofs.Common.{◌∙◌, ◌++◌, ◌∷◌, [], List, ap}
use Rattle.std.proofs.lemmas.Result.{on_ok_weaker}
use Rattle.ledger_view.specs.declared.entries.Entry.{Entry}
use Rattle.ledger_view.specs.Rows.{entry_of_row, entries_of_rows}
use Rattle.ledger_view.specs.ViewedAccounts.{last_balance}
use Rattle.ledger_view.proofs.RowLemmas.{entries_of_rows-append, last_balance-any_first}
use Rattle.ledger_view.proofs.entries.Entries.push.Goals as goal

pub returns : goal.returns
returns c = on_ok_weaker c.push.result
    (λ pushed first.
    ap (entries_of_rows c.self.inside.first) pushed
    ∙ entries_of_rows-append c.self.inside.first c.self.inside.rows c.args.row
    ∙ ap (λ (l : List Entry). l ++ entry_of_row (last_balance c.self.inside.first l) c.args.row ∷ []) c.self.view_is
    ∙ ap (λ n. c.args.self.now ++ entry_of_row n c.args.row ∷ []) (last_balance-any_first c.self.inside.first first c.args.self.now c.requires))
    c.push.ensures
