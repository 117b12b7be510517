use Rattle.std.proofs.Common.{◌∙◌, ◌++◌, ◌∷◌, [], List, ap}
use Rattle.std.proofs.lemmas.Result.{on_ok_weaker}
use Rattle.ledger_view.specs.declared.rows.Row.{Row}
use Rattle.ledger_view.specs.Rows.{entries_of_rows}
use Rattle.ledger_view.proofs.RowLemmas.{entries_of_rows_none-rows_none}
use Rattle.ledger_view.proofs.entries.Entries.push_first.Goals as goal

pub returns : goal.returns
returns c = on_ok_weaker c.push.result
    (λ pushed. ap (entries_of_rows c.args.first)
    (pushed ∙ ap (λ (l : List Row). l ++ c.args.row ∷ []) (entries_of_rows_none-rows_none c.self.inside.first c.self.inside.rows (c.self.view_is ∙ c.requires.none))))
    c.push.ensures
