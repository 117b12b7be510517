use Rattle.std.proofs.Common.{◌∙◌, length, ap, sym}
use Rattle.ledger_view.proofs.RowLemmas.{length-entries_of_rows}
use Rattle.ledger_view.proofs.entries.Entries.count.Goals as goal

pub returns : goal.returns
returns c = c.count.ensures ∙ sym (length-entries_of_rows c.self.inside.first c.self.inside.rows) ∙ ap length c.self.view_is
