use Rattle.std.proofs.Common.{◌∷◌, [], ◌∙◌, ap}
use Rattle.log_record.proofs.writing.spell_commit.Goals as goal

pub returns : goal.returns
returns c = c.put_first.ensures ∙ ap (λ unit. unit ∷ []) c.header.ensures
