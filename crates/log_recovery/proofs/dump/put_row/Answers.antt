use Rattle.std.proofs.Common.{◌∙◌}
use Rattle.log_recovery.proofs.PuttingLemmas.{puts-same_text}
use Rattle.log_recovery.proofs.dump.put_row.Goals as goal

pub returns : goal.returns
returns g c = puts-same_text g.K.Sink _ _ _ _ _ _ _ (c.as_slice.ensures.bytes ∙ c.make_row.ensures) c.put.ensures.all c.put.ensures.prefix c.put.ensures.cause
