use Rattle.lock_core.proofs.Witnessing.{snapshot-is, cut-lawful, again_behind_cut-unlawful}
use Rattle.lock_core.proofs.laws.cut_log_goes_on.Goals as goal

pub returns-clause-snapshot : goal.returns-clause-snapshot
returns-clause-snapshot c = snapshot-is

pub returns-clause-lawful : goal.returns-clause-lawful
returns-clause-lawful c = cut-lawful

pub returns-clause-again : goal.returns-clause-again
returns-clause-again c = again_behind_cut-unlawful
