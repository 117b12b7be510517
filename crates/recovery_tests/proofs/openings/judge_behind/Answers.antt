use Rattle.std.proofs.Common.{inr, [], sym, subst}
use Rattle.std.specs.Prelude.{IfOk}
use Rattle.lsn_space.specs.Opening.{Opening, IsSnapshot}
use Rattle.lock_core.specs.AccountRows.{opening_of}
use Rattle.lock_core.specs.Taking.{HasJudged}
use Rattle.lock_core.proofs.Witnessing.{snapshot-is}
use Rattle.recovery_tests.proofs.openings.judge_behind.Goals as goal

pub after-requires : goal.after-requires
after-requires c = inr (subst IsSnapshot (sym c.in_ok-opening.ensures) snapshot-is)

pub returns : goal.returns
returns c = subst (λ (o : Opening). IfOk c.after.result (λ judge. HasJudged (opening_of o) judge [])) c.in_ok-opening.ensures c.after.ensures
