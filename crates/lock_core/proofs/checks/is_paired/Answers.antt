use Rattle.std.proofs.Common.{rules}
use Rattle.lock_core.proofs.checks.is_paired.Goals as goal

pub returns-then-from : goal.returns-then-from
returns-then-from c = search rules steps 600000

pub returns-else-from : goal.returns-else-from
returns-else-from c = search rules steps 600000

pub returns-in_default : goal.returns-in_default
returns-in_default c = search rules steps 600000
