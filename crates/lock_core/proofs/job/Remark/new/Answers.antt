use Rattle.std.proofs.Common.{sym, refl, arith}
use Rattle.std.proofs.lemmas.Bool.{eqb-false}
use Rattle.lock_core.proofs.job.Remark.new.Goals as goal

pub invariant_of-result : goal.invariant_of-result
invariant_of-result c =
    let some = eqb-false _ _ (sym c.if-is_empty.ensures) in
    rw (c.from_bytes.ensures) (omega (arith, some), omega arith, c.if-not-is_printable.ensures.0 refl)

pub from_bytes-requires : goal.from_bytes-requires
from_bytes-requires c = omega arith
