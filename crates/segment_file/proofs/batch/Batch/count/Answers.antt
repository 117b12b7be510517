use Rattle.std.proofs.Common.{arith}
use Rattle.segment_file.proofs.PackingLemmas.{length-packed, length-packed_state}
use Rattle.segment_file.proofs.batch.Batch.count.Goals as goal

pub overflow_sub-result : goal.overflow_sub-result
overflow_sub-result c = omega (arith, length-packed _ _ _ _ c.self.invariant, c.len.ensures)

pub overflow_cast-result : goal.overflow_cast-result
overflow_cast-result c = omega (arith, length-packed _ _ _ _ c.self.invariant, c.len.ensures, c.self.invariant.few, c.self.invariant.small)

pub returns : goal.returns
returns c = omega (arith, length-packed_state _ _ _ _ _ c.self.invariant c.self.view_is, c.len.ensures)
