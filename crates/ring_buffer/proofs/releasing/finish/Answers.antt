use Rattle.std.proofs.Common.{arith, inl, ◌∙◌, sym}
use Rattle.ring_buffer.proofs.releasing.finish.Goals as goal

pub store_mark-requires-clause-next : goal.store_mark-requires-clause-next
store_mark-requires-clause-next c = let filled = c.requires.filled in inl record {
  entry = filled.entry;
  filling = filled.call;
  full = filled.full;
  begins = c.start.ensures ∙ sym filled.start;
  ends = omega (arith, c.end.ensures, filled.start, filled.size);
}
