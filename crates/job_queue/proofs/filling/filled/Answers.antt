use Rattle.std.proofs.Common.{ap, sym, arith}
use Rattle.job_queue.specs.declared.takings.Takings.{Takings}
use Rattle.job_queue.proofs.Pushing.{IsShared-fresh, IsShared-pushes_place, IsShared-pushes_mark, Learns-length_le}
use Rattle.job_queue.proofs.filling.filled.Goals as goal

pub ruled-requires-clause-rule : goal.ruled-requires-clause-rule
ruled-requires-clause-rule g c = IsShared-fresh

pub push_as-requires-clause-rule : goal.push_as-requires-clause-rule
push_as-requires-clause-rule g c = let put = c.places.invariant.put in (
  IsShared-pushes_place _ _ _ _ c.places.invariant.first (sym (ap (λ (v : Takings). v.count) put))
      (ap (λ (v : Takings). v.marks) put) (ap (λ (v : Takings). v.out) put),
  Learns-length_le _ _ c.places.invariant.first,
)

pub push_as-requires-in-marks-clause-rule : goal.push_as-requires-in-marks-clause-rule
push_as-requires-in-marks-clause-rule g c = let put = c.marks.invariant.put in (
  IsShared-pushes_mark _ _ _ _ c.marks.invariant.first (omega (arith, ap (λ (v : Takings). v.count) put, ap (λ (v : Takings). v.marks) put)),
  Learns-length_le _ _ c.marks.invariant.first,
)
