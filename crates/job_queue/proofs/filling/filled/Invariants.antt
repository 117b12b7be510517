use Rattle.std.proofs.Common.{◌≡◌, ◌+◌, true}
use Rattle.crossbeam_queue.specs.Passes.{view, IsPassOf, ruled_capacity}
use Rattle.job_queue.specs.Takings.{fresh}
use Rattle.job_queue.proofs.filling.filled.Given as goal

abbrev pub invariant-places : goal.invariant-places
invariant-places g l = record {
  pass : IsPassOf l.line l.pass;
  first : l.pass.id ≡ 0;
  put : view l.pass ≡ fresh true l.place 0 0 0;
  room : ruled_capacity l.line ≡ l.fn.count + l.fn.workers;
}

abbrev pub invariant-marks : goal.invariant-marks
invariant-marks g l = record {
  pass : IsPassOf l.line l.pass;
  first : l.pass.id ≡ 0;
  put : view l.pass ≡ fresh true l.fn.count l.mark 0 l.mark;
  room : ruled_capacity l.line ≡ l.fn.count + l.fn.workers;
}
