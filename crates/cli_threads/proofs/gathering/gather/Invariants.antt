use Rattle.std.proofs.Common.{◌≡◌, ◌+◌, ◌++◌, length, map, vec_len, vec_capacity}
use Rattle.std.specs.List.{AllByRecursion}
use Rattle.log_rule.specs.declared.view.Role.TheVariants.{Flusher}
use Rattle.log_table.specs.Seats.{IsOf, view_of}
use Rattle.log_rule.specs.Sound.{HasReadStop}
use Rattle.job_queue.specs.Passes.{HasFirstPass, IsSameQueue, marks_back, passes_out, places_back}
use Rattle.cli_threads.specs.Gathering.{HasLeft, all_marks, all_places, takes_all, view_in, worked_of}
use Rattle.cli_threads.proofs.gathering.gather.Given as goal

abbrev pub invariant-loop-worker : goal.invariant-loop-worker
invariant-loop-worker l = record {
  left : AllByRecursion (HasLeft l.table l.initial.jobs.queue) l.worker-iterator.rest.items;
  flusher_seat : IsOf l.table l.flusher_seat;
  flusher : (view_of l.flusher_seat).standing.role ≡ Flusher;
  sending : (view_of l.flusher_seat).sending ≡ (view_of l.initial.flusher_seat).sending;
  view : takes_all (view_of l.flusher_seat) (map view_in l.worker-iterator.rest.items)
      ≡ takes_all (view_of l.initial.flusher_seat) (map view_in l.initial.worker-iterator.rest.items);
  stops : AllByRecursion (HasReadStop (view_of l.initial.flusher_seat).sending.stop) (map view_in l.worker-iterator.rest.items)
      → AllByRecursion (HasReadStop (view_of l.initial.flusher_seat).sending.stop) (map view_in l.initial.worker-iterator.rest.items);
  jobs : HasFirstPass l.jobs;
  same : IsSameQueue l.initial.jobs l.jobs;
  out : passes_out l.jobs + length l.initial.worker-iterator.rest.items ≡ passes_out l.initial.jobs + length l.worker-iterator.rest.items;
  places : places_back l.jobs ++ all_places l.worker-iterator.rest.items
      ≡ places_back l.initial.jobs ++ all_places l.initial.worker-iterator.rest.items;
  marks : marks_back l.jobs ++ all_marks l.worker-iterator.rest.items
      ≡ marks_back l.initial.jobs ++ all_marks l.initial.worker-iterator.rest.items;
  ends : l.ends.items ++ map worked_of l.worker-iterator.rest.items ≡ map worked_of l.initial.worker-iterator.rest.items;
  all : vec_len l.ends + length l.worker-iterator.rest.items ≡ length l.initial.worker-iterator.rest.items;
  room : vec_capacity l.ends ≡ vec_capacity l.initial.ends;
}
