use Rattle.std.proofs.Common.{arith, ◌≡◌, ◌∙◌, ◌+◌, length, sym, subst}
use Rattle.cli_workers.specs.Workers.{AreUnused, IsUnusedAs}
use Rattle.cli_workers.proofs.HandingLemmas.{AreUnused-same, HandsOut-next, mark-left}
use Rattle.cli_workers.proofs.NumberedLemmas.{Numbered-push}
use Rattle.cli_workers.proofs.workers.hire_all.Goals as goal

pub hire-requires-clause-mark : goal.hire-requires-clause-mark
hire-requires-clause-mark c =
    let was = c.loop-number.invariant in
    mark-left c.loop-number.number c.args.jobs.now c.loop-number.jobs was.out c.requires.fresh.0 c.requires.fresh.1
    (omega (arith, c.requires.count))

pub loop-number-preserved : goal.loop-number-preserved
loop-number-preserved c =
    let was = c.loop-number.invariant in
    let table = c.args.table.now in
    let queue = c.hire.new.jobs.queue in
    let workers = c.loop-number.workers in
    let P = IsUnusedAs table queue in
    let worker = c.in_ok-hire.field-0 in
    let place : worker.seat.worker ≡ 0 + length workers.items = omega (arith, c.in_ok-hire.ensures.number, was.count, workers.ok.0) in
    let next : P (0 + length workers.items) worker = (place, c.in_ok-hire.ensures.unused) in
    let before = AreUnused-same table c.loop-number.jobs c.hire.new.jobs workers.items c.in_ok-hire.ensures.out.same.queue was.unused in
    record {
      flusher_seat = c.in_ok-hire.ensures.flusher_seat;
      jobs = c.hire.ensures.jobs;
      out = HandsOut-next c.loop-number.number c.args.jobs.now c.loop-number.jobs c.hire.new.jobs was.out c.in_ok-hire.ensures.out;
      unused = subst (AreUnused table queue) (sym c.push_reserved.ensures.items) (Numbered-push P 0 workers.items worker before next);
      count = omega (arith, was.count, c.push_reserved.ensures.len);
      room = c.push_reserved.ensures.capacity ∙ was.room;
    }
