use Rattle.std.proofs.Common.{rules, arith, ◌≡◌, ◌∙◌, ◌∷◌, ◌++◌, [], ap, length, length-append, sym, subst}
use Rattle.cli_workers.specs.Workers.{IsUnusedAs}
use Rattle.cli_threads.specs.Workers.{IsStartedAs}
use Rattle.cli_workers.proofs.NumberedLemmas.{Makes, Makes-next}
use Rattle.cli_threads.proofs.serving.start_all.Goals as goal

pub start-requires-clause-flag : goal.start-requires-clause-flag
start-requires-clause-flag g c =
    let was = c.loop-worker.invariant in
    let worker = c.in-Some.worker in
    let left = c.next.new.self.rest.items in
    let front : c.loop-worker.worker-iterator.rest.items ≡ worker ∷ left = search rules in
    let P = IsUnusedAs c.args.run.now.table.now c.args.run.now.queue.now in
    let number = (subst (λ l. Makes P (IsStartedAs c.args.run.now.table.now c.args.run.now.queue.now c.args.run.now.wait) c.loop-worker.yielded l
    c.loop-worker.started.items) front was.makes).left_are.0.0 in
    omega (arith, number, was.all, ap length front, c.requires.hands.flags, c.args.workers.ok.0)

pub loop-worker-preserved : goal.loop-worker-preserved
loop-worker-preserved g c =
    let was = c.loop-worker.invariant in
    let table = c.args.run.now.table.now in
    let queue = c.args.run.now.queue.now in
    let wait = c.args.run.now.wait in
    let worker = c.in-Some.worker in
    let yielded = c.loop-worker.yielded in
    let left = c.next.new.self.rest.items in
    let P = IsUnusedAs table queue in
    let Q = IsStartedAs table queue wait in
    let made = c.loop-worker.started.items in
    let front : c.loop-worker.worker-iterator.rest.items ≡ worker ∷ left = search rules in
    let before = subst (λ l. Makes P Q yielded l made) front was.makes in
    let one : Q (length yielded) c.start.result = (c.start.ensures.number ∙ before.left_are.0.0, c.start.ensures.started) in
    let after = Makes-next P Q yielded left made worker c.start.result before one in
    record {
      makes = subst (Makes P Q (yielded ++ worker ∷ []) left) (sym c.push_reserved.ensures.items) after;
      all = omega (arith, was.all, ap length front, length-append yielded (worker ∷ []));
      room = c.push_reserved.ensures.capacity ∙ was.room;
      relief = c.start.ensures.relief;
      later = g.met.Q.Relief.later_trans _ _ _ was.later c.start.ensures.later;
    }
