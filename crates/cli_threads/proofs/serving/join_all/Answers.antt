use Rattle.std.proofs.Common.{rules, arith, ◌≡◌, ◌∙◌, ◌∷◌, ◌++◌, [], ap, length, length-append, sym, subst}
use Rattle.cli_threads.specs.Workers.{IsDoneAs, IsStartedAs}
use Rattle.cli_workers.proofs.NumberedLemmas.{Makes, Makes-next}
use Rattle.cli_threads.proofs.serving.join_all.Goals as goal

pub loop-one-preserved : goal.loop-one-preserved
loop-one-preserved g c =
    let was = c.loop-one.invariant in
    let table = c.args.run.now.table.now in
    let queue = c.args.run.now.queue.now in
    let wait = c.args.run.now.wait in
    let one = c.in-Some.one in
    let yielded = c.loop-one.yielded in
    let left = c.next.new.self.rest.items in
    let P = IsStartedAs table queue wait in
    let Q = IsDoneAs table queue wait in
    let made = c.loop-one.back.items in
    let front : c.loop-one.one-iterator.rest.items ≡ one ∷ left = search rules in
    let before = subst (λ l. Makes P Q yielded l made) front was.makes in
    let done : Q (length yielded) c.join.result = (c.join.ensures.number ∙ before.left_are.0.0, c.join.ensures.done) in
    let after = Makes-next P Q yielded left made one c.join.result before done in
    record {
      makes = subst (Makes P Q (yielded ++ one ∷ []) left) (sym c.push_reserved.ensures.items) after;
      all = omega (arith, was.all, ap length front, length-append yielded (one ∷ []));
      room = c.push_reserved.ensures.capacity ∙ was.room;
      relief = c.join.ensures.relief;
      later = g.met.Q.Relief.later_trans _ _ _ was.later c.join.ensures.later;
    }
