use Rattle.std.proofs.Common.{◌≡◌, ◌∙◌, [], ◌∷◌, ◌++◌, rules, arith, subst, sym}
use Rattle.std.specs.List.{AllByRecursion}
use Rattle.job_queue.specs.declared.queue.Queue.{Queue}
use Rattle.lsn_space.proofs.TilingLemmas.{all-append}
use Rattle.run_rig.specs.Enlisted.{IsHand}
use Rattle.run_rig.proofs.crew.hands.Goals as goal

pub hire-requires-clause-mark : goal.hire-requires-clause-mark
hire-requires-clause-mark c = omega (arith, c.requires.marks, c.loop-number.invariant.same.workers, c.loop-number-test.true)

pub loop-number-preserved : goal.loop-number-preserved
loop-number-preserved c =
    let was = c.loop-number.invariant in
    let table = c.args.table.now in
    let made = c.loop-number.hands.items in
    let same = c.in_ok-hand.ensures.same in
    let IsOne = IsHand table c.hire.new.jobs.queue in
    let grown : c.push.new.self.items ≡ made ++ c.in_ok-hand.hand ∷ [] = search rules in
    let before = subst (λ (queue : Queue). AllByRecursion (IsHand table queue) made) (sym same.queue) was.hands in
    record {
      flusher_seat = c.in_ok-hand.ensures.flusher_seat;
      jobs = c.in_ok-hand.ensures.jobs;
      same = record { queue = same.queue ∙ was.same.queue; workers = same.workers ∙ was.same.workers };
      hands = subst (AllByRecursion IsOne) (sym grown) (all-append IsOne made (c.in_ok-hand.hand ∷ []) before (c.in_ok-hand.ensures.hand, tt));
    }
