use Rattle.std.proofs.Common.{rules, arith, refl, sym, ap, subst}
use Rattle.log_rule.specs.Sends.{ReadsWholeEntries}
use Rattle.log_table.proofs.Stepping.{Becomes-trans}
use Rattle.flusher.proofs.flushing.gather.Goals as goal

pub loop-at-init : goal.loop-at-init
loop-at-init c = record {
  same = refl;
  end = omega arith;
  next = grind arith steps 400000;
  below = omega arith;
  seat = search rules steps 1200000;
  room = search rules steps 400000;
  entries = λ beyond. absurd (omega arith);
}

pub returns : goal.returns
returns c =
    let was = c.loop-at.invariant in
    let done = c.loop-at-test.false in record {
      units = c.loop-at.batch.units;
      whole = omega (arith, was.next, was.end, was.below, done);
      seat = Becomes-trans _ _ _ _ (λ view. view) was.seat c.look.ensures.view;
      batch = search rules steps 400000;
      entries = λ some. subst ReadsWholeEntries (sym (ap (λ m. m.0) c.look.ensures.view.me))
          (was.entries (omega (arith, was.end, was.below, done, some)));
      at_once = search rules steps 400000;
    }
