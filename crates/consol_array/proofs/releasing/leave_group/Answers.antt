use Rattle.std.proofs.Common.{true, false, ◌∙◌, sym, refl}
use Rattle.std.proofs.lemmas.Bool.{false≢true, true≢false}
use Rattle.consol_array.proofs.Freed.{LetsGo-freed}
use Rattle.consol_array.proofs.releasing.leave_group.Goals as goal

pub returns-then-remaining-leaver-clause-left : goal.returns-then-remaining-leaver-clause-left
returns-then-remaining-leaver-clause-left c = record {
  mid = c.release_slot-state.new.seat;
  lets_go = LetsGo-freed c.args.table.now c.args.seat.now c.release_slot-state.new.seat c.args.leaver.n c.release_slot-state.result false
      c.requires.seat c.release_slot-state.ensures.view c.release_slot-state.ensures.told
      ((λ is. absurd (false≢true is)), (λ none. absurd (c.if-remaining-leaver.true (c.remaining.ensures.remaining ∙ none))));
  opened = λ is. absurd (false≢true is);
  rest = λ _. refl;
}

pub returns-clause-left : goal.returns-clause-left
returns-clause-left c = record {
  mid = c.release_slot-state.new.seat;
  lets_go = LetsGo-freed c.args.table.now c.args.seat.now c.release_slot-state.new.seat c.args.leaver.n c.release_slot-state.result true
      c.requires.seat c.release_slot-state.ensures.view c.release_slot-state.ensures.told
      ((λ _. sym c.remaining.ensures.remaining ∙ c.if-remaining-leaver.false), (λ _. refl));
  opened = λ _. c.reopen.ensures.view;
  rest = λ is. absurd (true≢false is);
}
