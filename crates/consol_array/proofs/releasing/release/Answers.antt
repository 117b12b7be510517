use Rattle.std.proofs.Common.{rules, true, false, ◌∙◌, sym, refl}
use Rattle.std.proofs.lemmas.Bool.{false≢true, true≢false}
use Rattle.consol_array.proofs.Freed.{LetsGo-freed}
use Rattle.consol_array.proofs.releasing.release.Goals as goal

pub returns-then-remaining-filled-clause-released : goal.returns-then-remaining-filled-clause-released
returns-then-remaining-filled-clause-released c = record {
  mid = c.release_slot-state.new.seat;
  lets_go = LetsGo-freed c.args.table.now c.args.seat.now c.release_slot-state.new.seat c.args.filled.n c.release_slot-state.result false
      c.requires.seat c.release_slot-state.ensures.view c.release_slot-state.ensures.told
      ((λ is. absurd (false≢true is)), (λ none. absurd (c.if-remaining-filled.true (c.remaining.ensures.remaining ∙ none))));
  emptied = λ is. absurd (false≢true is);
  rest = λ _. refl;
}

pub empty-requires-clause-emptying : goal.empty-requires-clause-emptying
empty-requires-clause-emptying c = search rules steps 3000000

pub returns-clause-released : goal.returns-clause-released
returns-clause-released c = record {
  mid = c.release_slot-state.new.seat;
  lets_go = LetsGo-freed c.args.table.now c.args.seat.now c.release_slot-state.new.seat c.args.filled.n c.release_slot-state.result true
      c.requires.seat c.release_slot-state.ensures.view c.release_slot-state.ensures.told
      ((λ _. sym c.remaining.ensures.remaining ∙ c.if-remaining-filled.false), (λ _. refl));
  emptied = λ _. c.empty.ensures.emptied;
  rest = λ is. absurd (true≢false is);
}
