use Rattle.std.proofs.Common.{rules, ◌∷◌, ◌++◌, [], ◌∙◌, sym, ap}
use Rattle.std.proofs.lemmas.List.{append_assoc}
use Rattle.std.proofs.lemmas.List.Elements.{All-rest}
use Rattle.arrayvec.specs.Iter.{drain_items}
use Rattle.log_table.specs.Seats.{view_of}
use Rattle.txn_making.specs.Holdings.{IsKnown, GoesBack}
use Rattle.txn_making.proofs.Held.{HoldsTaken-with_held, gave_account-with_held, distinct-rest}
use Rattle.txn_making.proofs.giving.give_all.Goals as goal

pub give_one-requires-clause-holds : goal.give_one-requires-clause-holds
give_one-requires-clause-holds c = let i = c.holdings.invariant in
    HoldsTaken-with_held _ _ _ _ _ _ c.in-Some.ensures.steps.0 i.distinct i.seat

pub holdings-preserved : goal.holdings-preserved
holdings-preserved c =
    let i = c.holdings.invariant in
    let is = c.in-Some.ensures.steps.0 in
    record {
      can_next = search rules;
      is_finite = search rules;
      parts = append_assoc c.holdings.yielded (c.in-Some.holding ∷ []) (drain_items c.next.new.self) ∙ ap (λ l. c.holdings.yielded ++ l) (sym is) ∙ i.parts;
      seat = gave_account-with_held _ _ _ _ _ _ is i.distinct i.seat _ c.values-balance.result.0 c.requires.ready.rests.whole c.give_one.ensures;
      distinct = distinct-rest _ _ _ _ _ _ is i.distinct i.seat;
      known = All-rest (IsKnown c.args.table.now.accounts) _ _ _ is i.known;
      values = All-rest (GoesBack c.args.release (view_of c.args.seat.now).books) _ _ _ is i.values;
    }
