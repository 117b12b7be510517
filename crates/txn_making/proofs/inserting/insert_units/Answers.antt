use Rattle.std.proofs.Common.{rules, ◌≡◌, ◌+◌, ◌∙◌, length, ap, subst, sym}
use Rattle.log_record.specs.Spelling.{spelling}
use Rattle.log_rule.specs.declared.view.Books.{Books}
use Rattle.log_rule.specs.Books.{next_of}
use Rattle.log_table.specs.Seats.{view_of}
use Rattle.ring_buffer.specs.Calls.{MayPlace}
use Rattle.txn_making.proofs.Putting.{MayEnter-may_place, placing-puts_record}
use Rattle.txn_making.proofs.inserting.insert_units.Goals as goal

pub insert-requires-clause-next : goal.insert-requires-clause-next
insert-requires-clause-next g c = subst (MayPlace (length c.args.units.now)) (sym c.loop.invariant.1.books_are)
    (MayEnter-may_place c.args.units.now (view_of c.args.desk.now.seat.now).books c.requires.spelled c.requires.next)

pub insert-requires-clause-units : goal.insert-requires-clause-units
insert-requires-clause-units g c = c.requires.spelled
    ∙ ap (λ (books : Books). spelling (next_of books)) (sym c.loop.invariant.1.books_are)

pub returns-in-Ok-clause-put : goal.returns-in-Ok-clause-put
returns-in-Ok-clause-put g c =
    let end : c.new-end.result ≡ c.in-Ok.at + length c.args.units.now = search rules in
    placing-puts_record (length c.args.units.now) c.in-Ok.at c.new-end.result c.args.desk.now.seat.now c.loop.desk.seat.now
    c.insert.new.seat (ap length c.requires.spelled) end
    c.loop.invariant.1 c.in-Ok.ensures.inserted c.in-Ok.ensures.behind c.in-Ok.ensures.seen
