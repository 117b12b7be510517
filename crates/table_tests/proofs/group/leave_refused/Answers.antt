use Rattle.std.proofs.Common.{rules, ◌∙◌, ap}
use Rattle.log_rule.specs.declared.view.Books.{Books}
use Rattle.log_table.specs.Seats.{IsOf, view_of}
use Rattle.table_tests.proofs.Sharing.{GoesOn-kept, MayInsert-idle}
use Rattle.table_tests.proofs.group.leave_refused.Goals as goal

pub returns : goal.returns
returns c =
    let has = c.leave_group.ensures.entries in
    let own : IsOf c.args.table.now c.leave_group.new.seat = search rules in
    record {
      may = λ next txn may. MayInsert-idle c.args.table.now next c.leave_group.new.seat txn own has.idle
          (GoesOn-kept next (view_of c.args.seat.now) (view_of c.leave_group.new.seat) has.same.standing (has.contended ∙ may.alone)
          (ap (λ (books : Books). books.held) has.books_are) (ap (λ (books : Books). books.half) has.books_are) (ap (λ (books : Books). books.jobs) has.books_are) may);
    }
