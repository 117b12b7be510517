use Rattle.std.proofs.Common.{rules, ◌∙◌, ap}
use Rattle.log_rule.specs.declared.view.Books.{Books}
use Rattle.log_rule.specs.declared.view.View.{View}
use Rattle.log_table.specs.Seats.{IsOf, view_of}
use Rattle.table_tests.proofs.Sharing.{GoesOn-kept, MayInsert-idle}
use Rattle.table_tests.proofs.group.put_piece.Goals as goal

pub returns-clause-may : goal.returns-clause-may
returns-clause-may c next txn may =
    let has = c.release.ensures.entries in
    let fills = ap (λ me. me.0) c.fill_member-filled.ensures.becomes.me in
    let books = has.books_are ∙ ap (λ (v : View). v.books) fills in
    let own : IsOf c.args.table.now c.release.new.seat = search rules in
    MayInsert-idle c.args.table.now next c.release.new.seat txn own has.idle
    (GoesOn-kept next (view_of c.args.seat.now) (view_of c.release.new.seat) (has.same.standing ∙ ap (λ (v : View). v.standing) fills)
    (has.contended ∙ (ap (λ (v : View). v.contended) fills ∙ may.alone))
    (ap (λ (books : Books). books.held) books) (ap (λ (books : Books). books.half) books) (ap (λ (books : Books). books.jobs) books) may)
