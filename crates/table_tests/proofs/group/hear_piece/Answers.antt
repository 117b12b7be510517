use Rattle.std.proofs.Common.{◌∙◌, ap, sym}
use Rattle.log_rule.specs.declared.view.Books.{Books}
use Rattle.log_table.specs.Seats.{view_of}
use Rattle.table_tests.proofs.Sharing.{GoesOn-kept, IsOf-both_same_worker}
use Rattle.table_tests.proofs.group.hear_piece.Goals as goal

pub returns-in-Base-clause-own : goal.returns-in-Base-clause-own
returns-in-Base-clause-own g c =
    let share = c.requires.waits in
    let heard = c.in-Base.ensures.heard share.piece share.call in
    IsOf-both_same_worker c.args.table.now share.first c.args.seat.now c.hear.new.seat c.requires.own share.same
    (heard.same share.first share.same share.tail_seen share.durable_seen)

pub returns-in-Refused-clause-own : goal.returns-in-Refused-clause-own
returns-in-Refused-clause-own g c =
    let share = c.requires.waits in
    let heard = c.in-Refused.ensures.heard share.piece share.call in
    IsOf-both_same_worker c.args.table.now share.first c.args.seat.now c.hear.new.seat c.requires.own share.same
    (heard.same share.first share.same share.tail_seen share.durable_seen)

pub returns-in-Base-clause-goes_on : goal.returns-in-Base-clause-goes_on
returns-in-Base-clause-goes_on g c next may =
    let share = c.requires.waits in
    let heard = c.in-Base.ensures.heard share.piece share.call in
    let same = heard.same share.first share.same share.tail_seen share.durable_seen in
    GoesOn-kept next (view_of c.args.seat.now) (view_of c.hear.new.seat) (same.standing ∙ sym share.same.standing) (heard.alone may.alone)
    (ap (λ (books : Books). books.held) heard.books) (ap (λ (books : Books). books.half) heard.books) (ap (λ (books : Books). books.jobs) heard.books) may

pub returns-in-Refused-clause-refused_goes_on : goal.returns-in-Refused-clause-refused_goes_on
returns-in-Refused-clause-refused_goes_on g c next may =
    let share = c.requires.waits in
    let heard = c.in-Refused.ensures.heard share.piece share.call in
    let same = heard.same share.first share.same share.tail_seen share.durable_seen in
    GoesOn-kept next (view_of c.args.seat.now) (view_of c.hear.new.seat) (same.standing ∙ sym share.same.standing) (heard.alone may.alone)
    (ap (λ (books : Books). books.held) heard.books) (ap (λ (books : Books). books.half) heard.books) (ap (λ (books : Books). books.jobs) heard.books) may
