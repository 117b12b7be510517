use Rattle.std.proofs.Common.{cond, ap, eq-eqb, ◌∙◌}
use Rattle.log_rule.specs.declared.group_view.MemberStep.{MemberStep}
use Rattle.log_rule.specs.declared.group_view.MemberStep.TheVariants.{Closes, Waits}
use Rattle.log_rule.specs.declared.view.Call.TheVariants.{Joined}
use Rattle.log_rule.specs.declared.view.Books.{Books}
use Rattle.log_table.specs.Seats.{view_of}
use Rattle.log_rule.specs.SlotViews.{step_joining}
use Rattle.table_tests.proofs.Sharing.{GoesOn-kept, HasShare-since}
use Rattle.table_tests.proofs.group.lead_if_first.Goals as goal

pub returns-clause-waits : goal.returns-clause-waits
returns-clause-waits c =
    let share = c.requires.share in
    let joined = c.args.joined.now in
    HasShare-since c.args.table.now joined c.args._units.now (step_joining joined.offset) Waits c.args.seat.now c.lead.new.seat share c.lead.ensures.stays.same
    (c.lead.ensures.told share.piece (share.call
    ∙ ap (λ b. Joined joined.slot share.piece (cond {A = MemberStep} b Closes Waits)) (eq-eqb joined.offset 0 c.if-joined-ne0.false)))

pub returns-clause-goes_on : goal.returns-clause-goes_on
returns-clause-goes_on c next may =
    let stays = c.lead.ensures.stays in
    GoesOn-kept next (view_of c.args.seat.now) (view_of c.lead.new.seat) stays.same.standing (stays.contended ∙ may.alone)
    (ap (λ (books : Books). books.held) stays.books) (ap (λ (books : Books). books.half) stays.books) (ap (λ (books : Books). books.jobs) stays.books) may
