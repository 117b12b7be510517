use Rattle.std.proofs.Common.{ℕ, length, ap, sym, subst}
use Rattle.std.proofs.lemmas.Result.{IfOk-weaker}
use Rattle.log_rule.specs.declared.view.View.{View}
use Rattle.log_table.specs.Seats.{view_of}
use Rattle.ring_buffer.specs.Calls.{MayPlace}
use Rattle.test_rig.proofs.Placing.{MayPlace-noted, units-noted}
use Rattle.table_tests.proofs.Sharing.{GoesOn-kept, GoesOn-taken, HasShare-joined}
use Rattle.table_tests.proofs.group.join_for.Goals as goal

pub try_join-requires-clause-next : goal.try_join-requires-clause-next
try_join-requires-clause-next c =
    subst (λ (n : ℕ). MayPlace n (view_of c.take_job.new.seat).books) (sym (ap length c.as_slice.ensures.units))
    (MayPlace-noted c.args.table.now c.args.number c.args.job.now c.args.units.now c.args.seat.now c.take_job.new.seat c.take_job.result c.requires.worker
    c.take_job.ensures.view c.requires.units)

pub returns-clause-share : goal.returns-clause-share
returns-clause-share c =
    IfOk-weaker c.try_join.result _ _ (λ joined has. HasShare-joined c.args.table.now c.take_job.new.seat c.try_join.new.seat (length c.as_slice.result.now)
    c.args.units.now joined has (ap length c.as_slice.ensures.units)
    (units-noted c.args.table.now c.args.number c.args.job.now c.args.units.now c.args.seat.now c.take_job.new.seat c.take_job.result c.requires.worker
    c.take_job.ensures.view c.requires.units)) c.try_join.ensures.joined

pub returns-clause-goes_on : goal.returns-clause-goes_on
returns-clause-goes_on c =
    IfOk-weaker c.try_join.result _ _ (λ joined has next later.
    let joins = ap (λ me. me.0) has.becomes.me in
    GoesOn-kept next (view_of c.take_job.new.seat) (view_of c.try_join.new.seat) (ap (λ (v : View). v.standing) joins) c.try_join.ensures.alone
    (ap (λ (v : View). v.books.held) joins) (ap (λ (v : View). v.books.half) joins) (ap (λ (v : View). v.books.jobs) joins)
    (GoesOn-taken c.args.table.now c.args.number c.args.job.now c.args.seat.now c.take_job.new.seat c.take_job.result c.requires.worker
    c.take_job.ensures.view next later)) c.try_join.ensures.joined
