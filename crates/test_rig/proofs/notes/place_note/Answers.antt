use Rattle.std.proofs.Common.{ℕ, length, ap, sym, subst}
use Rattle.std.proofs.lemmas.Option.{IfSome_then}
use Rattle.std.proofs.lemmas.Result.{IfOk-weaker}
use Rattle.log_table.specs.Seats.{view_of}
use Rattle.ring_buffer.specs.Calls.{MayPlace}
use Rattle.test_rig.proofs.Placing.{MayPlace-noted, units-noted, HasReserved-placed}
use Rattle.test_rig.proofs.notes.place_note.Goals as goal

pub place_alone-requires-clause-next : goal.place_alone-requires-clause-next
place_alone-requires-clause-next c =
    subst (λ (n : ℕ). MayPlace n (view_of c.take_job.new.seat).books) (sym (ap length c.as_slice.ensures.units))
    (MayPlace-noted c.args.table.now c.args.number c.args.job.now c.args.units.now c.args.seat.now c.take_job.new.seat c.take_job.result c.requires.worker
    c.take_job.ensures.view c.requires.units)

pub returns-clause-reserved : goal.returns-clause-reserved
returns-clause-reserved c =
    IfOk-weaker c.place_alone.result _ _ (λ o placed. IfSome_then o placed (λ range has. HasReserved-placed c.take_job.new.seat c.place_alone.new.seat
    c.args.table.now.ring (length c.as_slice.result.now) c.args.units.now range (ap length c.as_slice.ensures.units)
    (units-noted c.args.table.now c.args.number c.args.job.now c.args.units.now c.args.seat.now c.take_job.new.seat c.take_job.result c.requires.worker
    c.take_job.ensures.view c.requires.units) has)) c.place_alone.ensures.placed
