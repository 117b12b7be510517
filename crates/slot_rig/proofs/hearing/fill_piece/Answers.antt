use Rattle.std.proofs.Common.{arith, ◌≡◌, ◌+◌, ◌<◌, inr, length, take, get_or, ap, sym, subst}
use Rattle.log_rule.specs.declared.group_view.MemberStep.TheVariants.{Fills}
use Rattle.log_table.specs.Seats.{Becomes, view_of}
use Rattle.log_rule.specs.Views.{filled}
use Rattle.log_rule.specs.May.{MayFillPiece}
use Rattle.slot_rig.specs.Shares.{IsMember}
use Rattle.slot_rig.proofs.Hears.{fills-may_fill_piece, filled-fills_more}
use Rattle.slot_rig.proofs.hearing.fill_piece.Goals as goal

pub store_ring-requires-clause-next : goal.store_ring-requires-clause-next
store_ring-requires-clause-next c =
    let list : c.as_slice-list.result.now ≡ c.args.share.now.units = c.as_slice-list.ensures.units in
    let within : c.loop-i.i < length c.args.share.now.units = omega (arith, ap length list, c.loop-i-test.true) in
    let member : IsMember c.args.table.now c.args.share.now (Fills c.args.base (take c.loop-i.i c.args.share.now.units)) c.loop-i.seat =
    subst (λ units. IsMember c.args.table.now c.args.share.now (Fills c.args.base (take c.loop-i.i units)) c.loop-i.seat) list c.loop-i.invariant in
    inr (subst (λ units. MayFillPiece c.args.table.now.slots c.new-at.result (get_or units c.loop-i.i 0) (view_of c.loop-i.seat)) (sym list)
    (fills-may_fill_piece c.args.table.now c.args.share.now c.args.base c.loop-i.i c.loop-i.seat c.loop-i.seat member within c.new-at.result
    (omega (arith, c.new-at.ensures, c.units.ensures, c.in_ok-start.ensures.sum))))

pub loop-i-preserved : goal.loop-i-preserved
loop-i-preserved c =
    let list : c.as_slice-list.result.now ≡ c.args.share.now.units = c.as_slice-list.ensures.units in
    let within : c.loop-i.i < length c.args.share.now.units = omega (arith, ap length list, c.loop-i-test.true) in
    let member : IsMember c.args.table.now c.args.share.now (Fills c.args.base (take c.loop-i.i c.args.share.now.units)) c.loop-i.seat =
    subst (λ units. IsMember c.args.table.now c.args.share.now (Fills c.args.base (take c.loop-i.i units)) c.loop-i.seat) list c.loop-i.invariant in
    subst (λ units. IsMember c.args.table.now c.args.share.now (Fills c.args.base (take (c.loop-i.i + 1) units)) c.store_ring.new.seat) (sym list)
    (filled-fills_more c.args.table.now c.args.share.now c.args.base c.loop-i.i c.loop-i.seat c.store_ring.new.seat member within
    (subst (λ units. Becomes c.loop-i.seat c.store_ring.new.seat (filled (get_or units c.loop-i.i 0) (view_of c.loop-i.seat))) list c.store_ring.ensures.view))
