use Rattle.std.proofs.Common.{sym, subst}
use Rattle.slot_rig.proofs.Leads.{closes-may_close_slot, closed_slot-placing}
use Rattle.slot_rig.specs.Shares.{IsPlacing}
use Rattle.slot_rig.proofs.leading.close.Goals as goal

pub close_slot-requires-clause-next : goal.close_slot-requires-clause-next
close_slot-requires-clause-next c = closes-may_close_slot c.args.table.now c.args.share.now c.args.seat.now c.requires.leads

pub returns : goal.returns
returns c = record {
  closed =
      subst (λ total. IsPlacing c.args.table.now c.args.share.now total c.close_slot.new.seat) (sym c.total.ensures.total)
      (closed_slot-placing c.args.table.now c.args.share.now c.args.seat.now c.close_slot.new.seat c.close_slot.result c.requires.leads c.close_slot.ensures.view);
}
