use Rattle.std.proofs.Common.{sym, subst}
use Rattle.log_rule.specs.May.{MayStoreBase}
use Rattle.log_table.specs.Seats.{view_of}
use Rattle.slot_rig.proofs.Leads.{stores-may_store_base, stored_granted-tells}
use Rattle.slot_rig.proofs.leading.store.Goals as goal

pub store_base-requires-clause-next : goal.store_base-requires-clause-next
store_base-requires-clause-next c =
    subst (λ word. MayStoreBase c.args.share.now.slot word (view_of c.args.seat.now)) (sym c.units.ensures)
    (stores-may_store_base c.args.table.now c.args.share.now c.args.range.now.total c.args.range.now.base c.args.seat.now c.args.seat.now c.requires.placed)

pub returns : goal.returns
returns c = record {
  stored =
      stored_granted-tells c.args.table.now c.args.share.now c.args.range.now.total c.args.range.now.base c.args.seat.now c.store_base.new.seat c.requires.placed
      c.store_base.ensures.view;
}
