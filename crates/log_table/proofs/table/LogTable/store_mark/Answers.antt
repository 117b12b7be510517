use Rattle.std.proofs.Common.{arith, ℕ, ◌%◌, ◌<◌, mod-lt, sym, subst}
use Rattle.log_rule.specs.May.{MayMark}
use Rattle.log_table.specs.Seats.{view_of, number_of, key_of}
use Rattle.log_rule.proofs.Allowing.{store_mark-allowed}
use Rattle.log_rule.proofs.GroupMarking.{mark-step}
use Rattle.log_table.proofs.Stepping.{MovesBase-becomes}
use Rattle.log_table.proofs.table.LogTable.store_mark.Goals as goal

pub store-requires : goal.store-requires
store-requires c =
    let wide = c.args.self.now.wide in
    let below : c.args.base % c.args.self.now.ring < c.args.self.now.ring = mod-lt c.args.base (omega arith) in (
      c.requires.seat.table_is,
      omega (arith, c.args.self.now.sized, below, c.mark_place-index.ensures),
      store_mark-allowed (key_of c.args.self.now) c.args.self.now.table.shared.table_id.slots (number_of c.args.seat.now) c.args.seat.now.base.me
          c.mark_place-index.result c.args.self.now.ring c.args.base c.mark_place-index.ensures c.args.self.now.keyed below c.units.result
          (subst (λ (end : ℕ). MayMark c.args.base end (view_of c.args.seat.now)) (sym c.units.ensures) c.requires.next),
    )

pub returns : goal.returns
returns c = record { view = MovesBase-becomes c.store.ensures; event = mark-step _ _ _ _ _ _ c.args.self.now.keyed c.requires.next }
