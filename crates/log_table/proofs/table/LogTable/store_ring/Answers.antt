use Rattle.std.proofs.Common.{◌≡◌, arith, ℕ, ◌+◌, ◌%◌, ◌<◌, mod-lt, sym, subst}
use Rattle.atomic_table.specs.Table.{Allows}
use Rattle.table_layout.specs.declared.layout.TheConstants.{RING}
use Rattle.log_table.specs.Seats.{number_of, key_of}
use Rattle.log_rule.specs.Sound.{Ruled}
use Rattle.log_rule.specs.Views.{filled}
use Rattle.log_rule.proofs.Allowing.{store_ring-allowed}
use Rattle.log_rule.proofs.PieceFilling.{fill-step}
use Rattle.log_table.proofs.Stepping.{MovesBase-becomes}
use Rattle.log_table.proofs.table.LogTable.store_ring.Goals as goal

pub store-requires : goal.store-requires
store-requires c =
    let wide = c.args.self.now.wide in
    let below : c.args.at % c.args.self.now.ring < c.args.self.now.ring = mod-lt c.args.at (omega arith) in (
      c.requires.seat.table_is,
      omega (arith, c.args.self.now.sized, below, c.place-index.ensures),
      subst (λ (index : ℕ). Allows (Ruled (key_of c.args.self.now)) c.args.self.now.table.shared.table_id.slots
          (number_of c.args.seat.now) c.args.seat.now.base.me (RING + index) (λ _. c.args.unit)
          (λ _ new. (new ≡ (filled c.args.unit c.args.seat.now.base.me.0, c.args.seat.now.base.me.1)) × Unit {0})) (sym c.place-index.ensures)
          (store_ring-allowed (key_of c.args.self.now) c.args.self.now.table.shared.table_id.slots
          (number_of c.args.seat.now) c.args.seat.now.base.me c.args.at c.args.self.now.ring c.args.self.now.slots c.args.unit c.args.self.now.keyed
          c.args.self.now.slotted below
          c.requires.next),
    )

pub returns : goal.returns
returns c = record { view = MovesBase-becomes c.store.ensures; event = fill-step _ _ _ _ _ _ _ c.args.self.now.keyed c.args.self.now.slotted c.requires.next }
