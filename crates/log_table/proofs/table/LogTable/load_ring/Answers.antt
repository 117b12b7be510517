use Rattle.std.proofs.Common.{◌≡◌, arith, ℕ, ◌+◌, ◌%◌, ◌<◌, mod-lt, sym, subst}
use Rattle.atomic_table.specs.Table.{Allows}
use Rattle.table_layout.specs.declared.layout.TheConstants.{RING}
use Rattle.log_table.specs.Seats.{number_of, key_of}
use Rattle.log_rule.specs.Sends.{ReadsWholeEntries}
use Rattle.log_rule.specs.Sound.{Ruled}
use Rattle.log_rule.specs.Views.{has_read}
use Rattle.log_rule.proofs.Allowing.{load_ring-allowed}
use Rattle.log_rule.proofs.Reading.{read-step}
use Rattle.log_table.proofs.table.LogTable.load_ring.Goals as goal

pub load-requires : goal.load-requires
load-requires c =
    let wide = c.args.self.now.wide in
    let below : c.args.at % c.args.self.now.ring < c.args.self.now.ring = mod-lt c.args.at (omega arith) in (
      c.requires.seat.table_is,
      omega (arith, c.args.self.now.sized, below, c.place-index.ensures),
      subst (λ (index : ℕ). Allows (Ruled (key_of c.args.self.now)) c.args.self.now.table.shared.table_id.slots
          (number_of c.args.seat.now) c.args.seat.now.base.me (RING + index) (λ n. n)
          (λ n new. (new ≡ (has_read n c.args.seat.now.base.me.0, c.args.seat.now.base.me.1))
          × ReadsWholeEntries (has_read n c.args.seat.now.base.me.0)))
          (sym c.place-index.ensures)
          (load_ring-allowed (key_of c.args.self.now) c.args.self.now.table.shared.table_id.slots (number_of c.args.seat.now) c.args.seat.now.base.me
          c.args.at c.args.self.now.ring c.args.self.now.keyed below c.requires.next),
    )

pub returns-clause-event : goal.returns-clause-event
returns-clause-event c = read-step _ _ _ _ _ c.args.self.now.keyed c.requires.next _
