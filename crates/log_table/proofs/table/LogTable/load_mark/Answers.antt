use Rattle.std.proofs.Common.{arith, ◌%◌, ◌<◌, mod-lt, sym, ap}
use Rattle.log_rule.specs.MarkViews.{saw_mark}
use Rattle.log_table.specs.Seats.{view_of, number_of, key_of}
use Rattle.log_rule.proofs.Allowing.{load_mark-allowed}
use Rattle.log_rule.proofs.Exposing.{look-step}
use Rattle.log_table.proofs.Stepping.{MovesBase-becomes_called}
use Rattle.log_table.proofs.table.LogTable.load_mark.Goals as goal

pub load-requires : goal.load-requires
load-requires c =
    let wide = c.args.self.now.wide in
    let below : c.args.base % c.args.self.now.ring < c.args.self.now.ring = mod-lt c.args.base (omega arith) in (
      c.requires.seat.table_is,
      omega (arith, c.args.self.now.sized, below, c.mark_place-index.ensures),
      load_mark-allowed (key_of c.args.self.now) c.args.self.now.table.shared.table_id.slots (number_of c.args.seat.now) c.args.seat.now.base.me
          c.mark_place-index.result c.args.self.now.ring c.args.base c.mark_place-index.ensures c.args.self.now.keyed below c.requires.next,
    )

pub returns : goal.returns
returns c = record {
  view = MovesBase-becomes_called _ (ap (λ n. saw_mark n (view_of c.args.seat.now)) (sym c.new.ensures)) c.load.ensures;
  event = look-step _ _ _ _ _ c.args.self.now.keyed c.requires.next _;
}
