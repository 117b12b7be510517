use Rattle.std.proofs.Common.{arith, ◌≡◌, ℕ, sym, ap, subst}
use Rattle.atomic_table.specs.Table.{Allows}
use Rattle.table_layout.specs.declared.layout.TheConstants.{DURABLE}
use Rattle.log_rule.specs.declared.start.Start.{Start}
use Rattle.log_rule.specs.May.{MaySend}
use Rattle.log_rule.specs.Moments.{HoldsAtOnce}
use Rattle.log_rule.specs.Sound.{Ruled}
use Rattle.log_table.specs.Seats.{view_of, number_of, key_of}
use Rattle.log_rule.specs.Views.{has_sent}
use Rattle.log_rule.proofs.Allowing.{store_durable-allowed}
use Rattle.log_rule.proofs.Flushing.{send-step}
use Rattle.log_table.proofs.Stepping.{MovesBase-becomes_called, at_once-becomes}
use Rattle.log_table.proofs.steps.durable.store_durable_as.Goals as goal

pub store-requires : goal.store-requires
store-requires g c = (
  c.requires.seat.table_is,
  omega (arith, c.args.table.now.sized),
  subst (λ (who : Start × ℕ). Allows (Ruled (key_of c.args.table.now)) c.args.table.now.table.shared.table_id.slots (number_of c.args.seat.now)
      c.args.seat.now.base.me DURABLE (λ _. c.units.result)
      (λ _ new. (new ≡ (has_sent c.units.result c.args.seat.now.base.me.0, c.args.seat.now.base.me.1))
      × HoldsAtOnce who.0 who.1 (has_sent c.units.result c.args.seat.now.base.me.0)))
      (λ i. (sym c.requires.named.0 i, sym c.requires.named.1 i))
      (store_durable-allowed (key_of c.args.table.now) c.args.table.now.table.shared.table_id.slots (number_of c.args.seat.now)
      c.args.seat.now.base.me c.units.result (subst (λ (to : ℕ). MaySend to (view_of c.args.seat.now)) (sym c.units.ensures) c.requires.next)
      c.args.table.now.opened),
)

pub returns : goal.returns
returns g c =
    let sent = MovesBase-becomes_called _ (ap (λ n. has_sent n (view_of c.args.seat.now)) c.units.ensures) c.store.ensures in record {
      changes = record { view = sent; event = send-step _ _ _ _ c.requires.next };
      at_once = at_once-becomes _ _ _ _ sent (subst (λ (who : Start × ℕ × ℕ). HoldsAtOnce who.0 who.1 (has_sent who.2 (view_of c.args.seat.now)))
          (λ i. (c.requires.named.0 i, c.requires.named.1 i, c.units.ensures i)) c.store.ensures.2.1);
    }
