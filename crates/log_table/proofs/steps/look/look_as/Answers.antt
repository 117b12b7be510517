use Rattle.std.proofs.Common.{arith, ◌≡◌, ℕ, sym, subst}
use Rattle.atomic_table.specs.Table.{Allows}
use Rattle.table_layout.specs.declared.layout.TheConstants.{STOP}
use Rattle.log_rule.specs.declared.start.Start.{Start}
use Rattle.log_rule.specs.Moments.{HoldsAtOnce}
use Rattle.log_rule.specs.Sound.{Ruled}
use Rattle.log_table.specs.Seats.{view_of, number_of, key_of}
use Rattle.log_rule.proofs.Allowing.{look-allowed}
use Rattle.log_rule.proofs.Stopping.{stop_unchanged-step}
use Rattle.log_table.proofs.Stepping.{MovesBase-becomes, at_once-becomes}
use Rattle.log_table.proofs.steps.look.look_as.Goals as goal

pub load-requires : goal.load-requires
load-requires g c = (
  c.requires.seat.table_is,
  omega (arith, c.args.table.now.sized),
  subst (λ (who : Start × ℕ). Allows (Ruled (key_of c.args.table.now)) c.args.table.now.table.shared.table_id.slots (number_of c.args.seat.now)
      c.args.seat.now.base.me STOP (λ n. n)
      (λ n new. (new ≡ (c.args.seat.now.base.me.0, c.args.seat.now.base.me.1)) × HoldsAtOnce who.0 who.1 c.args.seat.now.base.me.0))
      (λ i. (sym c.requires.named.0 i, sym c.requires.named.1 i))
      (look-allowed (key_of c.args.table.now) c.args.table.now.table.shared.table_id.slots (number_of c.args.seat.now) c.args.seat.now.base.me
      c.args.table.now.opened),
)

pub returns : goal.returns
returns g c = let looked = MovesBase-becomes c.load.ensures in record {
  changes = record { view = looked; event = stop_unchanged-step _ _ _ };
  at_once = at_once-becomes _ _ _ _ looked (subst (λ (who : Start × ℕ). HoldsAtOnce who.0 who.1 (view_of c.args.seat.now))
      (λ i. (c.requires.named.0 i, c.requires.named.1 i)) c.load.ensures.2.1);
}
