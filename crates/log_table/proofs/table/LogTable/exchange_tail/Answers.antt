use Rattle.std.proofs.Common.{arith, ◌≢◌, ℕ, sym, ap, ◌∙◌, subst}
use Rattle.log_rule.specs.May.{MayExchangeTail}
use Rattle.log_table.specs.Seats.{view_of, number_of, key_of}
use Rattle.log_rule.proofs.Allowing.{exchange_tail-allowed}
use Rattle.log_rule.proofs.LeaderPlacing.{place-step}
use Rattle.log_rule.proofs.Loads.{saw_tail_contended-step}
use Rattle.log_rule.proofs.Reserving.{reserve-step}
use Rattle.log_rule.proofs.TailMoving.{after_exchange-made}
use Rattle.log_rule.specs.SlotViews.{exchanged, reserved_group, contended_losing}
use Rattle.log_rule.specs.Views.{reserved, seen_tail, lost_alone, saw_tail}
use Rattle.log_table.proofs.Stepping.{MovesBase-becomes_called, exchange-lost}
use Rattle.log_table.proofs.table.LogTable.exchange_tail.Goals as goal

pub compare_exchange-found-requires : goal.compare_exchange-found-requires
compare_exchange-found-requires c = (
  c.requires.seat.table_is,
  omega (arith, c.args.self.now.sized),
  exchange_tail-allowed (key_of c.args.self.now) _ (number_of c.args.seat.now) c.args.seat.now.base.me c.units.result c.units-2.result
      (subst (λ (p : ℕ × ℕ). MayExchangeTail p.0 p.1 (view_of c.args.seat.now)) (λ i. (sym c.units.ensures i, sym c.units-2.ensures i)) c.requires.next),
)

pub returns-then-found-units-clause-ok_event : goal.returns-then-found-units-clause-ok_event
returns-then-found-units-clause-ok_event c = reserve-step _ _ _ _ _

pub returns-then-found-units-clause-group_event : goal.returns-then-found-units-clause-group_event
returns-then-found-units-clause-group_event c = place-step _ _ _ _ _

pub returns-else-found-units-clause-err_event : goal.returns-else-found-units-clause-err_event
returns-else-found-units-clause-err_event c = λ _. saw_tail_contended-step _ _ _ _ _

pub returns-else-found-units-clause-group_err_event : goal.returns-else-found-units-clause-group_err_event
returns-else-found-units-clause-group_err_event c = λ _. saw_tail_contended-step _ _ _ _ _

pub returns-then-found-units-clause-ok : goal.returns-then-found-units-clause-ok
returns-then-found-units-clause-ok c = λ may.
    let view = view_of c.args.seat.now in
    let same = c.if-found-units.true ∙ c.units-3.ensures ∙ sym c.units.ensures in
    let reserves = ap (exchanged c.units.result c.units-2.result view) may.rests.idle in
    MovesBase-becomes_called _ (after_exchange-made _ _ _ view _ same (reserves ∙ (λ i. reserved (c.units.ensures i) (c.units-2.ensures i) view)))
    c.compare_exchange-found.ensures

pub returns-then-found-units-clause-group : goal.returns-then-found-units-clause-group
returns-then-found-units-clause-group c = λ may.
    let view = view_of c.args.seat.now in
    let same = c.if-found-units.true ∙ c.units-3.ensures ∙ sym c.units.ensures in
    let places = ap (exchanged c.units.result c.units-2.result view) may.places in
    MovesBase-becomes_called _ (after_exchange-made _ _ _ view _ same (places ∙ (λ i. reserved_group (c.units.ensures i) (c.units-2.ensures i) view)))
    c.compare_exchange-found.ensures

pub returns-else-found-units-clause-err : goal.returns-else-found-units-clause-err
returns-else-found-units-clause-err c = λ may.
    let step = c.compare_exchange-found.ensures in
    let found = c.compare_exchange-found.result in
    let view = view_of c.args.seat.now in
    let differs : found ≢ c.args.from = λ same. c.if-found-units.false (same ∙ sym c.units-3.ensures) in (
      omega (arith, step.2.1.0, may.tail, c.new.ensures, differs),
      MovesBase-becomes_called _ (exchange-lost _ _ found view (λ same. differs (same ∙ c.units.ensures))
          ∙ ap (λ call. record view { seen = seen_tail found view.seen; contended = contended_losing view call }) may.rests.idle
          ∙ (λ i. lost_alone (sym c.new.ensures i) view)) step,
    )

pub returns-else-found-units-clause-group_err : goal.returns-else-found-units-clause-group_err
returns-else-found-units-clause-group_err c = λ may.
    let step = c.compare_exchange-found.ensures in
    let found = c.compare_exchange-found.result in
    let view = view_of c.args.seat.now in
    let differs : found ≢ c.args.from = λ same. c.if-found-units.false (same ∙ sym c.units-3.ensures) in (
      omega (arith, step.2.1.0, may.tail, c.new.ensures, differs),
      MovesBase-becomes_called _ (exchange-lost _ _ found view (λ same. differs (same ∙ c.units.ensures))
          ∙ ap (λ call. record view { seen = seen_tail found view.seen; contended = contended_losing view call }) may.places
          ∙ (λ i. saw_tail (sym c.new.ensures i) view)) step,
    )
