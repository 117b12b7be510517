use Rattle.std.proofs.Common.{ℕ, ◌∙◌, ap, pos, neg_ℤ}
use Rattle.std.proofs.lemmas.Result.{err_from_is_err_and}
use Rattle.log_record.specs.Spelling.{spelling}
use Rattle.log_record.specs.declared.rec.Rec.TheVariants.{Update}
use Rattle.txn_parts.proofs.DeskLemmas.{WorksOn-trans}
use Rattle.txn_making.proofs.Making.{MayEnter-payer_update, payer_update-spells_next, IsCutOff-payer_update, MayEnter-payee_update, payee_update-spells_next, IsCutOff-payee_update, AddsRecords-leg}
use Rattle.txn_making.proofs.legs.make_leg.Goals as goal

pub insert_units-requires-clause-next : goal.insert_units-requires-clause-next
insert_units-requires-clause-next g c = MayEnter-payer_update _ _ _ _ c.args.desk.now.seat.now c.requires.leg c.requires.work.ready.rests.whole

pub insert_units-requires-clause-spelled : goal.insert_units-requires-clause-spelled
insert_units-requires-clause-spelled g c =
    let payer = c.holding_of.ensures in
    payer_update-spells_next _ _ _ _ c.args.desk.now.seat.now c.requires.leg _ c.holding_of.result.now
    (c.spell_debit.ensures ∙ ap (λ (leg : ℕ × ℕ × ℕ). spelling (Update c.args.number c.holding_of.result.now.taken.account
    (neg_ℤ (pos leg.2)) c.holding_of.result.now.taken.mark)) c.leg.view_is)
    payer.found (payer.account ∙ ap (λ (leg : ℕ × ℕ × ℕ). leg.0) c.leg.view_is)

pub returns-in_err-insert_units-clause-cut : goal.returns-in_err-insert_units-clause-cut
returns-in_err-insert_units-clause-cut g c =
    let failed = err_from_is_err_and c.from_residual.result c.from_residual.ensures.1 in
    let err = c.in_err-insert_units.ensures in
    rw (failed.1, failed.2) (IsCutOff-payer_update _ _ _ _ c.args.desk.now.seat.now c.requires.leg _ c.insert_units.new.desk.seat.now
    err.kept.books_are err.stopped)

pub insert_units-requires-2-clause-next : goal.insert_units-requires-2-clause-next
insert_units-requires-2-clause-next g c =
    MayEnter-payee_update _ _ _ _ c.args.desk.now.seat.now c.requires.leg c.insert_units.new.desk.seat.now _ c.in_ok-insert_units.ensures.put
    c.requires.work.ready.rests.whole

pub insert_units-requires-2-clause-spelled : goal.insert_units-requires-2-clause-spelled
insert_units-requires-2-clause-spelled g c =
    let payee = c.holding_of-2.ensures in
    payee_update-spells_next _ _ _ _ c.args.desk.now.seat.now c.requires.leg c.insert_units.new.desk.seat.now _ c.in_ok-insert_units.ensures.put
    _ c.holding_of-2.result.now
    (c.spell_credit.ensures ∙ ap (λ (leg : ℕ × ℕ × ℕ). spelling (Update c.args.number c.holding_of-2.result.now.taken.account
    (pos leg.2) c.holding_of-2.result.now.taken.mark)) c.leg.view_is)
    payee.found (payee.account ∙ ap (λ (leg : ℕ × ℕ × ℕ). leg.1) c.leg.view_is)

pub returns-in_err-insert_units-2-clause-cut : goal.returns-in_err-insert_units-2-clause-cut
returns-in_err-insert_units-2-clause-cut g c =
    let failed = err_from_is_err_and c.from_residual-in_err-insert_units-2.result c.from_residual-in_err-insert_units-2.ensures.1 in
    let err = c.in_err-insert_units-2.ensures in
    rw (failed.1, failed.2) (IsCutOff-payee_update _ _ _ _ c.args.desk.now.seat.now c.requires.leg c.insert_units.new.desk.seat.now _
    c.in_ok-insert_units.ensures.put
    _ c.insert_units-2.new.desk.seat.now err.kept.books_are err.stopped)

pub returns-clause-made : goal.returns-clause-made
returns-clause-made g c =
    AddsRecords-leg _ _ _ _ c.args.desk.now.seat.now c.requires.leg c.insert_units.new.desk.seat.now _ c.in_ok-insert_units.ensures.put
    c.insert_units-2.new.desk.seat.now _ c.in_ok-insert_units-2.ensures.put

pub returns-clause-work : goal.returns-clause-work
returns-clause-work g c =
    WorksOn-trans g.Q.Relief g.met.Q.Relief.later_trans _ _ _ c.in_ok-insert_units.ensures.work c.in_ok-insert_units-2.ensures.work
