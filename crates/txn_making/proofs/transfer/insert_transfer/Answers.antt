use Rattle.std.proofs.Common.{◌++◌, [], length, map, ap, sym, subst, ◌∙◌}
use Rattle.std.proofs.lemmas.Result.{err_from_is_err_and}
use Rattle.arrayvec.proofs.ArrayVecLemmas.{items-with_items}
use Rattle.txn_parts.specs.declared.ended.TransferEnd.{TransferEnd}
use Rattle.txn_parts.specs.Desk.{accounts_at, books_at}
use Rattle.txn_parts.proofs.DeskLemmas.{WorksOn-accounts, WorksOn-trans}
use Rattle.txn_making.specs.Endings.{EndsTransfer}
use Rattle.txn_making.specs.Holdings.{taken_of}
use Rattle.txn_making.specs.Legs.{HoldsJob, StandsBefore}
use Rattle.txn_making.proofs.Adding.{adds-none, adds-trans}
use Rattle.txn_making.proofs.Beginning.{StandsBefore-first_leg}
use Rattle.txn_making.proofs.Finishing.{MayEnter-last_record, last_record-spells_next, IsCutOff-last_record, ends-transfer}
use Rattle.txn_making.proofs.Passing.{HoldsJob-placing_all}
use Rattle.txn_making.proofs.transfer.insert_transfer.Goals as goal

pub insert_note-requires-clause-job : goal.insert_note-requires-clause-job
insert_note-requires-clause-job g c = c.requires.may.holds.last

pub make_legs-requires-clause-job : goal.make_legs-requires-clause-job
make_legs-requires-clause-job g c =
    let noted = c.in_ok-insert_note.ensures.noted in
    subst (λ list. HoldsJob (accounts_at c.insert_note.new.desk) c.args.numbered.now.number c.args.numbered.now.job list
    (books_at c.insert_note.new.desk)) (sym c.as_mut_slice-list.ensures.value)
    (WorksOn-accounts g.Q.Relief _ _ c.in_ok-insert_note.ensures.work
    (λ accounts. HoldsJob accounts c.args.numbered.now.number c.args.numbered.now.job c.args.holdings.now.items
    (books_at c.insert_note.new.desk))
    (HoldsJob-placing_all _ _ _ _ _ _ noted.added noted.adds.entries.books_are c.requires.may.holds))

pub make_legs-requires-clause-first : goal.make_legs-requires-clause-first
make_legs-requires-clause-first g c =
    let noted = c.in_ok-insert_note.ensures.noted in
    subst (λ list. StandsBefore 0 c.args.numbered.now.number c.args.numbered.now.job list (books_at c.insert_note.new.desk))
    (sym c.as_mut_slice-list.ensures.value)
    (StandsBefore-first_leg _ _ _ _ _ _ noted.added noted.adds.entries.books_are noted.records_are c.requires.may.begins c.requires.may.holds
    c.requires.may.unchanged)

pub returns-in_err-answer-clause-added : goal.returns-in_err-answer-clause-added
returns-in_err-answer-clause-added g c =
    let failed = err_from_is_err_and c.from_residual-in_err-answer.result c.from_residual-in_err-answer.ensures.1 in
    let noted = c.in_ok-insert_note.ensures.noted in
    let legs = c.in_err-answer.ensures.added in
    rw failed.1 (noted.added ++ legs.0, adds-trans _ _ _ _ _ noted.adds legs.1)

pub spell_end-requires : goal.spell_end-requires
spell_end-requires g c = c.in_ok-answer.ensures.ended.spellable

pub insert_units-requires-clause-next : goal.insert_units-requires-clause-next
insert_units-requires-clause-next g c =
    let noted = c.in_ok-insert_note.ensures.noted in
    let legs = c.in_ok-answer.ensures.added in
    MayEnter-last_record _ _ _ _ _ _ _ _ _ c.requires.work.ready.rests.whole (adds-trans _ _ _ _ _ noted.adds legs.1) c.requires.may.holds c.in_ok-answer.ensures.ended

pub insert_units-requires-clause-spelled : goal.insert_units-requires-clause-spelled
insert_units-requires-clause-spelled g c =
    last_record-spells_next _ _ _ _ c.make_legs.new.desk.seat.now c.in_ok-answer.ensures.ended _ c.spell_end.ensures

pub returns-in_err-end-clause-added : goal.returns-in_err-end-clause-added
returns-in_err-end-clause-added g c =
    let failed = err_from_is_err_and c.from_residual-in_err-end.result c.from_residual-in_err-end.ensures.1 in
    let noted = c.in_ok-insert_note.ensures.noted in
    let legs = c.in_ok-answer.ensures.added in
    rw failed.1 (
      (noted.added ++ legs.0) ++ [],
      adds-trans _ _ _ _ _ (adds-trans _ _ _ _ _ noted.adds legs.1) (adds-none _ _ c.in_err-end.ensures.kept),
    )

pub returns-in_err-end-clause-cut : goal.returns-in_err-end-clause-cut
returns-in_err-end-clause-cut g c =
    let failed = err_from_is_err_and c.from_residual-in_err-end.result c.from_residual-in_err-end.ensures.1 in
    let err = c.in_err-end.ensures in
    rw (failed.1, failed.2) (IsCutOff-last_record _ _ _ _ c.make_legs.new.desk.seat.now c.in_ok-answer.ensures.ended _
    c.insert_units.new.desk.seat.now err.kept.books_are err.stopped)

pub returns-clause-ended : goal.returns-clause-ended
returns-clause-ended g c =
    let noted = c.in_ok-insert_note.ensures.noted in
    let legs = c.in_ok-answer.ensures.added in
    let same = items-with_items c.args.holdings.now c.make_legs.new.holdings
    (c.make_legs.auto.holdings ∙ ap length c.as_mut_slice-list.ensures.value) in
    let ended : TransferEnd = record { answer = c.in_ok-answer.answer; end = c.in_ok-end.end } in
    subst (λ list. EndsTransfer c.args.numbered.now.number c.args.numbered.now.job ended list c.args.desk.now.seat.now
    c.insert_units.new.desk.seat.now) (sym same)
    (ends-transfer _ _ ended _ _ _ _ _ (adds-trans _ _ _ _ _ noted.adds legs.1) c.in_ok-answer.ensures.ended c.in_ok-end.ensures.put)

pub returns-in_err-answer-clause-taken : goal.returns-in_err-answer-clause-taken
returns-in_err-answer-clause-taken g c =
    let value = c.as_mut_slice-list.ensures.value in
    ap (map taken_of) (items-with_items c.args.holdings.now c.make_legs.new.holdings (c.make_legs.auto.holdings ∙ ap length value))
    ∙ c.in_err-answer.ensures.taken ∙ ap (map taken_of) value

pub returns-in_err-end-clause-taken : goal.returns-in_err-end-clause-taken
returns-in_err-end-clause-taken g c =
    let value = c.as_mut_slice-list.ensures.value in
    ap (map taken_of) (items-with_items c.args.holdings.now c.make_legs.new.holdings (c.make_legs.auto.holdings ∙ ap length value))
    ∙ c.in_ok-answer.ensures.taken ∙ ap (map taken_of) value

pub returns-clause-taken : goal.returns-clause-taken
returns-clause-taken g c =
    let value = c.as_mut_slice-list.ensures.value in
    ap (map taken_of) (items-with_items c.args.holdings.now c.make_legs.new.holdings (c.make_legs.auto.holdings ∙ ap length value))
    ∙ c.in_ok-answer.ensures.taken ∙ ap (map taken_of) value

pub returns-in_err-answer-clause-work : goal.returns-in_err-answer-clause-work
returns-in_err-answer-clause-work g c = WorksOn-trans g.Q.Relief g.met.Q.Relief.later_trans _ _ _ c.in_ok-insert_note.ensures.work
    c.in_err-answer.ensures.work

pub returns-in_err-end-clause-work : goal.returns-in_err-end-clause-work
returns-in_err-end-clause-work g c = WorksOn-trans g.Q.Relief g.met.Q.Relief.later_trans _ _ _
    (WorksOn-trans g.Q.Relief g.met.Q.Relief.later_trans _ _ _ c.in_ok-insert_note.ensures.work c.in_ok-answer.ensures.work)
    c.in_err-end.ensures.work

pub returns-clause-work : goal.returns-clause-work
returns-clause-work g c = WorksOn-trans g.Q.Relief g.met.Q.Relief.later_trans _ _ _
    (WorksOn-trans g.Q.Relief g.met.Q.Relief.later_trans _ _ _ c.in_ok-insert_note.ensures.work c.in_ok-answer.ensures.work)
    c.in_ok-end.ensures.work
