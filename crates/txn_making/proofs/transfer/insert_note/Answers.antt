use Rattle.std.proofs.Common.{rules}
use Rattle.std.proofs.lemmas.Result.{err_from_is_err_and}
use Rattle.log_table.specs.Seats.{view_of}
use Rattle.ring_buffer.specs.Calls.{HasEntries}
use Rattle.txn_making.proofs.Beginning.{MayEnter-note, note-spells_next, IsCutOff-note, AddsRecords-note, AddsRecords-no_note}
use Rattle.txn_making.proofs.transfer.insert_note.Goals as goal

pub insert_units-requires-clause-next : goal.insert_units-requires-clause-next
insert_units-requires-clause-next g c =
    let note = c.spell_job_note.ensures.noted c.if-not-spell_job_note.false in
    MayEnter-note _ _ _ c.args.desk.now.seat.now c.requires.job note.noted c.requires.begins note.fits.0 c.requires.work.ready.rests.whole
    c.requires.number.0

pub insert_units-requires-clause-spelled : goal.insert_units-requires-clause-spelled
insert_units-requires-clause-spelled g c =
    let note = c.spell_job_note.ensures.noted c.if-not-spell_job_note.false in
    note-spells_next _ _ _ c.args.desk.now.seat.now c.requires.job note.noted c.requires.begins note.fits.0 _ note.spelled

pub returns-in_err-insert_units-clause-cut : goal.returns-in_err-insert_units-clause-cut
returns-in_err-insert_units-clause-cut g c =
    let failed = err_from_is_err_and c.from_residual.result c.from_residual.ensures.1 in
    let err = c.in_err-insert_units.ensures in
    let note = c.spell_job_note.ensures.noted c.if-not-spell_job_note.false in
    rw (failed.1, failed.2) (IsCutOff-note _ _ _ c.args.desk.now.seat.now c.requires.job note.noted c.requires.begins note.fits.0 _
    c.insert_units.new.desk.seat.now err.kept.books_are err.stopped)

pub returns-then-not-spell_job_note-clause-noted : goal.returns-then-not-spell_job_note-clause-noted
returns-then-not-spell_job_note-clause-noted g c =
    let seat = c.args.desk.now.seat.now in
    let kept : HasEntries seat seat (view_of seat).entries (view_of seat).books = search rules in
    AddsRecords-no_note c.args.numbered.now.number c.args.numbered.now.job seat kept (c.spell_job_note.ensures.none c.if-not-spell_job_note.true)

pub returns-clause-noted : goal.returns-clause-noted
returns-clause-noted g c =
    let note = c.spell_job_note.ensures.noted c.if-not-spell_job_note.false in
    AddsRecords-note _ _ _ c.args.desk.now.seat.now c.requires.job note.noted c.requires.begins note.fits.0 _ _ c.in_ok-insert_units.ensures.put
