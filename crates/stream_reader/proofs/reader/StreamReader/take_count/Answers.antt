use Rattle.std.proofs.Common.{◌∙◌, ◌++◌, sym, refl, take, drop, arith, true≢false}
use Rattle.std.proofs.lemmas.List.{take-append-drop}
use Rattle.std.proofs.lemmas.Result.{err_from_is_err_and}
use Rattle.stream_reader.specs.declared.reader.Stage.TheVariants.{Count}
use Rattle.stream_reader.proofs.ReaderLemmas.{count-bad}
use Rattle.stream_reader.proofs.TakingLemmas.{HasRead-ReadsAt, takes-bad, count_read-HasRead, takes_both-bad, takes_both-part}
use Rattle.stream_reader.proofs.reader.StreamReader.take_count.Goals as goal

pub returns-then-not-has_room : goal.returns-then-not-has_room
returns-then-not-has_room c =
    let self = c.args.self.now in
    let piece = c.args.piece.now in
    let used = c.fill-used.result in
    takes-bad self _ piece self.at (λ past came read more.
    count-bad self.at self.next self.batch.room self.batch.units self.begun past (take used piece) came c.in-Some.count piece
    (drop used piece) more
    (HasRead-ReadsAt self Count past came c.requires.stage read)
    (sym c.fill-used.ensures.added ∙ sym c.as_slice.ensures ∙ c.in-Some.ensures.some) (omega arith) (omega arith)
    (λ most fits. true≢false (sym (c.if-not-has_room.ensures.1 (most, fits))))
    (sym (take-append-drop used piece)))

pub take_units-requires-clause-read : goal.take_units-requires-clause-read
take_units-requires-clause-read c =
    let taken = take c.fill-used.result c.args.piece.now in
    let set = c.begin_frame.ensures in
    let is = sym c.fill-used.ensures.added ∙ sym c.as_slice.ensures ∙ c.in-Some.ensures.some in (
      c.requires.read.0 ++ taken,
      c.requires.read.1,
      count_read-HasRead c.args.self.now c.begin_frame.new.self taken c.in-Some.count c.requires.stage is (omega arith)
          (c.if-not-has_room.ensures.0 refl) set.stage set.empty
          set.rest c.requires.read.0 c.requires.read.1 c.requires.read.2,
    )

pub returns-in_err-more : goal.returns-in_err-more
returns-in_err-more c =
    let failed = err_from_is_err_and c.from_residual.result c.from_residual.ensures.1 in
    let taken = take c.fill-used.result c.args.piece.now in
    let set = c.begin_frame.ensures in
    let is = sym c.fill-used.ensures.added ∙ sym c.as_slice.ensures ∙ c.in-Some.ensures.some in
    rw (failed.1, failed.2) (takes_both-bad c.args.self.now c.begin_frame.new.self c.take_units.new.self c.args.piece.now
    c.split_at.result.1.now c.fill-used.result
    c.fill-used.ensures.within c.split_at.ensures.back
    (count_read-HasRead c.args.self.now c.begin_frame.new.self taken c.in-Some.count c.requires.stage is (omega arith)
    (c.if-not-has_room.ensures.0 refl) set.stage set.empty
    set.rest)
    _ c.in_err-more.ensures)

pub returns : goal.returns
returns c =
    let taken = take c.fill-used.result c.args.piece.now in
    let set = c.begin_frame.ensures in
    let is = sym c.fill-used.ensures.added ∙ sym c.as_slice.ensures ∙ c.in-Some.ensures.some in
    takes_both-part c.args.self.now c.begin_frame.new.self c.take_units.new.self c.args.piece.now c.split_at.result.1.now c.fill-used.result
    c.fill-used.ensures.within c.split_at.ensures.back
    (count_read-HasRead c.args.self.now c.begin_frame.new.self taken c.in-Some.count c.requires.stage is (omega arith)
    (c.if-not-has_room.ensures.0 refl) set.stage set.empty
    set.rest)
    c.in_ok-more.more c.in_ok-more.part c.in_ok-more.ensures
