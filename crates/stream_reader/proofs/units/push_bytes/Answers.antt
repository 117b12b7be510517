use Rattle.std.proofs.Common.{arith}
use Rattle.std.proofs.lemmas.List.{nil_from_length}
use Rattle.stream_reader.proofs.UnitLemmas.{pushes-trans, pushes-rest_waits}
use Rattle.stream_reader.proofs.units.push_bytes.Goals as goal

pub returns-then-count-clause-taken : goal.returns-then-count-clause-taken
returns-then-count-clause-taken c =
    let empty = nil_from_length c.end_unit-first.new.begun (omega (arith, c.count.ensures, c.if-count-gt0.false)) in
    pushes-trans c.split_at.ensures.back empty c.end_unit-first.ensures.taken c.push_whole.ensures.taken

pub returns-clause-taken : goal.returns-clause-taken
returns-clause-taken c =
    let empty = nil_from_length c.end_unit-first.new.begun (omega (arith, c.count.ensures, c.if-count-gt0.false)) in
    pushes-rest_waits c.split_at.ensures.back empty c.end_unit-first.ensures.taken c.push_whole.ensures.taken
    _ _ _ c.split_at-2.ensures.back c.fill.ensures.within c.fill.ensures.added
