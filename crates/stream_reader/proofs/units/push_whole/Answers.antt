use Rattle.std.proofs.Common.{rules, ◌∙◌, ◌∷◌, [], ap, length, length-append, arith}
use Rattle.segment_file.specs.PackedBatch.{BatchState}
use Rattle.stream_reader.proofs.UnitLemmas.{pushing-more, IsPushing-PushesBytes}
use Rattle.stream_reader.proofs.units.push_whole.Goals as goal

pub units-preserved : goal.units-preserved
units-preserved c = record {
  pushing = pushing-more _ _ _ _ _ _ c.in-Some.unit c.units.invariant.pushing (search rules) c.in-Some.ensures.some
      (ap (λ (b : BatchState). b.units) c.push.ensures);
  most = omega (
    arith,
    ap (λ (b : BatchState). length b.units) c.push.ensures,
    length-append c.units.batch.units (c.in-Some.unit ∷ []),
    c.units-test.true,
    c.count.ensures,
  );
  room = ap (λ (b : BatchState). b.room) c.push.ensures ∙ c.units.invariant.room;
}

pub returns-clause-taken : goal.returns-clause-taken
returns-clause-taken c = IsPushing-PushesBytes _ _ _ _ c.units.invariant.pushing c.units.invariant.room
