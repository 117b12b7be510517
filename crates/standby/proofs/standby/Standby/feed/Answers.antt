use Rattle.std.proofs.Common.{◌≡◌, ◌∙◌, ◌++◌, [], sym}
use Rattle.std.proofs.lemmas.Bool.{eqb-true}
use Rattle.std.proofs.lemmas.List.{nil_from_length}
use Rattle.standby.proofs.FollowedParts.{passed-more, passed-stops, passed_all-follows, follows-leaves_followed, stops-leaves_followed}
use Rattle.standby.proofs.standby.Standby.feed.Goals as goal

pub take_part-requires-clause-ready : goal.take_part-requires-clause-ready
take_part-requires-clause-ready g c =
    let r = c.requires.ready in
    (r.0, _, c.parts.invariant.passed.follows r.0 r.1 r.2)

pub parts-preserved : goal.parts-preserved
parts-preserved g c = record {
  passed = passed-more g.D.LogDisk c.args.self.now c.parts.self c.take_part.new.self c.args.bytes.now c.parts.rest.now
      c.split_at.result.1.now
      c.in-Ok.used c.parts.invariant.passed c.split_at.ensures.back c.in-Ok.ensures.follows;
  same = c.take_part.ensures.same ∙ c.parts.invariant.same;
}

pub returns-in-Err-clause-stops : goal.returns-in-Err-clause-stops
returns-in-Err-clause-stops g c =
    passed-stops g.D.LogDisk c.args.self.now c.parts.self c.args.bytes.now c.parts.rest.now c.in-Err.fault c.take_part.new.self.disk.now
    c.parts.invariant.passed c.in-Err.ensures.stops

pub returns-in-Err-clause-images : goal.returns-in-Err-clause-images
returns-in-Err-clause-images g c = λ base fed follows.
    stops-leaves_followed g.D.LogDisk base (fed ++ c.args.bytes.now) c.in-Err.fault c.take_part.new.self.disk.now
    (returns-in-Err-clause-stops g c base fed follows)

pub returns-clause-follows : goal.returns-clause-follows
returns-clause-follows g c =
    let none : c.parts.rest.now ≡ [] = nil_from_length c.parts.rest.now (eqb-true _ _ (sym c.is_empty.ensures ∙ c.parts-test.false)) in
    passed_all-follows g.D.LogDisk c.args.self.now c.parts.self c.args.bytes.now c.parts.rest.now c.parts.invariant.passed none

pub returns-clause-ended : goal.returns-clause-ended
returns-clause-ended g c = λ base fed follows.
    c.progress.ensures base (fed ++ c.args.bytes.now) (returns-clause-follows g c base fed follows)

pub returns-clause-images : goal.returns-clause-images
returns-clause-images g c = λ base fed follows.
    follows-leaves_followed g.D.LogDisk base (fed ++ c.args.bytes.now) c.parts.self (returns-clause-follows g c base fed follows)
