use Rattle.std.proofs.Common.{◌∙◌, sym, ap, subst, append_assoc, List, ℕ, ◌++◌, take, drop}
use Rattle.std.proofs.lemmas.List.{take-append-drop}
use Rattle.stream_reader.specs.Advance.{Advances}
use Rattle.standby.specs.declared.fault.StandbyFault.TheVariants.{Gap}
use Rattle.standby.specs.Following.{Stops}
use Rattle.standby.proofs.FollowedParts.{follows-has_frame, stops-bad, stops-gap, stops-longer}
use Rattle.standby.proofs.standby.Standby.take_part.Goals as goal

pub returns-in-Err-clause-stops : goal.returns-in-Err-clause-stops
returns-in-Err-clause-stops g c = λ base fed follows.
    stops-bad g.D.LogDisk base fed c.args.self.now follows c.args.bytes.now c.in-Err.bad.offset
    (c.in-Err.ensures.bad fed follows.came follows.read)

pub apply-requires : goal.apply-requires
apply-requires g c =
    let r = c.requires.ready in
    let longer : List ℕ = r.1 ++ take c.in-Ok.taken.0 c.args.bytes.now in
    let adds = subst (λ p. Advances p r.2.came c.take.new.self longer) c.in-Frame.is (c.in-Ok.ensures.part r.1 r.2.came r.2.read) in
    record {
      frame = (
        r.0,
        longer,
        adds.frames,
        adds.records,
        follows-has_frame g.D.LogDisk r.0 r.1 c.args.self.now r.2 c.take.new.self longer adds,
      );
    }

pub returns-in-Err-apply-clause-stops : goal.returns-in-Err-apply-clause-stops
returns-in-Err-apply-clause-stops g c = λ base fed follows.
    let bytes : List ℕ = c.args.bytes.now in
    let longer : List ℕ = fed ++ take c.in-Ok.taken.0 bytes in
    let adds = subst (λ p. Advances p follows.came c.take.new.self longer) c.in-Frame.is
    (c.in-Ok.ensures.part fed follows.came follows.read) in
    let frame = follows-has_frame g.D.LogDisk base fed c.args.self.now follows c.take.new.self longer adds in
    subst (λ b. Stops g.D.LogDisk base b c.in-Err-apply.fault c.apply.new.self.disk.now)
    (append_assoc fed (take c.in-Ok.taken.0 bytes) (drop c.in-Ok.taken.0 bytes)
    ∙ ap (λ b. fed ++ b) (take-append-drop c.in-Ok.taken.0 bytes))
    (stops-longer g.D.LogDisk base longer (drop c.in-Ok.taken.0 bytes) c.in-Err-apply.fault c.apply.new.self.disk.now
    (c.in-Err-apply.ensures.fault base longer adds.frames adds.records frame))

pub returns-in-Some-clause-stops : goal.returns-in-Some-clause-stops
returns-in-Some-clause-stops g c = λ base fed follows.
    let bytes : List ℕ = c.args.bytes.now in
    let longer : List ℕ = fed ++ take c.in-Ok.taken.0 bytes in
    let head = subst (λ p. Advances p follows.came c.take.new.self longer) c.in-Head.is
    (c.in-Ok.ensures.part fed follows.came follows.read) in
    let gap = c.in-Some.ensures.gap in
    subst (λ f. Stops g.D.LogDisk base (fed ++ bytes) f c.args.self.now.disk.now) (sym gap.0)
    (subst (λ b. Stops g.D.LogDisk base (fed ++ b) (Gap c.args.self.now.tail.next c.in-Head.first) c.args.self.now.disk.now)
    (take-append-drop c.in-Ok.taken.0 bytes)
    (stops-gap g.D.LogDisk base fed (take c.in-Ok.taken.0 bytes) (drop c.in-Ok.taken.0 bytes) c.args.self.now c.take.new.self
    c.in-Head.first follows
    head.0 head.1 gap.1))
