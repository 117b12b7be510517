use Rattle.std.proofs.Common.{◌++◌, take}
use Rattle.std.proofs.lemmas.Result.{IfOk-weaker}
use Rattle.stream_reader.specs.Advance.{Advances, CanRead}
use Rattle.stream_tests.proofs.Steps.{advances-can_read}
use Rattle.stream_tests.proofs.pieces.step.Goals as goal

pub returns-clause-read : goal.returns-clause-read
returns-clause-read c =
    let reader = c.take.new.self in
    IfOk-weaker c.take.result (λ r. Advances r.1 c.requires.1 reader (c.requires.0 ++ take r.0 c.args.piece.now)) (λ r. CanRead reader)
    (λ r goes. advances-can_read r.1 c.requires.1 reader _ goes) (c.take.ensures.part c.requires.0 c.requires.1 c.requires.2)
