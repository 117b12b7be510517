use Rattle.stream_reader.specs.Advance.{CanRead}
use Rattle.stream_tests.proofs.pieces.take_all.Given as goal

abbrev pub invariant-pieces : goal.invariant-pieces
invariant-pieces l = CanRead l.reader
