use Rattle.stream_reader.specs.Advance.{CanRead}
use Rattle.stream_tests.proofs.pieces.take_piece.Given as goal

abbrev pub invariant-parts : goal.invariant-parts
invariant-parts l = CanRead l.reader
