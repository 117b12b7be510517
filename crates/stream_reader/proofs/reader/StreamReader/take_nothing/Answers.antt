use Rattle.std.proofs.Common.{arith}
use Rattle.stream_reader.proofs.ReaderLemmas.{ReadsAt-place_bound}
use Rattle.stream_reader.proofs.reader.StreamReader.take_nothing.Goals as goal

pub overflow_add-result : goal.overflow_add-result
overflow_add-result c = let small = ReadsAt-place_bound _ _ _ _ _ c.requires.read.0 c.args.self.now.stage c.requires.read.1 c.requires.read.2 in
    omega (arith, small)
