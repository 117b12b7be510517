use Rattle.stream_reader.proofs.ReaderLemmas.{has-come}
use Rattle.stream_reader.proofs.reader.read_has_come.Goals as goal

pub returns : goal.returns
returns c = λ reader past came read. has-come _ _ _ _ _ past reader.stage came read
