use Rattle.stream_reader.proofs.ReaderLemmas.{unfinished-bad_behind}
use Rattle.stream_reader.proofs.reader.StreamReader.finish.Goals as goal

pub returns-in_default : goal.returns-in_default
returns-in_default c = record {
  whole = λ past came read. tt;
  bad = λ past came read. unfinished-bad_behind _ _ _ _ _ past c.args.self.now.stage came c.in_default.not-End read;
}
