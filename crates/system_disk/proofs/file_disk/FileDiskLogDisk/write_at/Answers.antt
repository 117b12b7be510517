use Rattle.std.proofs.Common.{rules, refl}
use Rattle.system_disk.proofs.Untold.{writes-untold}
use Rattle.system_disk.proofs.file_disk.FileDiskLogDisk.write_at.Goals as goal

pub returns-in-Some : goal.returns-in-Some
returns-in-Some g c = record {
  does = writes-untold _ _ _ c.args.at c.args.bytes.now;
  attached = refl;
  time = search rules;
  cause = search rules;
  calls = λ honest. absurd honest;
  honest = search rules;
}

pub returns-in-None : goal.returns-in-None
returns-in-None g c = record {
  does = writes-untold _ _ _ c.args.at c.args.bytes.now;
  attached = refl;
  time = search rules;
  cause = search rules;
  calls = λ honest. absurd honest;
  honest = search rules;
}
