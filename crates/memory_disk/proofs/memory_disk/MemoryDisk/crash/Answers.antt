use Rattle.std.proofs.Common.{refl, rules}
use Rattle.memory_disk.proofs.memory_disk.MemoryDisk.crash.Goals as goal

pub replay_steps-requires-clause-digits : goal.replay_steps-requires-clause-digits
replay_steps-requires-clause-digits c = refl

pub returns : goal.returns
returns c = record {
  image = search rules steps 600000;
  settled = search rules steps 600000;
  none = search rules steps 600000;
  landed = search rules steps 600000;
  history = search rules;
  room = search rules;
  attached = search rules;
  failing = search rules;
  calls = search rules;
  count = search rules;
  faults = search rules;
}
