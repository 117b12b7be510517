use Rattle.std.proofs.Common.{◌≤◌, ◌+◌, [], length, drop, vec_capacity}
use Rattle.memory_disk.specs.MemoryDisks.{recorded}
use Rattle.memory_disk.proofs.Replays.{IsReplayed}
use Rattle.memory_disk.proofs.crash.replay_steps.Given as goal

abbrev pub invariant-steps : goal.invariant-steps
invariant-steps l = record {
  replayed : IsReplayed l.pick l.fn.image.items (recorded l.steps l.log []) (drop l.step-index l.steps) l.rest l.digits.left l.image.items l.file.items;
  image_length : length l.image.items + length l.rest ≤ length l.fn.image.items + length l.log;
  file_length : length l.file.items + length l.rest ≤ length l.fn.image.items + length l.log;
  image_capacity : vec_capacity l.fn.image ≤ vec_capacity l.image;
  file_capacity : vec_capacity l.fn.file ≤ vec_capacity l.file;
}
