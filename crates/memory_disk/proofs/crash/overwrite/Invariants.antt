use Rattle.std.proofs.Common.{◌≡◌, ◌≤◌, length, vec_capacity}
use Rattle.log_disk.specs.Disk.{IsTorn}
use Rattle.memory_disk.proofs.crash.overwrite.Given as goal

abbrev pub invariant-places : goal.invariant-places
invariant-places l = record {
  torn : IsTorn l.fn.at l.fn.count l.fn.image.items l.image.items;
  length : length l.image.items ≡ length l.fn.image.items;
  capacity : vec_capacity l.fn.image ≤ vec_capacity l.image;
}
