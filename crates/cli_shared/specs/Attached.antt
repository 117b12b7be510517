-- Which file is attached to the disk once a command, or a part of it, has ended. `before` and `now` are what is attached before and after.
use Rattle.std.specs.Prelude.{◌≡◌, Option, Some, Result, MatchResult}
use Rattle.log_disk.specs.Attachment.{Attached, MayAttach}
use Rattle.cli_shared.specs.declared.report.Detail.{Detail}
use Rattle.cli_shared.specs.declared.report.Detail.TheVariants.{NoMemory, Disk}

-- this file is; but where the disk failed or memory was wanting, what was attached before may still be
abbrev pub LeavesAttached : Attached → Option Attached → Option Attached → Detail → Type 0
LeavesAttached file before now NoMemory = MayAttach file before now
LeavesAttached file before now Disk = MayAttach file before now
LeavesAttached file before now detail = now ≡ Some file

-- this file is where the part succeeded, and else as its detail says
abbrev pub EndsAttached : {T : Type 0} → Attached → Option Attached → Option Attached → Result T Detail → Type 0
EndsAttached file before now result = MatchResult result (λ _. now ≡ Some file) (LeavesAttached file before now)
