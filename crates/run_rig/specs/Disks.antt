-- The disk on which the log of a test is made.
use Rattle.log_disk.specs.declared.disk.LogDisk.{Ghosts}
use Rattle.segment_file.specs.StandingLog.{IsStableGate}

-- the first gate is the same whatever a crash leaves
abbrev pub HasStableGate : {D : Type 0} → Ghosts D → D → Type 0
HasStableGate g disk = g.honest disk → IsStableGate 0 (g.images disk)
