-- Where a log's file ends, by the units that were written to it.
use Rattle.std.specs.Prelude.{ℕ, ◌+◌, ◌*◌, List, length}
use Rattle.segment_file.specs.StandingLog.{tail_at}
use Rattle.segment_file.specs.declared.layout.TheConstants.{HEAD}
use Rattle.segment_file.specs.declared.scan_result.Tail.{Tail}

-- where a new log of so many units goes on: behind its first gate, the magic bytes, the number of units, and the units
abbrev pub new_end : ℕ → ℕ
new_end units = HEAD + 1 + 8 * units

-- Where the file ends at most once so many units were sent from the tail at this place on, in batches of one unit or more, and another batch
-- was begun, of no more units than the ring has. A batch takes 5 bytes and 8 for each unit, so at most 13 for each; and the gate behind it.
abbrev pub most_end : ℕ → ℕ → ℕ → ℕ
most_end at units ring = at + 13 * units + (6 + 8 * ring)

-- where a new log with these units goes on
abbrev pub new_tail : List ℕ → Tail
new_tail units = tail_at (new_end (length units)) (length units)
