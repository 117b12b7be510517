-- The source and the sink in memory, as contracts see them.
use Rattle.std.specs.Prelude.{◌≡◌, ◌≤◌, ◌⊎◌, ℕ, List, length, Contains}
use Rattle.log_disk.specs.Faults.{raised}

-- the bytes left, the most that a read gives, the numbers of the calls that fail, how many calls were made, and the counts
pub record SourceState : Type 0 where
  pub left : List ℕ
  pub piece : ℕ
  pub failing : List ℕ
  pub calls : ℕ
  pub read_allowance : ℕ
  pub faults : ℕ

-- the next read fails: no read is left, or its number is one of those that fail
abbrev pub ReadFails : SourceState → Type 0
ReadFails s = (s.read_allowance ≡ 0) ⊎ Contains s.failing (raised s.calls)

-- the bytes held, how many there is room for in all, the numbers of the calls that fail, and the counts
pub record SinkState : Type 0 where
  pub held : List ℕ
  pub room : ℕ
  pub failing : List ℕ
  pub calls : ℕ
  pub faults : ℕ

-- the next write fails: no room is left, or its number is one of those that fail
abbrev pub WriteFails : SinkState → Type 0
WriteFails s = (s.room ≤ length s.held) ⊎ Contains s.failing (raised s.calls)
