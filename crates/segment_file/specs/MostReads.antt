-- What opening a file costs.
use Rattle.std.specs.Prelude.{ℕ, ◌+◌, ◌/◌}

-- one read for each 4096 bytes of a file, and one more
abbrev pub most_reads : ℕ → ℕ
most_reads length = length / 4096 + 1
