-- What a whole text does to a sink. `g` is what the sink shows.
use Rattle.std.specs.Prelude.{ℕ, List, Result, OnOk, OnErr}
use Rattle.std.specs.Io.KnownBytes.{Appends}
use Rattle.log_disk.specs.Faults.{HasCause}
use Rattle.log_disk.specs.Streams.{AppendsPart}
use Rattle.log_disk.specs.declared.sink.Sink.{Ghosts}

-- the whole text is written, or a part of it at a fault
pub record Writes {K T E : Type 0} (g : Ghosts K) (text : List ℕ) (old new : K) (result : Result T E) : Type 0 where
  pub all : OnOk result (Appends (g.held_bytes old) (g.held_bytes new) text)
  pub prefix : OnErr result (AppendsPart (g.held_bytes old) (g.held_bytes new) text)
  pub cause : HasCause (g.faults old) (g.faults new) result
