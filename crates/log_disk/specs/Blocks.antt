-- What calls write to a sink by a block. `g` is what a sink shows; `old` and `new` are the sink before and after.
use Rattle.std.specs.Prelude.{◌≡◌, ◌++◌, List, ℕ, Result, OnOk, OnErr}
use Rattle.log_disk.specs.Faults.{HasCause}
use Rattle.log_disk.specs.Streams.{AppendsBut, AppendsPart}
use Rattle.log_disk.specs.declared.sink.Sink.{Ghosts}

-- all of these bytes but for those that wait, or at a fault a part of all; none where they `Fit` into the block
pub record AppendsBlocks {K T E : Type 0} (g : Ghosts K) (old new : K) (bytes waiting : List ℕ) (result : Result T E) (Fit : Type 0) : Type 0 where
  pub all : OnOk result (AppendsBut (g.held_bytes old) (g.held_bytes new) bytes waiting)
  pub prefix : OnErr result (AppendsPart (g.held_bytes old) (g.held_bytes new) bytes)
  pub waits : Fit → new ≡ old
  pub cause : HasCause (g.faults old) (g.faults new) result

-- the piece is put behind what waits in the block, of which the last bytes wait then; at a fault a part of all this was written
pub record PutsPiece {K T E : Type 0} (g : Ghosts K) (piece : List ℕ) (old new : K) (waits waits_new : List ℕ)
    (result : Result T E) : Type 0 where
  pub all : OnOk result (AppendsBut (g.held_bytes old) (g.held_bytes new) (waits ++ piece) waits_new)
  pub prefix : OnErr result (AppendsPart (g.held_bytes old) (g.held_bytes new) (waits ++ piece))
  pub cause : HasCause (g.faults old) (g.faults new) result
