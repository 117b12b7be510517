-- What `ship` says of the list of a log.
use Rattle.std.specs.Prelude.{◌≡◌, ℕ, List}
use Rattle.log_recovery.specs.Boundaries.{GoesOnAt}
use Rattle.log_recovery.specs.Opened.{OpenedList}
use Rattle.ship_stream.specs.Frames.{stream_of}

-- from a boundary on: the stream of the records there
abbrev pub SaysStream : ℕ → OpenedList → List ℕ → Type 0
SaysStream from list text = (units : List ℕ) × (goes : GoesOnAt list.opening.lsn list.records from units)
    × (text ≡ stream_of from goes.later)
