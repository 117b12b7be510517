-- How the view of the flusher's seat changes in a flush, and what it says of the log's end.
use Rattle.std.specs.Prelude.{ℕ, ◌+◌, ◌++◌, List, length}
use Rattle.log_rule.specs.declared.view.View.{View}
use Rattle.log_rule.specs.Views.{saw_exposed, saw_crew, has_sent}

-- these units were read from the ring, one by one
abbrev pub read_units : List ℕ → View → View
read_units units view = record view {
  seen = record view.seen { steps = view.seen.steps + length units };
  sending = record view.sending { read = view.sending.read ++ units };
}

-- exposed was loaded, and then the units up to it were read
abbrev pub gathered : ℕ → List ℕ → View → View
gathered to units view = read_units units (saw_exposed to view)

-- and then durable was raised to their end
abbrev pub flushed : ℕ → List ℕ → View → View
flushed to units view = has_sent to (gathered to units view)

-- crew was loaded, which held 0, and then exposed
abbrev pub asked : ℕ → View → View
asked exposed view = saw_exposed exposed (saw_crew 0 view)
