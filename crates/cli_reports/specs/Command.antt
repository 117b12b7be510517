-- What a command does that reads the bytes of a log from the input, and writes a report of them.
use Rattle.std.specs.Prelude.{◌≡◌, ℕ, List, Option, IfSome}
use Rattle.log_disk.specs.Faults.{CountsWhere}
use Rattle.log_disk.specs.declared.source.Source.{Ghosts as SourceGhosts}
use Rattle.log_disk.specs.declared.sink.Sink.{Ghosts as SinkGhosts}
use Rattle.cli_shared.specs.Answers.{StaysSilent}
use Rattle.cli_shared.specs.declared.report.Detail.{Detail}
use Rattle.cli_shared.specs.declared.report.Detail.TheVariants.{Read, Write}

-- what it answers for the bytes, which answers there are, and that one fault is counted where one is answered, and none else
pub record HasReported {S K : Type 0} (h : SourceGhosts S) (i : SinkGhosts K)
    (Answers : List ℕ → Option (List ℕ) → Option (List ℕ) → Option (List ℕ) → Detail → Type 0) (IsAnswer : Detail → Type 0)
    (input script_new : S) (out out_new : K) (detail : Detail) : Type 0 where
  pub answer : IfSome (h.left input) (λ bytes. Answers bytes (h.left script_new) (i.held_bytes out) (i.held_bytes out_new) detail)
  pub silent : StaysSilent (i.held_bytes out) (i.held_bytes out_new) detail
  pub range : IsAnswer detail
  pub read : CountsWhere (detail ≡ Read) (h.faults input) (h.faults script_new)
  pub write : CountsWhere (detail ≡ Write) (i.faults out) (i.faults out_new)
