-- A command that leaves the disk alone and makes a report tells of no fault of the disk.
use Rattle.std.proofs.Common.{◌≡◌, ℕ, List, Option, refl}
use Rattle.log_disk.specs.declared.disk.LogDisk.{Ghosts}
use Rattle.log_disk.specs.declared.source.Source.{Ghosts as SourceGhosts}
use Rattle.log_disk.specs.declared.sink.Sink.{Ghosts as SinkGhosts}
use Rattle.cli_shared.specs.declared.report.Detail.{Detail}
use Rattle.cli_shared.specs.declared.report.Detail.TheVariants.{Disk}
use Rattle.cli_shared.specs.World.{TellsFaults, world}
use Rattle.cli_reports.specs.Command.{HasReported}

module _ {D S K : Type 0} (g : Ghosts D) (h : SourceGhosts S) (i : SinkGhosts K)
    (Answers : List ℕ → Option (List ℕ) → Option (List ℕ) → Option (List ℕ) → Detail → Type 0) (IsAnswer : Detail → Type 0) where
  pub untouched-faults : (disk : D) (input script_new : S) (out out_new : K) (detail : Detail) → (detail ≡ Disk → ⊥)
      → HasReported h i Answers IsAnswer input script_new out out_new detail
      → TellsFaults g h i (world disk input out) (world disk script_new out_new) detail
  untouched-faults disk input script_new out out_new detail no_disk report = record {
    read = report.read;
    write = report.write;
    disk = record { counted = λ is. absurd (no_disk is); fine = λ not_disk. refl };
    honest = (λ honest. honest, λ honest. honest);
  }
