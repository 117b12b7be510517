-- What `run` does to what it works on.
use Rattle.std.specs.Prelude.{ℕ, List}
use Rattle.command_line.specs.declared.options.RunOptions.{RunOptions}
use Rattle.log_disk.specs.Attachment.{existing}
use Rattle.log_disk.specs.declared.disk.LogDisk.{Ghosts}
use Rattle.log_disk.specs.declared.source.Source.{Ghosts as SourceGhosts}
use Rattle.log_disk.specs.declared.sink.Sink.{Ghosts as SinkGhosts}
use Rattle.cli_shared.specs.declared.report.Detail.{Detail}
use Rattle.cli_shared.specs.Attached.{LeavesAttached}
use Rattle.cli_shared.specs.Outside.{outside}
use Rattle.cli_shared.specs.World.{World}
use Rattle.cli_run.specs.RunAnswers.{AnswersRun, IsAnswerToRun, RunStaysSilent}

pub record DoesRun {D S K : Type 0} (g : Ghosts D) (h : SourceGhosts S) (i : SinkGhosts K) (log : List ℕ) (options : RunOptions)
    (old new : World D S K) (detail : Detail) : Type 0 where
  pub answer : g.honest old.disk
      → AnswersRun g options (outside old.disk (h.left old.input) (i.held_bytes old.out))
      (outside new.disk (h.left new.input) (i.held_bytes new.out)) detail
  pub silent : RunStaysSilent (i.held_bytes old.out) (i.held_bytes new.out) detail
  pub range : IsAnswerToRun detail
  pub attached : g.honest old.disk → LeavesAttached (existing log) (g.attached old.disk) (g.attached new.disk) detail
