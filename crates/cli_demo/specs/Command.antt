-- What `demo` does to the disk and the output. It reads nothing.
use Rattle.std.specs.Prelude.{ℕ, List}
use Rattle.command_line.specs.declared.options.RunOptions.{RunOptions}
use Rattle.log_disk.specs.Attachment.{existing_or_made}
use Rattle.log_disk.specs.declared.disk.LogDisk.{Ghosts}
use Rattle.log_disk.specs.declared.sink.Sink.{Ghosts as SinkGhosts}
use Rattle.segment_file.specs.File.{BeginsOpen}
use Rattle.cli_shared.specs.declared.report.Detail.{Detail}
use Rattle.cli_shared.specs.Attached.{LeavesAttached}
use Rattle.cli_shared.specs.Creation.{TellsWhether}
use Rattle.cli_demo.specs.Demo.{AnswersDemo, IsAnswerToDemo, TellsSummary}

pub record HasDemonstrated {D K : Type 0} (g : Ghosts D) (i : SinkGhosts K) (log : List ℕ) (n seed : ℕ) (options : RunOptions)
    (disk disk_new : D) (out out_new : K) (detail : Detail) : Type 0 where
  pub answer : g.honest disk → AnswersDemo g n seed options disk disk_new detail
  pub text : TellsSummary n seed (i.held_bytes out) (i.held_bytes out_new) detail
  pub range : IsAnswerToDemo detail
  pub exists : g.honest disk → TellsWhether (BeginsOpen (g.reads disk)) detail
  pub attached : g.honest disk → LeavesAttached (existing_or_made log) (g.attached disk) (g.attached disk_new) detail
