-- What `new` does to what it works on.
use Rattle.std.specs.Prelude.{◌≡◌, IfSome, ℕ, List}
use Rattle.log_disk.specs.Attachment.{existing_or_made}
use Rattle.log_disk.specs.Costs.{Costs}
use Rattle.log_disk.specs.Disk.{Leaves}
use Rattle.log_disk.specs.declared.disk.LogDisk.{Ghosts}
use Rattle.log_disk.specs.declared.source.Source.{Ghosts as SourceGhosts}
use Rattle.log_disk.specs.declared.sink.Sink.{Ghosts as SinkGhosts}
use Rattle.segment_file.specs.File.{BeginsOpen}
use Rattle.cli_shared.specs.declared.report.Detail.{Detail}
use Rattle.cli_shared.specs.Answers.{StaysSilent}
use Rattle.cli_shared.specs.Attached.{LeavesAttached}
use Rattle.cli_shared.specs.Creation.{TellsWhether}
use Rattle.cli_shared.specs.World.{World}
use Rattle.cli_new.specs.Answers.{AnswersNew, IsAnswerToNew}
use Rattle.cli_new.specs.Creation.{AllHoldNew, FollowsLog, GrowsByNew, MayBeLeft, PrecedesLog}

pub record DoesNew {D S K : Type 0} (g : Ghosts D) (h : SourceGhosts S) (i : SinkGhosts K) (log : List ℕ) (old new : World D S K)
    (detail : Detail) : Type 0 where
  pub answer : IfSome (h.left old.input) (λ bytes.
      AnswersNew bytes (h.left new.input) (i.held_bytes old.out) (i.held_bytes new.out) detail)
  pub silent : StaysSilent (i.held_bytes old.out) (i.held_bytes new.out) detail
  pub range : IsAnswerToNew detail
  pub images : g.honest old.disk
      → Leaves g.moment g.images_since (MayBeLeft (h.left old.input) (g.images old.disk)) old.disk new.disk
  pub made : g.honest old.disk → FollowsLog detail → AllHoldNew (h.left old.input) (g.images new.disk)
  pub kept : PrecedesLog detail → Leaves g.moment g.images_since (g.images old.disk) old.disk new.disk
  pub unchanged : g.honest old.disk → PrecedesLog detail → g.reads new.disk ≡ g.reads old.disk
  pub exists : g.honest old.disk → TellsWhether (BeginsOpen (g.reads old.disk)) detail
  pub count : g.honest old.disk → Costs g 7 11 old.disk new.disk
  pub attached : g.honest old.disk → LeavesAttached (existing_or_made log) (g.attached old.disk) (g.attached new.disk) detail
  pub grows : g.honest old.disk → GrowsByNew g (h.left old.input) old.disk new.disk
