-- What `follow` does to what it works on.
use Rattle.std.specs.Prelude.{ℕ, List}
use Rattle.log_disk.specs.Attachment.{existing}
use Rattle.log_disk.specs.declared.disk.LogDisk.{Ghosts}
use Rattle.log_disk.specs.declared.source.Source.{Ghosts as SourceGhosts}
use Rattle.log_disk.specs.declared.sink.Sink.{Ghosts as SinkGhosts}
use Rattle.cli_shared.specs.declared.report.Detail.{Detail}
use Rattle.cli_shared.specs.Answers.{StaysSilent}
use Rattle.cli_shared.specs.Attached.{LeavesAttached}
use Rattle.cli_shared.specs.Outside.{outside}
use Rattle.cli_shared.specs.World.{World}
use Rattle.cli_standby.specs.Following.{AnswersFollow, IsAnswerToFollow}

pub record DoesFollow {D S K : Type 0} (g : Ghosts D) (h : SourceGhosts S) (i : SinkGhosts K) (log : List ℕ) (old new : World D S K)
    (detail : Detail) : Type 0 where
  pub answer : g.honest old.disk → AnswersFollow g (outside old.disk (h.left old.input) (i.held_bytes old.out))
      (outside new.disk (h.left new.input) (i.held_bytes new.out)) detail
  pub silent : StaysSilent (i.held_bytes old.out) (i.held_bytes new.out) detail
  pub range : IsAnswerToFollow detail
  pub attached : g.honest old.disk → LeavesAttached (existing log) (g.attached old.disk) (g.attached new.disk) detail
