-- What `cut` and `upgrade` do to what they work on.
use Rattle.std.specs.Prelude.{◌≡◌, ℕ, List, Option, IfSome}
use Rattle.log_disk.specs.Attachment.{existing_or_made}
use Rattle.log_disk.specs.Costs.{Costs}
use Rattle.log_disk.specs.Disk.{Leaves}
use Rattle.log_disk.specs.declared.disk.LogDisk.{Ghosts}
use Rattle.log_disk.specs.declared.source.Source.{Ghosts as SourceGhosts}
use Rattle.log_disk.specs.declared.sink.Sink.{Ghosts as SinkGhosts}
use Rattle.segment_file.specs.File.{BeginsOpen}
use Rattle.cli_shared.specs.declared.report.Detail.{Detail}
use Rattle.cli_shared.specs.Answers.{StaysSilent}
use Rattle.cli_shared.specs.Attached.{LeavesAttached}
use Rattle.cli_shared.specs.Creation.{TellsWhether}
use Rattle.cli_shared.specs.World.{World}
use Rattle.cli_cut.specs.Answers.{AnswersCut, IsAnswerToCut}
use Rattle.cli_cut.specs.Cutting.{AllHoldCut, FollowsCut, GrowsByCut, MayBeCut, PrecedesCut}
use Rattle.cli_cut.specs.Upgrading.{AllHoldUpgrade, CostsUpgrade, GrowsByUpgrade, MayBeUpgraded}

-- A log is made of the one that is read. What its images may be and hold, what that costs, and how long the file gets is told for each command.
pub record MakesLog {D S K : Type 0} (g : Ghosts D) (h : SourceGhosts S) (i : SinkGhosts K)
    (MayBe : Option (List ℕ) → (List ℕ → Type 0) → List ℕ → Type 0) (AllHold : Option (List ℕ) → (List ℕ → Type 0) → Type 0)
    (Takes Grows : D → D → Type 0) (log : List ℕ) (old new : World D S K) (detail : Detail) : Type 0 where
  pub answer : IfSome (h.left old.input) (λ bytes.
      AnswersCut bytes (h.left new.input) (i.held_bytes old.out) (i.held_bytes new.out) detail)
  pub silent : StaysSilent (i.held_bytes old.out) (i.held_bytes new.out) detail
  pub range : IsAnswerToCut detail
  pub images : g.honest old.disk → Leaves g.moment g.images_since (MayBe (h.left old.input) (g.images old.disk)) old.disk new.disk
  pub made : g.honest old.disk → FollowsCut detail → AllHold (h.left old.input) (g.images new.disk)
  pub kept : PrecedesCut detail → Leaves g.moment g.images_since (g.images old.disk) old.disk new.disk
  pub unchanged : g.honest old.disk → PrecedesCut detail → g.reads new.disk ≡ g.reads old.disk
  pub exists : g.honest old.disk → TellsWhether (BeginsOpen (g.reads old.disk)) detail
  pub count : g.honest old.disk → Takes old.disk new.disk
  pub attached : g.honest old.disk → LeavesAttached (existing_or_made log) (g.attached old.disk) (g.attached new.disk) detail
  pub grows : g.honest old.disk → Grows old.disk new.disk

abbrev pub DoesCut : {D S K : Type 0} → Ghosts D → SourceGhosts S → SinkGhosts K → List ℕ → World D S K → World D S K → Detail → Type 0
DoesCut g h i log old new detail =
    MakesLog g h i MayBeCut AllHoldCut (Costs g 7 11) (GrowsByCut g (h.left old.input)) log old new detail

abbrev pub DoesUpgrade : {D S K : Type 0} → Ghosts D → SourceGhosts S → SinkGhosts K → List ℕ → World D S K → World D S K → Detail → Type 0
DoesUpgrade g h i log old new detail = MakesLog g h i MayBeUpgraded AllHoldUpgrade (CostsUpgrade g (h.left old.input))
    (GrowsByUpgrade g (h.left old.input)) log old new detail
