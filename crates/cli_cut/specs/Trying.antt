-- What is done to make a log of the one that is read, up to the text of its accounts. `g` and `h` are what the disk and the input show.
use Rattle.std.specs.Prelude.{◌≡◌, ◌↔◌, ℕ, List, Option, Result, IfOk, IfErr, OnOk, MatchResult, IsErrOf}
use Rattle.log_disk.specs.Attachment.{existing_or_made}
use Rattle.log_disk.specs.Costs.{Costs}
use Rattle.log_disk.specs.Disk.{Leaves}
use Rattle.log_disk.specs.Faults.{CountsWhere}
use Rattle.log_disk.specs.declared.disk.LogDisk.{Ghosts}
use Rattle.log_disk.specs.declared.source.Source.{Ghosts as SourceGhosts}
use Rattle.log_recovery.specs.declared.recovery.Recovered.{Recovered}
use Rattle.lsn_space.specs.Opening.{Opening}
use Rattle.segment_file.specs.File.{BeginsOpen}
use Rattle.cli_shared.specs.declared.report.Detail.{Detail}
use Rattle.cli_shared.specs.declared.report.Detail.TheVariants.{Read, Disk}
use Rattle.cli_shared.specs.Attached.{EndsAttached}
use Rattle.cli_shared.specs.Creation.{TellsWhether}
use Rattle.cli_cut.specs.Answers.{IsMakingFault}
use Rattle.cli_cut.specs.Cutting.{AllHoldCut, GrowsByCut, MayBeCut, PrecedesCut, ReadsCut}
use Rattle.cli_cut.specs.Parts.{ReadsLog}
use Rattle.cli_cut.specs.Upgrading.{AllHoldUpgrade, CostsUpgrade, GrowsByUpgrade, MayBeUpgraded}

-- The log is made, and the result tells what was read; or it isn't, and the result tells why. What the images may be and hold, what that costs, and how long
-- the file gets is told for each command, as in `MakesLog`.
pub record TriesLog {D S T : Type 0} (g : Ghosts D) (h : SourceGhosts S) (Reads : Option (List ℕ) → Option (List ℕ) → T → Type 0)
    (MayBe : Option (List ℕ) → (List ℕ → Type 0) → List ℕ → Type 0) (AllHold : Option (List ℕ) → (List ℕ → Type 0) → Type 0)
    (Takes Grows : D → D → Type 0) (log : List ℕ) (old new : D) (source source_new : S) (result : Result T Detail) : Type 0 where
  pub ok : IfOk result (Reads (h.left source) (h.left source_new))
  pub err : IfErr result (IsMakingFault (h.left source) (h.left source_new))
  pub images : g.honest old → Leaves g.moment g.images_since (MayBe (h.left source) (g.images old)) old new
  pub made : g.honest old → OnOk result (AllHold (h.left source) (g.images new))
  pub kept : IfErr result (λ detail. PrecedesCut detail → Leaves g.moment g.images_since (g.images old) old new)
  pub unchanged : g.honest old → IfErr result (λ detail. PrecedesCut detail → g.reads new ≡ g.reads old)
  pub exists : g.honest old → MatchResult result (λ _. BeginsOpen (g.reads old) → ⊥) (TellsWhether (BeginsOpen (g.reads old)))
  pub count : g.honest old → Takes old new
  pub grows : g.honest old → Grows old new
  pub honest : g.honest old ↔ g.honest new
  pub attached : g.honest old → EndsAttached (existing_or_made log) (g.attached old) (g.attached new) result
  pub read : CountsWhere (IsErrOf result Read) (h.faults source) (h.faults source_new)
  pub disk : CountsWhere (IsErrOf result Disk) (g.faults old) (g.faults new)

abbrev pub TriesCut : {D S : Type 0} → Ghosts D → SourceGhosts S → List ℕ → D → D → S → S → Result Opening Detail → Type 0
TriesCut g h log old new source source_new result = TriesLog g h ReadsCut MayBeCut AllHoldCut (Costs g 7 11) (GrowsByCut g (h.left source))
    log old new source source_new result

abbrev pub TriesUpgrade : {D S : Type 0} → Ghosts D → SourceGhosts S → List ℕ → D → D → S → S → Result Recovered Detail → Type 0
TriesUpgrade g h log old new source source_new result = TriesLog g h ReadsLog MayBeUpgraded AllHoldUpgrade (CostsUpgrade g (h.left source))
    (GrowsByUpgrade g (h.left source)) log old new source source_new result
