-- What `cut` and `upgrade` do and tell, from what the making of the log came to.
use Rattle.std.proofs.Common.{◌≡◌, ◌↔◌, ◌∙◌, inr, ℕ, List, Option, Some, IfSome, Ok, Err, refl, subst, sym}
use Rattle.log_disk.specs.Attachment.{existing_or_made}
use Rattle.log_disk.specs.Disk.{Leaves}
use Rattle.log_disk.specs.Faults.{Rose}
use Rattle.log_disk.specs.declared.disk.LogDisk.{Ghosts}
use Rattle.log_disk.specs.declared.source.Source.{Ghosts as SourceGhosts}
use Rattle.log_disk.specs.declared.sink.Sink.{Ghosts as SinkGhosts}
use Rattle.segment_file.specs.File.{BeginsOpen}
use Rattle.cli_shared.specs.Answers.{StaysSilent}
use Rattle.cli_shared.specs.Attached.{LeavesAttached}
use Rattle.cli_shared.specs.Creation.{TellsWhether}
use Rattle.cli_shared.specs.World.{TellsFaults, world}
use Rattle.cli_shared.specs.declared.report.Detail.{Detail}
use Rattle.cli_shared.specs.declared.report.Detail.TheVariants.{Fine, Write, Disk}
use Rattle.cli_shared.proofs.FaultsTold.{TellsFaults-not_write, TellsFaults-fine, TellsFaults-write}
use Rattle.cli_shared.proofs.ToldLemmas.{TellsWrite}
use Rattle.cli_cut.specs.Answers.{AnswersCut, IsAnswerToCut}
use Rattle.cli_cut.specs.Command.{MakesLog}
use Rattle.cli_cut.specs.Cutting.{PrecedesCut}
use Rattle.cli_cut.specs.Trying.{TriesLog}
use Rattle.cli_cut.proofs.AnswerLemmas.{IsUnmade, making_fault-unmade}

-- ---- the making of a log, where none was found

module _ {D S T : Type 0} (g : Ghosts D) (h : SourceGhosts S) (Reads : Option (List ℕ) → Option (List ℕ) → T → Type 0)
    (MayBe : Option (List ℕ) → (List ℕ → Type 0) → List ℕ → Type 0) (AllHold : Option (List ℕ) → (List ℕ → Type 0) → Type 0)
    (Takes Grows : D → D → Type 0) (log : List ℕ) (old mid new : D) (source source_new : S)
    (closed : g.honest old → BeginsOpen (g.reads old) → ⊥) (sought : g.honest old ↔ g.honest mid)
    (attached : g.honest old → g.attached mid ≡ Some (existing_or_made log)) (fine : g.faults mid ≡ g.faults old)
    (images : g.honest old → Leaves g.moment g.images_since (MayBe (h.left source) (g.images old)) old new) (count : g.honest old → Takes old new)
    (grows : g.honest old → Grows old new) (honest : g.honest mid ↔ g.honest new) (stays : g.attached new ≡ g.attached mid)
    (read : h.faults source_new ≡ h.faults source) where
  both : g.honest old ↔ g.honest new
  both = (λ first. honest.0 (sought.0 first), λ last. sought.1 (honest.1 last))

  pub tries-fine : (value : T) → Reads (h.left source) (h.left source_new) value → (g.honest old → AllHold (h.left source) (g.images new))
      → g.faults new ≡ g.faults mid → TriesLog g h Reads MayBe AllHold Takes Grows log old new source source_new (Ok value)
  tries-fine value reads made same = record {
    ok = reads;
    err = tt;
    images = images;
    made = made;
    kept = tt;
    unchanged = λ first. tt;
    exists = closed;
    count = count;
    grows = grows;
    honest = both;
    attached = λ first. stays ∙ attached first;
    read = record { counted = λ is. let none : ⊥ = cc in absurd none; fine = λ other. read };
    disk = record { counted = λ is. let none : ⊥ = cc in absurd none; fine = λ other. same ∙ fine };
  }

  -- the disk failed while the log was written
  pub tries-failed : Rose (g.faults mid) (g.faults new) → TriesLog g h Reads MayBe AllHold Takes Grows log old new source source_new (Err Disk)
  tries-failed rose = record {
    ok = tt;
    err = tt;
    images = images;
    made = λ first. tt;
    kept = λ precedes. absurd precedes;
    unchanged = λ first precedes. absurd precedes;
    exists = λ first. tt;
    count = count;
    grows = grows;
    honest = both;
    attached = λ first. inr (stays ∙ attached first);
    read = record { counted = λ is. let none : ⊥ = cc in absurd none; fine = λ other. read };
    disk = record { counted = λ is. subst (λ before. Rose before (g.faults new)) fine rose; fine = λ other. absurd (other refl) };
  }

-- ---- the command

module _ {D S K T : Type 0} (g : Ghosts D) (h : SourceGhosts S) (i : SinkGhosts K) (Reads : Option (List ℕ) → Option (List ℕ) → T → Type 0)
    (MayBe : Option (List ℕ) → (List ℕ → Type 0) → List ℕ → Type 0) (AllHold : Option (List ℕ) → (List ℕ → Type 0) → Type 0)
    (Takes Grows : D → D → Type 0) (log : List ℕ) (old new : D) (source source_new : S) (out : K) where
  -- no log is made
  module _ (detail : Detail) (tried : TriesLog g h Reads MayBe AllHold Takes Grows log old new source source_new (Err detail)) where
    -- what the answer says then
    told : IsUnmade (h.left source) (h.left source_new) (i.held_bytes out) detail
    told = making_fault-unmade (h.left source) (h.left source_new) (i.held_bytes out) detail tried.err

    pub makes_log-unmade : MakesLog g h i MayBe AllHold Takes Grows log (world old source out) (world new source_new out) detail
    makes_log-unmade = record {
      answer = told.answer;
      silent = told.silent;
      range = told.range;
      images = tried.images;
      made = λ honest follows. absurd (told.follows follows);
      kept = tried.kept;
      unchanged = tried.unchanged;
      exists = tried.exists;
      count = tried.count;
      attached = tried.attached;
      grows = tried.grows;
    }

    pub tells_faults-unmade : TellsFaults g h i (world old source out) (world new source_new out) detail
    tells_faults-unmade = TellsFaults-not_write g h i (world old source out) (world new source_new out) detail (λ is. told.write (subst TellsWrite (sym is) tt)) tried.read refl
        tried.disk tried.honest

  -- the log is made
  module _ (out_new : K) (value : T) (tried : TriesLog g h Reads MayBe AllHold Takes Grows log old new source source_new (Ok value)) where
    -- whichever answer follows the log
    makes-whole : (detail : Detail) → StaysSilent (i.held_bytes out) (i.held_bytes out_new) detail → IsAnswerToCut detail → (PrecedesCut detail → ⊥)
        → ((BeginsOpen (g.reads old) → ⊥) → TellsWhether (BeginsOpen (g.reads old)) detail)
        → (g.attached new ≡ Some (existing_or_made log) → LeavesAttached (existing_or_made log) (g.attached old) (g.attached new) detail)
        → IfSome (h.left source) (λ bytes. AnswersCut bytes (h.left source_new) (i.held_bytes out) (i.held_bytes out_new) detail)
        → MakesLog g h i MayBe AllHold Takes Grows log (world old source out) (world new source_new out_new) detail
    makes-whole detail silent range other exists attached answer = record {
      answer = answer;
      silent = silent;
      range = range;
      images = tried.images;
      made = λ honest follows. tried.made honest;
      kept = λ precedes. absurd (other precedes);
      unchanged = λ honest precedes. absurd (other precedes);
      exists = λ honest. exists (tried.exists honest);
      count = tried.count;
      attached = λ honest. attached (tried.attached honest);
      grows = tried.grows;
    }

    -- and its text written
    pub makes_log-fine : IfSome (h.left source) (λ bytes. AnswersCut bytes (h.left source_new) (i.held_bytes out) (i.held_bytes out_new) Fine)
        → MakesLog g h i MayBe AllHold Takes Grows log (world old source out) (world new source_new out_new) Fine
    makes_log-fine = makes-whole Fine tt tt (λ precedes. precedes) (λ closed. closed) (λ is. is)

    pub tells_faults-fine : i.faults out_new ≡ i.faults out → TellsFaults g h i (world old source out) (world new source_new out_new) Fine
    tells_faults-fine write = TellsFaults-fine g h i (world old source out) (world new source_new out_new) (tried.read.fine (λ is. cc)) write
        (tried.disk.fine (λ is. cc)) tried.honest

    -- and the writing failed
    pub makes_log-write : IfSome (h.left source) (λ bytes. AnswersCut bytes (h.left source_new) (i.held_bytes out) (i.held_bytes out_new) Write)
        → MakesLog g h i MayBe AllHold Takes Grows log (world old source out) (world new source_new out_new) Write
    makes_log-write = makes-whole Write tt tt (λ precedes. precedes) (λ closed. closed) (λ is. is)

    pub tells_faults-write : Rose (i.faults out) (i.faults out_new) → TellsFaults g h i (world old source out) (world new source_new out_new) Write
    tells_faults-write write = TellsFaults-write g h i (world old source out) (world new source_new out_new) (tried.read.fine (λ is. cc)) write
        (tried.disk.fine (λ is. cc)) tried.honest
