-- How a command tells of faults, by how it ended. `old` and `new` are what it works on, before and after.
use Rattle.std.proofs.Common.{◌≡◌, ◌↔◌, Err, IsErrOf, ap, refl, subst, sym}
use Rattle.log_disk.specs.Faults.{CountsWhere, Rose}
use Rattle.log_disk.specs.declared.disk.LogDisk.{Ghosts}
use Rattle.log_disk.specs.declared.source.Source.{Ghosts as SourceGhosts}
use Rattle.log_disk.specs.declared.sink.Sink.{Ghosts as SinkGhosts}
use Rattle.cli_shared.specs.declared.report.Detail.{Detail}
use Rattle.cli_shared.specs.declared.report.Detail.TheVariants.{Fine, Read, Write, Disk}
use Rattle.cli_shared.specs.World.{TellsFaults, World}
use Rattle.cli_shared.proofs.ToldLemmas.{TellsRead, TellsWrite, TellsDisk}

module _ {D S K : Type 0} (g : Ghosts D) (h : SourceGhosts S) (i : SinkGhosts K) (old new : World D S K) where
  -- nothing failed
  pub TellsFaults-fine : h.faults new.input ≡ h.faults old.input → i.faults new.out ≡ i.faults old.out → g.faults new.disk ≡ g.faults old.disk
      → (g.honest old.disk ↔ g.honest new.disk) → TellsFaults g h i old new Fine
  TellsFaults-fine read write disk honest = record {
    read = record { counted = λ is. absurd (subst TellsRead (sym is) tt); fine = λ other. read };
    write = record { counted = λ is. absurd (subst TellsWrite (sym is) tt); fine = λ other. write };
    disk = record { counted = λ is. absurd (subst TellsDisk (sym is) tt); fine = λ other. disk };
    honest = honest;
  }

  -- the writing failed
  pub TellsFaults-write : h.faults new.input ≡ h.faults old.input → Rose (i.faults old.out) (i.faults new.out)
      → g.faults new.disk ≡ g.faults old.disk → (g.honest old.disk ↔ g.honest new.disk) → TellsFaults g h i old new Write
  TellsFaults-write read write disk honest = record {
    read = record { counted = λ is. absurd (subst TellsRead (sym is) tt); fine = λ other. read };
    write = record { counted = λ is. write; fine = λ other. absurd (other refl) };
    disk = record { counted = λ is. absurd (subst TellsDisk (sym is) tt); fine = λ other. disk };
    honest = honest;
  }

  -- a part failed that writes nothing out, with this detail
  pub TellsFaults-not_write : {T : Type 0} (detail : Detail) → (detail ≡ Write → ⊥)
      → CountsWhere (IsErrOf {T = T} (Err detail) Read) (h.faults old.input) (h.faults new.input) → i.faults new.out ≡ i.faults old.out
      → CountsWhere (IsErrOf {T = T} (Err detail) Disk) (g.faults old.disk) (g.faults new.disk) → (g.honest old.disk ↔ g.honest new.disk)
      → TellsFaults g h i old new detail
  TellsFaults-not_write detail other read write disk honest = record {
    read = record { counted = λ is. read.counted (ap Err is); fine = λ not. read.fine (λ is. not cc) };
    write = record { counted = λ is. absurd (other is); fine = λ not. write };
    disk = record { counted = λ is. disk.counted (ap Err is); fine = λ not. disk.fine (λ is. not cc) };
    honest = honest;
  }
