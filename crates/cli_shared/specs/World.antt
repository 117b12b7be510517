-- What a command works on. `g`, `h` and `i` are what the disk, the input and the output show; `old` and `new` are the three of them before
-- and after.
use Rattle.std.specs.Prelude.{◌≡◌, ◌↔◌}
use Rattle.log_disk.specs.Faults.{CountsWhere}
use Rattle.log_disk.specs.declared.disk.LogDisk.{Ghosts}
use Rattle.log_disk.specs.declared.source.Source.{Ghosts as SourceGhosts}
use Rattle.log_disk.specs.declared.sink.Sink.{Ghosts as SinkGhosts}
use Rattle.cli_shared.specs.declared.report.Detail.{Detail}
use Rattle.cli_shared.specs.declared.report.Detail.TheVariants.{Read, Write, Disk}

-- what the program works on
pub record World (D S K : Type 0) : Type 0 where
  pub disk : D
  pub input : S
  pub out : K

abbrev pub world : {D S K : Type 0} → D → S → K → World D S K
world disk input out = record { disk = disk; input = input; out = out }

-- One fault is counted where one is answered, by the object that the answer names, and none else.
pub record TellsFaults {D S K : Type 0} (g : Ghosts D) (h : SourceGhosts S) (i : SinkGhosts K) (old new : World D S K) (detail : Detail)
    : Type 0 where
  pub read : CountsWhere (detail ≡ Read) (h.faults old.input) (h.faults new.input)
  pub write : CountsWhere (detail ≡ Write) (i.faults old.out) (i.faults new.out)
  pub disk : CountsWhere (detail ≡ Disk) (g.faults old.disk) (g.faults new.disk)
  pub honest : g.honest old.disk ↔ g.honest new.disk
