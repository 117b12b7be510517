-- Why no more of a log is read from a source. `first` is what the source told when the reading began, `now` what it tells now.
use Rattle.std.specs.Prelude.{◌≢◌, ℕ, List, Option}
use Rattle.log_disk.specs.declared.source.ReadFault.{ReadFault}
use Rattle.log_disk.specs.declared.source.ReadFault.TheVariants as read
use Rattle.segment_file.specs.Scan.{IsScanFaultOf}
use Rattle.segment_file.specs.declared.scan_result.ScanFault.{ScanFault}
use Rattle.segment_file.specs.declared.scan_result.ScanFault.TheVariants as scan
use Rattle.source_recovery.specs.Window.{GaveAll}
use Rattle.source_recovery.specs.declared.batches.ReadingFault.{ReadingFault}
use Rattle.source_recovery.specs.declared.batches.ReadingFault.TheVariants.{Failed, NoMemory, Bytes}

-- the source gave all its bytes, and they have this fault, which is no want of memory
pub record HasScanFault (first now : Option (List ℕ)) (fault : ScanFault) : Type 0 where
  pub bytes : List ℕ
  pub gave : GaveAll first now bytes
  pub is : IsScanFaultOf bytes fault
  pub no_want : fault ≢ scan.NoMemory

-- what the bytes have wrong, where the fault is theirs
abbrev pub IsReadingFaultOf : Option (List ℕ) → Option (List ℕ) → ReadingFault → Type 0
IsReadingFaultOf first now Failed = Unit {0}
IsReadingFaultOf first now NoMemory = Unit {0}
IsReadingFaultOf first now (Bytes fault) = HasScanFault first now fault

-- what a window's fault is called here
abbrev pub told_fault : ReadFault → ReadingFault
told_fault read.Failed = Failed
told_fault read.NoMemory = NoMemory
