-- What a scan of a file's bytes answers.
use Rattle.std.specs.Prelude.{ℕ, List}
use Rattle.segment_file.specs.File.{BeginsAsLog}
use Rattle.segment_file.specs.Log.{Log, IsBadSnapshot, IsBadBatch}
use Rattle.segment_file.specs.StandingLog.{LogStandsAt}
use Rattle.segment_file.specs.declared.scan_result.Scan.{Scan}
use Rattle.segment_file.specs.declared.scan_result.ScanFault.{ScanFault}
use Rattle.segment_file.specs.declared.scan_result.ScanFault.TheVariants.{NotALog, BadSnapshot, BadBatch, NoMemory}

-- the log that was found
abbrev pub scanned_log : Scan → Log
scanned_log scan = record { opening = scan.opening; units = scan.units }

-- the bytes hold it, and it goes on at the tail that was found
abbrev pub Scans : Scan → List ℕ → Type 0
Scans scan bytes = LogStandsAt scan.tail (scanned_log scan) bytes

-- what is wrong with the bytes; want of memory says nothing of them
abbrev pub IsScanFaultOf : List ℕ → ScanFault → Type 0
IsScanFaultOf bytes NotALog = BeginsAsLog bytes → ⊥
IsScanFaultOf bytes BadSnapshot = IsBadSnapshot bytes
IsScanFaultOf bytes (BadBatch offset) = IsBadBatch bytes offset
IsScanFaultOf bytes NoMemory = Unit {0}
