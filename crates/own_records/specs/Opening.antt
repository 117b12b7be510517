-- The faults of the calls that read all bytes of a disk.
use Rattle.std.specs.Prelude.{ℕ, List}
use Rattle.segment_file.specs.declared.opening.OpenFault as file
use Rattle.segment_file.specs.declared.opening.OpenFault.TheVariants as read
use Rattle.own_records.specs.Records.{HoldsNone}
use Rattle.own_records.specs.declared.opening.OpenFault.{OpenFault}
use Rattle.own_records.specs.declared.opening.OpenFault.TheVariants.{Disk, NotRecords, BadRecord, NoMemory}
use Rattle.own_records.specs.declared.reading.RecordsFault.{RecordsFault}
use Rattle.own_records.specs.declared.reading.RecordsFault.TheVariants as records

-- the fault that is answered where the bytes have this one
abbrev pub open_fault : RecordsFault → OpenFault
open_fault records.NotRecords = NotRecords
open_fault records.BadRecord = BadRecord
open_fault records.NoMemory = NoMemory

-- the fault that is answered where the bytes couldn't be had
abbrev pub read_fault : file.OpenFault → OpenFault
read_fault read.DiskFault = Disk
read_fault read.NoMemory = NoMemory

-- what the bytes have to do with the fault; one of the disk and want of memory say nothing of them
abbrev pub IsOpenFaultOf : List ℕ → OpenFault → Type 0
IsOpenFaultOf bytes Disk = Unit {0}
IsOpenFaultOf bytes NotRecords = HoldsNone bytes
IsOpenFaultOf bytes BadRecord = HoldsNone bytes
IsOpenFaultOf bytes NoMemory = Unit {0}
