use Rattle.std.proofs.Common.{refl}
use Rattle.log_recovery.proofs.RecoveryLemmas.{scan-holds, scan_opening-none_or_snapshot, scan_end-within_last, takes}
use Rattle.log_recovery.proofs.recovery.taken_scan.Goals as goal

pub taken_units-requires-clause-opening : goal.taken_units-requires-clause-opening
taken_units-requires-clause-opening g c = scan_opening-none_or_snapshot c.args.scan c.requires.scanned.0 c.requires.scanned.1

pub taken_units-requires-clause-fits : goal.taken_units-requires-clause-fits
taken_units-requires-clause-fits g c = scan_end-within_last c.args.scan c.requires.scanned.0 c.as_slice.result.now c.requires.scanned.1 c.as_slice.ensures

pub returns-in-Err-clause-fault : goal.returns-in-Err-clause-fault
returns-in-Err-clause-fault g c bytes scans =
    c.units_fault.ensures.fault bytes (record { opening = c.args.scan.opening; units = c.as_slice.result.now })
    (scan-holds c.args.scan bytes c.as_slice.result.now scans c.as_slice.ensures) c.in-Err.ensures.fault

pub returns-in-Ok-clause-found : goal.returns-in-Ok-clause-found
returns-in-Ok-clause-found g c bytes scans =
    takes g.T.TakesRecords.has_taken c.in-Ok.taker _ c.args.scan bytes c.as_slice.result.now g.met.T.TakesRecords.lawful
    scans c.as_slice.ensures refl refl refl c.in-Ok.ensures.found
