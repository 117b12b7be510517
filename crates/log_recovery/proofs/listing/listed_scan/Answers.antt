use Rattle.std.proofs.Common.{refl, subst, arith}
use Rattle.log_recovery.specs.ListedRecords.{IsBadRecAt}
use Rattle.log_recovery.proofs.RecoveryLemmas.{scan-holds, scan_end-within_last, scan-ListsBytes}
use Rattle.log_recovery.proofs.listing.listed_scan.Goals as goal

pub first_bad-requires-clause-fits : goal.first_bad-requires-clause-fits
first_bad-requires-clause-fits c =
    omega (arith, c.begin_of-begin.ensures, scan_end-within_last c.args.scan c.requires.scanned.0 c.as_slice.result.now c.requires.scanned.1 c.as_slice.ensures)

pub returns-in-Some-clause-fault : goal.returns-in-Some-clause-fault
returns-in-Some-clause-fault c bytes scans =
    let units = c.as_slice.result.now in (
      record { opening = c.args.scan.opening; units = units },
      scan-holds c.args.scan bytes units scans c.as_slice.ensures,
      subst (λ begin. IsBadRecAt begin units c.in-Some.lsn) c.begin_of-begin.ensures c.in-Some.ensures.bad,
    )

pub returns-in-None-clause-found : goal.returns-in-None-clause-found
returns-in-None-clause-found c bytes scans =
    scan-ListsBytes _ c.args.scan bytes c.as_slice-2.result.now c.in-None.ensures.none scans c.as_slice-2.ensures refl refl refl
