-- From what a scan, a reading and a judge answer to what the bytes say.
use Rattle.std.proofs.Common.{◌≡◌, ◌⊎◌, inl, inr, ◌≤◌, ◌∙◌, ℕ, ◌+◌, List, [], length, sym, ap, subst, arith}
use Rattle.lsn_space.specs.declared.lsn.TheConstants.{LAST}
use Rattle.lsn_space.specs.Opening.{Opening, IsSnapshot}
use Rattle.log_record.specs.LogList.{AreUnitsOf, units_of}
use Rattle.segment_file.specs.declared.scan_result.Scan.{Scan}
use Rattle.segment_file.specs.declared.scan_result.Tail.{Tail}
use Rattle.segment_file.specs.Log.{Log, IsFront, first_format, second_format, HoldsLog}
use Rattle.segment_file.specs.Scan.{Scans, scanned_log}
use Rattle.segment_file.specs.StandingLog.{LogStandsAt}
use Rattle.log_recovery.specs.declared.list_result.Listed.{Listed}
use Rattle.log_record.specs.declared.rec.Placed.{Placed}
use Rattle.lock_core.specs.Sums as sums
use Rattle.lock_core.specs.Lawful.{IsLawful}
use Rattle.log_recovery.specs.JudgedUnits.{HasTakenUnits}
use Rattle.log_recovery.specs.Opened.{OpenedList, log_of}
use Rattle.log_recovery.specs.ListedRecords.{IsRecords}
use Rattle.log_recovery.specs.Recovery.{HoldsList, ListsBytes, TakesBytes, list_of}

-- what a log begins with has no account, or is a snapshot
pub log_opening-none_or_snapshot : (bytes : List ℕ) (log : Log) → HoldsLog bytes log → (log.opening.accounts ≡ []) ⊎ IsSnapshot log.opening
log_opening-none_or_snapshot bytes log held = by_format held.reads.begins
  where
    by_format : IsFront held.reads.front log.opening held.reads.first → (log.opening.accounts ≡ []) ⊎ IsSnapshot log.opening
    by_format (first_format nothing counted is) = inl (ap (λ (o : Opening). o.accounts) nothing)
    by_format (second_format snapshot none is) = inr snapshot

pub scan_opening-none_or_snapshot : (scan : Scan) (bytes : List ℕ) → Scans scan bytes → (scan.opening.accounts ≡ []) ⊎ IsSnapshot scan.opening
scan_opening-none_or_snapshot scan bytes scans = log_opening-none_or_snapshot bytes (scanned_log scan) scans.held

pub scan_end-within_last : (scan : Scan) (bytes units : List ℕ) → Scans scan bytes → units ≡ scan.units → scan.opening.lsn + length units ≤ LAST
scan_end-within_last scan bytes units scans is = omega (arith, scans.held.reads.total, ap length is)

-- the log that was scanned, in records
module _ (scan : Scan) (bytes units : List ℕ) (scans : Scans scan bytes) (is : units ≡ scan.units) where
  pub scan-holds : HoldsLog bytes (record { opening = scan.opening; units = units })
  scan-holds = subst (λ us. HoldsLog bytes (record { opening = scan.opening; units = us })) (sym is) scans.held

  module _ (list : OpenedList) (opening : scan.opening ≡ list.opening) (records : AreUnitsOf units list.records) where
    same-log : scanned_log scan ≡ log_of list
    same-log = let spelled : scan.units ≡ units_of list.records = sym is ∙ records.units_are in λ i. record { opening = opening i; units = spelled i }

    pub list-held : HoldsList bytes list
    list-held = record { each = records.spellable; holds = subst (HoldsLog bytes) same-log scans.held }

    pub list-stands : LogStandsAt scan.tail (log_of list) bytes
    list-stands = subst (λ log. LogStandsAt scan.tail log bytes) same-log scans

-- the answer for a list that is lawful or not
pub scan-ListsBytes : (listed : Listed) (scan : Scan) (bytes units : List ℕ) (list : IsRecords units) → Scans scan bytes → units ≡ scan.units → listed.opening ≡ scan.opening
    → listed.units ≡ scan.units → listed.tail ≡ scan.tail → ListsBytes listed bytes
scan-ListsBytes listed scan bytes units list scans is opening same tail =
    let held = list-held scan bytes units scans is (list_of listed list.0) (sym opening) list.1 in
    let stands = list-stands scan bytes units scans is (list_of listed list.0) (sym opening) list.1 in
    record {
      records = list.0;
      held = held;
      has = record {
        list = record { spellable = list.1.spellable; units_are = same ∙ sym is ∙ list.1.units_are };
        end = (λ i. (tail i).next) ∙ stands.next;
      };
      stands = subst (λ (t : Tail). LogStandsAt t (log_of (list_of listed list.0)) bytes) (sym tail) stands;
    }

-- the answer of what has taken it
pub takes : {T : Type 0} (HasTaken : sums.Opening → T → List Placed → Type 0) (taker : T) (listed : Listed) (scan : Scan) (bytes units : List ℕ)
    → ((opening : sums.Opening) (taker : T) (h : List Placed) → HasTaken opening taker h → IsLawful opening h) → Scans scan bytes → units ≡ scan.units
    → listed.opening ≡ scan.opening → listed.units ≡ scan.units → listed.tail ≡ scan.tail → HasTakenUnits HasTaken scan.opening units taker
    → TakesBytes HasTaken taker listed bytes
unfolding scan-ListsBytes
takes HasTaken taker listed scan bytes units lawful scans is opening same tail taken =
    let own = subst (λ (o : Opening). HasTakenUnits HasTaken o units taker) (sym opening) taken in
    let list = scan-ListsBytes listed scan bytes units (own.records, own.list) scans is opening same tail in
    record {
      records = own.records;
      held = record { list = list.held; lawful = lawful _ taker _ own.taken };
      has = list.has;
      stands = list.stands;
      taken = own.taken;
    }
