-- What a full window's bytes have wrong, all bytes have wrong.
use Rattle.std.proofs.Common.{◌≡◌, ◌<◌, ◌≤◌, inl, inr, ⊎_elim, ◌∙◌, sym, ap, refl, subst, ℕ, List, [], ◌∷◌, ◌++◌, length, arith, length-append, append-nil}
use Rattle.std.specs.List.{flat_map}
use Rattle.lsn_space.specs.Opening.{Opening}
use Rattle.segment_head.specs.Head.{head, head_magic, snapshot_bytes}
use Rattle.segment_head.proofs.HeadLemmas.{length-snapshot}
use Rattle.segment_file.specs.declared.layout.TheConstants.{OPEN}
use Rattle.segment_file.specs.declared.scan_result.ScanFault.{ScanFault}
use Rattle.segment_file.specs.declared.scan_result.ScanFault.TheVariants.{NotALog, BadSnapshot, BadBatch, NoMemory}
use Rattle.segment_file.specs.File.{magic, batch, gated, BeginsAsLog, HasNoBatch}
use Rattle.segment_file.specs.Log.{IsFront, first_format, second_format, IsBadSnapshot, IsBadBatch, first_batch, later_batch}
use Rattle.segment_file.specs.Scan.{IsScanFaultOf}
use Rattle.segment_file.proofs.BatchLemmas.{length-batch}
use Rattle.source_recovery.specs.declared.window.TheConstants.{FULL}
use Rattle.source_recovery.proofs.AheadLemmas.{begins_whole-begins_ahead}

module _ (ahead rest : List ℕ) (full : FULL ≤ length ahead) where
  full_window-no_log : (BeginsAsLog ahead → ⊥) → BeginsAsLog (ahead ++ rest) → ⊥
  full_window-no_log none log =
      ⊎_elim (λ first. none (inl (_, begins_whole-begins_ahead ahead rest (OPEN ∷ magic) first.0 (omega arith) first.1)))
      (λ second. none (inr (_, begins_whole-begins_ahead ahead rest (OPEN ∷ head_magic) second.0 (omega arith) second.1))) log

  full_window-bad_snapshot : IsBadSnapshot ahead → IsBadSnapshot (ahead ++ rest)
  full_window-bad_snapshot bad = record {
    second = (bad.second.0 ++ rest, ap (λ list. list ++ rest) bad.second.1);
    none = λ opening back held whole.
        let most = held.most in
        bad.none opening _ held (begins_whole-begins_ahead ahead rest (OPEN ∷ head opening) back
        (omega (arith, full, most, length-append head_magic (snapshot_bytes opening), length-snapshot opening)) whole);
  }

  full_window-no_first_batch : (body : List ℕ) → ahead ≡ OPEN ∷ magic ++ body → HasNoBatch 0 body → HasNoBatch 0 (body ++ rest)
  full_window-no_first_batch body begins none units back counted whole fits =
      let most = counted.most in
      let size = length-batch (batch units ++ []) units [] refl in
      none units _ counted (begins_whole-begins_ahead body rest (batch units) back
      (omega (arith, full, most, ap length begins, size, length-append (batch units) [])) whole) fits

-- a front is some bytes, so no bad batch at the first byte is behind one
front-some : (front : List ℕ) (opening : Opening) (units : List ℕ) → IsFront front opening units → 0 < length front
front-some front opening units (first_format nothing counted is) = omega (arith, ap length is)
front-some front opening units (second_format held none is) = omega (arith, ap length is)

no_bad_batch_behind-first : (bytes : List ℕ) (offset : ℕ) → offset ≡ 0 → IsBadBatch bytes offset
    → (body : List ℕ) × (bytes ≡ OPEN ∷ magic ++ body) × HasNoBatch 0 body
no_bad_batch_behind-first bytes offset zero (first_batch body begins none place) = (body, begins, none)
no_bad_batch_behind-first bytes offset zero (later_batch log bad) =
    let reads = bad.reads in
    absurd (omega (
      arith,
      zero,
      bad.place,
      ap length reads.whole,
      length-append (reads.front ++ flat_map gated reads.batches) (OPEN ∷ bad.body),
      length-append reads.front (flat_map gated reads.batches),
      front-some reads.front log.opening reads.first reads.begins,
    ))

full_window-bad_batch : (ahead rest : List ℕ) (offset : ℕ) → FULL ≤ length ahead → offset ≡ 0 → IsBadBatch ahead offset
    → IsBadBatch (ahead ++ rest) offset
full_window-bad_batch ahead rest offset full zero bad =
    let first = no_bad_batch_behind-first ahead offset zero bad in
    first_batch (first.0 ++ rest) (ap (λ list. list ++ rest) first.1)
    (full_window-no_first_batch ahead rest full first.0 first.1 first.2) zero

-- where the source has ended, these are all bytes
pub ended_window-fault : (ahead rest : List ℕ) (fault : ScanFault) → rest ≡ [] → IsScanFaultOf ahead fault
    → IsScanFaultOf (ahead ++ rest) fault
ended_window-fault ahead rest fault none is =
    subst (λ bytes. IsScanFaultOf bytes fault) (sym (ap (λ list. ahead ++ list) none ∙ append-nil ahead)) is

-- the fault is not one of a batch behind a front
abbrev pub IsOfFront : ScanFault → Type 0
IsOfFront (BadBatch offset) = offset ≡ 0
IsOfFront fault = Unit {0}

-- what is no bad batch is
pub no_bad_batch-IsOfFront : (fault : ScanFault) → ((offset : ℕ) → fault ≡ BadBatch offset → ⊥) → IsOfFront fault
no_bad_batch-IsOfFront NotALog other = tt
no_bad_batch-IsOfFront BadSnapshot other = tt
no_bad_batch-IsOfFront (BadBatch offset) other = absurd (other offset refl)
no_bad_batch-IsOfFront NoMemory other = tt

pub full_window-fault : (ahead rest : List ℕ) (fault : ScanFault) → FULL ≤ length ahead → IsOfFront fault → IsScanFaultOf ahead fault
    → IsScanFaultOf (ahead ++ rest) fault
full_window-fault ahead rest NotALog full of is = full_window-no_log ahead rest full is
full_window-fault ahead rest BadSnapshot full of is = full_window-bad_snapshot ahead rest full is
full_window-fault ahead rest (BadBatch offset) full of is = full_window-bad_batch ahead rest offset full of is
full_window-fault ahead rest NoMemory full of is = tt
