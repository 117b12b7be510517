-- What a scan reads, from what a file begins with to its last gate.
use Rattle.std.proofs.Common.{◌≡◌, ◌≤◌, ◌∙◌, sym, ap, refl, subst, ℕ, ◌+◌, List, [], ◌∷◌, ◌++◌, length, arith, append_assoc, length-append}
use Rattle.std.specs.List.{flat_map, AllByRecursion}
use Rattle.lsn_space.specs.declared.lsn.TheConstants.{LAST}
use Rattle.lsn_space.specs.Opening.{Opening, no_opening, IsSnapshot}
use Rattle.segment_head.specs.Head.{head, head_magic, snapshot_bytes}
use Rattle.segment_file.specs.declared.layout.TheConstants.{OPEN}
use Rattle.segment_file.specs.File.{magic, batch, gated, joined, IsCountedBatch, HasNoBatch}
use Rattle.segment_file.specs.Log.{IsFront, first_format, second_format, ReadsTo}
use Rattle.segment_file.specs.Taking.{TakesFront, TakesBatch}
use Rattle.segment_file.proofs.FileLemmas.{gated-push_between, joined-push}

-- ---- what a file begins with

-- a first batch behind the magic bytes
pub TakesFront-first_format : (bytes body old units rest : List ℕ) (opening : Opening) (begin : ℕ) → bytes ≡ OPEN ∷ magic ++ body → opening ≡ no_opening → begin ≡ 0
    → old ≡ [] → TakesBatch begin old body units rest → TakesFront bytes opening units rest
TakesFront-first_format bytes body old units rest opening begin is nothing zero none taken =
    let units_are : units ≡ taken.units = taken.added ∙ ap (λ before. before ++ taken.units) none in
    record {
      front = OPEN ∷ magic ++ batch units;
      begins = first_format nothing (subst IsCountedBatch (sym units_are) taken.counted) refl;
      whole = is ∙ ap (λ list. OPEN ∷ magic ++ list) (taken.front ∙ ap (λ list. batch list ++ rest) (sym units_are));
      total = omega (arith, taken.total, zero, ap (λ (o : Opening). o.lsn) nothing);
    }

-- no first batch
pub HasNoBatch-zero : (body old : List ℕ) (begin : ℕ) → begin ≡ 0 → old ≡ [] → HasNoBatch (begin + length old) body → HasNoBatch 0 body
HasNoBatch-zero body old begin zero nothing none units rest counted whole fits = none units rest counted whole (omega (arith, fits, zero, ap length nothing))

-- a head
pub TakesFront-second_format : (bytes body units rest : List ℕ) (opening : Opening) → bytes ≡ OPEN ∷ head_magic ++ body → IsSnapshot opening
    → body ≡ snapshot_bytes opening ++ rest → units ≡ [] → TakesFront bytes opening units rest
TakesFront-second_format bytes body units rest opening is held whole none = record {
  front = OPEN ∷ head opening;
  begins = second_format held none refl;
  whole = is ∙ ap (λ list. OPEN ∷ head_magic ++ list) whole;
  total = omega (arith, held.lsn, ap length none);
}

-- ---- batch by batch

pub front_and_batches-ReadsTo : (bytes front first : List ℕ) (opening : Opening) (read : List (List ℕ)) (units rest : List ℕ) → IsFront front opening first
    → AllByRecursion IsCountedBatch read → bytes ≡ front ++ flat_map gated read ++ rest → units ≡ first ++ joined read → opening.lsn + length units ≤ LAST
    → ReadsTo bytes (record { opening = opening; units = units }) rest
front_and_batches-ReadsTo bytes front first opening read units rest begins each whole units_are total = record {
  front = front;
  first = first;
  begins = begins;
  batches = read;
  each = each;
  units = units_are;
  total = total;
  whole = whole;
}

-- one batch more
pub read_bytes-push : (bytes front : List ℕ) (read : List (List ℕ)) (reached body units rest : List ℕ) → bytes ≡ front ++ flat_map gated read ++ reached
    → reached ≡ OPEN ∷ body → body ≡ batch units ++ rest → bytes ≡ front ++ flat_map gated (read ++ units ∷ []) ++ rest
read_bytes-push bytes front read reached body units rest whole gate next =
    whole ∙ ap (λ list. front ++ flat_map gated read ++ list) (gate ∙ ap (λ list. OPEN ∷ list) next) ∙ gated-push_between front read units rest

-- what is left of the bytes is no more than all of them
pub rest-shorter : (bytes recorded rest : List ℕ) → bytes ≡ recorded ++ rest → length rest ≤ length bytes
rest-shorter bytes recorded rest whole = omega (arith, ap length whole, length-append recorded rest)

pub read_units-push : (first : List ℕ) (read : List (List ℕ)) (old units new : List ℕ) → old ≡ first ++ joined read → new ≡ old ++ units
    → new ≡ first ++ joined (read ++ units ∷ [])
read_units-push first read old units new before added =
    added ∙ ap (λ list. list ++ units) before ∙ append_assoc first (joined read) units ∙ ap (λ list. first ++ list) (sym (joined-push read units))
