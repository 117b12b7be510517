-- How the records of a list go into groups of as many whole records as fit.
use Rattle.std.proofs.Common.{◌≡◌, ◌<◌, ◌≤◌, ◌∙◌, sym, ap, subst, refl, ℕ, ◌+◌, true, false, if◌then◌else◌, nat_le, List, [], ◌∷◌, ◌++◌, length, arith, length-append, append_assoc, append-nil}
use Rattle.std.specs.List.{AllByRecursion}
use Rattle.std.proofs.lemmas.Bool.{le-leb, leb-true, leb-false}
use Rattle.lsn_space.specs.declared.lsn.TheConstants.{LAST}
use Rattle.log_record.specs.declared.rec.Rec.{Rec}
use Rattle.log_record.specs.LogList.{units_of, end_of, size_of}
use Rattle.log_record.specs.Spelling.{spelling, IsSpellable}
use Rattle.log_record.proofs.BoundLemmas.{length-spelling}
use Rattle.log_record.proofs.LogListLemmas.{end_of-append}
use Rattle.log_record.proofs.SpellingLemmas.{size_of-positive}
use Rattle.lsn_space.proofs.TilingLemmas.{all-push, all-weaken}
use Rattle.ship_stream.specs.Frames.{last_group, packed_behind, frames_of, stream_of}
use Rattle.ship_stream.specs.Stream.{records_of, IsFrame, IsStream}
use Rattle.ship_stream.specs.declared.layout.TheConstants.{SHIPPED_UNITS}

-- a record more that fits waits too
pub packed_behind-fits : (limit : ℕ) (waits : List Rec) (rec : Rec) (left : List Rec) → end_of waits + size_of rec ≤ limit
    → packed_behind limit waits (rec ∷ left) ≡ packed_behind limit (waits ++ rec ∷ []) left
packed_behind-fits limit waits rec left fits =
    ap (λ b. if b then packed_behind limit (waits ++ rec ∷ []) left else waits ∷ packed_behind limit (rec ∷ []) left)
    (le-leb (end_of waits + size_of rec) limit fits)

-- before one that doesn't fit those that wait are a group
pub packed_behind-full : (limit : ℕ) (waits : List Rec) (rec : Rec) (left : List Rec) → limit < end_of waits + size_of rec
    → packed_behind limit waits (rec ∷ left) ≡ waits ∷ packed_behind limit (rec ∷ []) left
packed_behind-full limit waits rec left full =
    elim (nat_le (end_of waits + size_of rec) limit)
    as (λ b. nat_le (end_of waits + size_of rec) limit ≡ b
    → (if b then packed_behind limit (waits ++ rec ∷ []) left else waits ∷ packed_behind limit (rec ∷ []) left)
    ≡ waits ∷ packed_behind limit (rec ∷ []) left)
    [ true ↦ (λ is. absurd (omega (arith, full, leb-true (end_of waits + size_of rec) limit is))) | false ↦ (λ is. refl) ]
    refl

-- and it begins the next
pub packed_behind-full_from_none : (limit : ℕ) (waits : List Rec) (rec : Rec) (left : List Rec) → size_of rec ≤ limit → limit < end_of waits + size_of rec
    → packed_behind limit waits (rec ∷ left) ≡ waits ∷ packed_behind limit [] (rec ∷ left)
packed_behind-full_from_none limit waits rec left alone full = packed_behind-full limit waits rec left full
    ∙ ap (λ groups. waits ∷ groups) (sym (packed_behind-fits limit [] rec left (omega (arith, alone))))

-- the test of whether a record fits, in both ways
by_fit : {P : Type 0} (limit : ℕ) (waits : List Rec) (rec : Rec) → (end_of waits + size_of rec ≤ limit → P)
    → (limit < end_of waits + size_of rec → P) → P
by_fit {P = P} limit waits rec fits full =
    elim (nat_le (end_of waits + size_of rec) limit)
    as (λ b. nat_le (end_of waits + size_of rec) limit ≡ b → P) [
      | true ↦ (λ is. fits (leb-true (end_of waits + size_of rec) limit is))
      | false ↦ (λ is. full (leb-false (end_of waits + size_of rec) limit is))
    ]
    refl

-- ---- the groups have all the records

pub records_of-packed : (limit : ℕ) (waits records : List Rec) → records_of (packed_behind limit waits records) ≡ waits ++ records
records_of-packed limit [] [] = refl
records_of-packed limit (rec ∷ waits) [] = refl
records_of-packed limit waits (rec ∷ left) = by_fit limit waits rec
    (λ fits. ap records_of (packed_behind-fits limit waits rec left fits) ∙ records_of-packed limit (waits ++ rec ∷ []) left
    ∙ append_assoc waits (rec ∷ []) left)
    (λ full. ap records_of (packed_behind-full limit waits rec left full)
    ∙ ap (λ records. waits ++ records) (records_of-packed limit (rec ∷ []) left))

-- ---- each group has some records, and no more units than fit

pub record IsGroup (limit : ℕ) (records : List Rec) : Type 0 where
  pub some : 0 < end_of records
  pub most : end_of records ≤ limit
  pub spellable : AllByRecursion IsSpellable records

some_records : (rec : Rec) (records : List Rec) → 0 < end_of (rec ∷ records)
some_records rec records = omega (arith, size_of-positive rec, length-append (spelling rec) (units_of records))

last-each : (limit : ℕ) (waits : List Rec) → end_of waits ≤ limit → AllByRecursion IsSpellable waits
    → AllByRecursion (IsGroup limit) (last_group waits)
last-each limit [] most each = tt
last-each limit (rec ∷ waits) most each = (record { some = some_records rec waits; most = most; spellable = each }, tt)

pub packed-each : (limit : ℕ) (waits records : List Rec) → 26 ≤ limit → end_of waits ≤ limit → AllByRecursion IsSpellable waits
    → AllByRecursion IsSpellable records → AllByRecursion (IsGroup limit) (packed_behind limit waits records)
packed-each limit waits [] long most waiting each = last-each limit waits most waiting
packed-each limit waits (rec ∷ left) long most waiting each =
    let one : end_of (rec ∷ []) ≡ size_of rec = ap length (append-nil (spelling rec)) in
    by_fit limit waits rec
    (λ fits. subst (AllByRecursion (IsGroup limit)) (sym (packed_behind-fits limit waits rec left fits))
    (packed-each limit (waits ++ rec ∷ []) left long (omega (arith, fits, one, end_of-append waits (rec ∷ [])))
    (all-push IsSpellable waits rec waiting each.0) each.1))
    (λ full. subst (AllByRecursion (IsGroup limit)) (sym (packed_behind-full limit waits rec left full)) (
      record { some = omega (arith, full, length-spelling rec each.0, long); most = most; spellable = waiting },
      packed-each limit (rec ∷ []) left long (omega (arith, one, length-spelling rec each.0, long)) (each.0, tt) each.1,
    ))

-- ---- what is shipped

shipped-each : (records : List Rec) → AllByRecursion IsSpellable records → AllByRecursion (IsGroup SHIPPED_UNITS) (frames_of records)
shipped-each records each = packed-each SHIPPED_UNITS [] records (omega arith) (omega arith) tt each

pub shipped-short : (records : List Rec) → AllByRecursion IsSpellable records
    → AllByRecursion (λ frame. end_of frame ≤ SHIPPED_UNITS) (frames_of records)
shipped-short records each =
    all-weaken (IsGroup SHIPPED_UNITS) (λ frame. end_of frame ≤ SHIPPED_UNITS) (frames_of records) (λ frame is. is.most)
    (shipped-each records each)

pub shipped-stream : (first : ℕ) (records : List Rec) → AllByRecursion IsSpellable records → first + end_of records ≤ LAST
    → IsStream (stream_of first records) first (frames_of records)
shipped-stream first records each total = record {
  each = all-weaken (IsGroup SHIPPED_UNITS) IsFrame (frames_of records)
      (λ frame is. record { some = is.some; most = omega (arith, is.most); spellable = is.spellable }) (shipped-each records each);
  total = omega (arith, total, ap end_of (records_of-packed SHIPPED_UNITS [] records));
  whole = refl;
}
