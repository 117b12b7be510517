-- How the records of a frame are read from its units.
use Rattle.std.proofs.Common.{◌≡◌, ◌<◌, ◌≤◌, ◌∙◌, sym, ap, ℕ, zero, suc, ◌+◌, ◌^◌, List, [], ◌∷◌, ◌++◌, length, take, drop, get_or, arith, length-append, append_assoc, append-nil}
use Rattle.std.specs.List.{AllByRecursion}
use Rattle.std.proofs.Math.Seq.{take-append_seam, drop-append_seam, drop-cons}
use Rattle.std.proofs.lemmas.List.{take-append-drop, length-drop, drop_all}
use Rattle.lsn_space.proofs.TilingLemmas.{all-push}
use Rattle.log_record.specs.declared.rec.Rec.{Rec}
use Rattle.log_record.specs.LogList.{units_of, size_of, AreUnitsOf}
use Rattle.log_record.specs.Spelling.{header, spelling, IsSpellable, BeginsWith}
use Rattle.log_record.proofs.BoundLemmas.{length-spelling}
use Rattle.log_record.proofs.Fronts.{front_header-kind_and_length}
use Rattle.log_record.proofs.SpellingLemmas.{spelling-append-injective, size_of-positive}
use Rattle.log_record.proofs.LogListLemmas.{units_of-append}

-- what begins a front begins the whole
pub front_begins-whole_begins : (units : List ℕ) (n : ℕ) (rec : Rec) → BeginsWith (take n units) rec → BeginsWith units rec
front_begins-whole_begins units n rec begins = (
  begins.0,
  begins.1 ++ drop n units,
  sym (take-append-drop n units) ∙ ap (λ list. list ++ drop n units) begins.2 ∙ append_assoc (spelling rec) begins.1 (drop n units),
)

-- the first unit says how many units the record has
pub size_of-header : (units rest : List ℕ) (first kind count field txn : ℕ) (rec : Rec) → units ≡ first ∷ rest
    → first ≡ header kind count field txn
    → count < 256 → field < 2 ^ 16 → txn < 2 ^ 32 → BeginsWith units rec → size_of rec ≡ count
size_of-header units rest first kind count field txn rec is parts count_fits field_fits txn_fits begins =
    (front_header-kind_and_length rec kind count field txn first rest begins.1 begins.0 count_fits field_fits txn_fits parts (sym is ∙ begins.2)).1

-- a front of as many units as the record has begins with it
pub whole_begins-front_begins : (units : List ℕ) (n : ℕ) (rec : Rec) → BeginsWith units rec → n ≡ size_of rec → BeginsWith (take n units) rec
whole_begins-front_begins units n rec begins count = (
  begins.0,
  [],
  ap (λ k. take k units) count ∙ ap (take (size_of rec)) begins.2 ∙ take-append_seam (spelling rec) begins.1
      ∙ sym (append-nil (spelling rec)),
)

pub size_of-within_26_and_units : (units : List ℕ) (rec : Rec) → BeginsWith units rec
    → (0 < size_of rec) × (size_of rec ≤ 26) × (size_of rec ≤ length units)
size_of-within_26_and_units units rec begins = (
  size_of-positive rec,
  length-spelling rec begins.0,
  omega (arith, ap length begins.2, length-append (spelling rec) begins.1),
)

drop-more : (n m : ℕ) (xs : List ℕ) → drop (n + m) xs ≡ drop m (drop n xs)
drop-more zero m xs = let same : 0 + m ≡ m = omega arith in ap (λ k. drop k xs) same
drop-more (suc n) m [] = drop_all (suc n + m) [] (omega arith) ∙ sym (drop_all m [] (omega arith))
drop-more (suc n) m (x ∷ xs) = let same : suc n + m ≡ suc (n + m) = omega arith in ap (λ k. drop k (x ∷ xs)) same ∙ drop-more n m xs

-- ---- record by record

-- the units before this index are whole spellings
pub record IsPassed (units : List ℕ) (at : ℕ) : Type 0 where
  pub front : List Rec
  pub each : AllByRecursion IsSpellable front
  pub whole : units ≡ units_of front ++ drop at units
  pub within : at ≤ length units

pub passed-more : (units : List ℕ) (at size : ℕ) (rec : Rec) → IsPassed units at → BeginsWith (drop at units) rec → size ≡ size_of rec
    → IsPassed units (at + size)
passed-more units at size rec passed begins sized =
    let bounds = size_of-within_26_and_units (drop at units) rec begins in
    let behind : drop (at + size) units ≡ begins.1 =
    drop-more at size units ∙ ap (λ n. drop n (drop at units)) sized ∙ ap (drop (size_of rec)) begins.2
    ∙ drop-append_seam (spelling rec) begins.1 in
    record {
      front = passed.front ++ rec ∷ [];
      each = all-push IsSpellable passed.front rec passed.each begins.0;
      whole = passed.whole ∙ ap (λ list. units_of passed.front ++ list) (begins.2 ∙ ap (λ list. spelling rec ++ list) (sym behind))
          ∙ sym (append_assoc (units_of passed.front) (spelling rec) (drop (at + size) units))
          ∙ ap (λ list. list ++ drop (at + size) units)
          (ap (λ list. units_of passed.front ++ list) (sym (append-nil (spelling rec))) ∙ sym (units_of-append passed.front (rec ∷ [])));
      within = omega (arith, passed.within, sized, bounds.2, length-drop at units);
    }

-- behind a front of records the rest begins with another
next-begins : (front records : List Rec) (rest : List ℕ) → AllByRecursion IsSpellable front → AllByRecursion IsSpellable records
    → units_of records ≡ units_of front ++ rest → 0 < length rest → (rec : Rec) × BeginsWith rest rec
next-begins [] [] rest fits each is some = absurd (omega (arith, some, ap length is))
next-begins [] (rec ∷ records) rest fits each is some = (rec, (each.0, units_of records, sym is))
next-begins (first ∷ front) [] rest fits each is some =
    absurd (omega (
      arith,
      ap length is,
      size_of-positive first,
      length-append (units_of (first ∷ front)) rest,
      length-append (spelling first) (units_of front),
    ))
next-begins (first ∷ front) (rec ∷ records) rest fits each is some =
    let same = spelling-append-injective rec first (units_of records) (units_of front ++ rest) each.0 fits.0
    (is ∙ append_assoc (spelling first) (units_of front) rest) in
    next-begins front records rest fits.1 each.1 same.1 some

-- no records have these units
pub passed_bad-no_records : (units : List ℕ) (at : ℕ) → IsPassed units at → at < length units → ((rec : Rec) → BeginsWith (drop at units) rec → ⊥)
    → (records : List Rec) → AreUnitsOf units records → ⊥
passed_bad-no_records units at passed some none records are =
    let next = next-begins passed.front records (drop at units) passed.each are.spellable (sym are.units_are
    ∙ passed.whole) (omega (arith, some, length-drop at units)) in
    none next.0 next.1

-- ---- a record of the batch

-- what begins at this index, by its first unit
pub size_of-header_at : (units : List ℕ) (at kind count field txn : ℕ) (rec : Rec) → at < length units
    → get_or units at 0 ≡ header kind count field txn
    → count < 256 → field < 2 ^ 16 → txn < 2 ^ 32 → BeginsWith (drop at units) rec → size_of rec ≡ count
size_of-header_at units at kind count field txn rec inside parts count_fits field_fits txn_fits begins =
    size_of-header (drop at units) (drop (suc at) units) (get_or units at 0) kind count field txn rec (drop-cons units at 0 inside) parts
    count_fits field_fits txn_fits begins
