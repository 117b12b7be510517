-- Units and records of a run: where units are cut that are records, the records are cut, and the table's entries are records.
use Rattle.std.proofs.Common.{◌≡◌, ⊎_elim, ℕ, ◌+◌, List, [], ◌∷◌, ◌++◌, length, refl, ap, ◌∙◌, sym, arith, append_assoc, length-append}
use Rattle.std.specs.List.{AllByRecursion}
use Rattle.lsn_space.specs.Tiling.{IsTiling, IsTilingBoundary}
use Rattle.log_record.specs.declared.rec.Rec.{Rec}
use Rattle.log_record.specs.LogList.{units_of, end_of, size_of}
use Rattle.log_record.specs.Spelling.{spelling, IsSpellable}
use Rattle.log_record.proofs.SpellingLemmas.{spelling-append-injective, size_of-positive}
use Rattle.log_rule.specs.declared.view.Entry.{Entry}
use Rattle.log_rule.specs.ClosedLog.{records_of}
use Rattle.log_rule.specs.Log.{IsFull, IsSpelled, units_in}

-- the entries' records are spellable, and their units are those of the records
pub records-spellable : (entries : List Entry) → AllByRecursion IsSpelled entries → AllByRecursion IsSpellable (records_of entries)
records-spellable [] spelled = tt
records-spellable (entry ∷ entries) spelled = (spelled.0.spellable, records-spellable entries spelled.1)

pub units_in-records : (entries : List Entry) → AllByRecursion IsSpelled entries → units_in entries ≡ units_of (records_of entries)
units_in-records [] spelled = refl
units_in-records (entry ∷ entries) spelled = λ i. spelled.0.units i ++ units_in-records entries spelled.1 i

-- records that begin units that are records begin these
pub units_front-records_front : (all front : List Rec) (more : List ℕ) → AllByRecursion IsSpellable all → AllByRecursion IsSpellable front
    → units_of all ≡ units_of front ++ more → (rest : List Rec) × (all ≡ front ++ rest)
units_front-records_front all [] more each each' whole = (all, refl)
units_front-records_front [] (rec ∷ front) more each each' whole =
    let long = length-append (spelling rec) (units_of front) in
    absurd (omega (arith, ap length whole, size_of-positive rec, length-append (spelling rec ++ units_of front) more, long))
units_front-records_front (first ∷ all) (rec ∷ front) more each each' whole =
    let parts = spelling-append-injective first rec (units_of all) (units_of front ++ more) each.0 each'.0
    (whole ∙ append_assoc (spelling rec) (units_of front) more) in
    let rest = units_front-records_front all front more each.1 each'.1 parts.1 in
    (rest.0, λ i. parts.0 i ∷ rest.1 i)

-- each entry is as long as its record
sizes : (entry : Entry) → IsFull entry → IsSpelled entry → entry.size ≡ size_of entry.rec
sizes entry full spelled = sym full ∙ ap length spelled.units

-- the entries end where their records do
pub tiling-end : (from to : ℕ) (entries : List Entry) → AllByRecursion IsFull entries → AllByRecursion IsSpelled entries
    → IsTiling (λ (entry : Entry). entry.start) (λ (entry : Entry). entry.size) from entries to → to ≡ from + end_of (records_of entries)
tiling-end from to [] full spelled tiles = omega (arith, tiles)
tiling-end from to (entry ∷ entries) full spelled tiles =
    let rest = tiling-end (from + entry.size) to entries full.1 spelled.1 tiles.1 in
    let here = sizes entry full.0 spelled.0 in
    let parts = length-append (spelling entry.rec) (units_of (records_of entries)) in omega arith

-- a boundary of the entries is one of their records, which begin behind others
pub boundary-front : (at from : ℕ) (entries : List Entry) → AllByRecursion IsFull entries → AllByRecursion IsSpelled entries
    → IsTilingBoundary (λ (entry : Entry). entry.size) from entries at
    → (front rest : List Rec) × (records_of entries ≡ front ++ rest) × (at ≡ from + end_of front)
boundary-front at from [] full spelled is = ([], [], refl, omega (arith, is))
boundary-front at from (entry ∷ entries) full spelled is = ⊎_elim
    (λ here. ([], records_of (entry ∷ entries), refl, omega (arith, here)))
    (λ later.
    let found = boundary-front at (from + entry.size) entries full.1 spelled.1 later in
    let here = sizes entry full.0 spelled.0 in
    let parts = length-append (spelling entry.rec) (units_of found.0) in
    (entry.rec ∷ found.0, found.1, ap (λ records. entry.rec ∷ records) found.2, omega (arith, found.3)))
    is
