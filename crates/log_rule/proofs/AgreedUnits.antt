-- A list of units that agrees with the parts of the log is their units, joined, as far as it goes.
use Rattle.std.proofs.Common.{◌≡◌, ◌⊎◌, inl, inr, ⊎_elim, ℕ, ◌+◌, ◌-◌, ◌<◌, ◌≤◌, List, [], ◌∷◌, ◌++◌, length, get_or, take, drop, sym, refl, ap, ◌∙◌}
use Rattle.std.proofs.Common.{subst, le_refl, arith, append_assoc, append-nil, length-append}
use Rattle.std.specs.List.{AllByRecursion}
use Rattle.std.proofs.lemmas.List.{ext_get_or, get_or-take, get_or-drop, length-take-le, length-drop, take-append-drop, nil_from_length}
use Rattle.std.proofs.Math.Seq.{get_or-append_right}
use native.Mathlib.Decide.{dec_le, dec_lt}
use mathlib.Core.Logic.{dite}
use lib.ListN.{get_or-append}
use Rattle.lsn_space.specs.Tiling.{IsTilingBoundary}
use Rattle.lsn_space.proofs.TilingLemmas.{all-weaken, boundary-from}
use Rattle.log_rule.specs.declared.view.Entry.{Entry}
use Rattle.log_rule.specs.Log.{Part, Laid, IsFull, AgreesFrom, parts_of, units_in, SpellsRecord, IsSpelled}
use Rattle.log_record.specs.Spelling.{spelling}
use Rattle.log_rule.specs.Sends.{AreEntries}
use Rattle.log_rule.proofs.Boundaries.{part_size, boundary-start_le}

-- the units sent and those read behind them are one list
pub agrees-append : (start : ℕ) (sent read : List ℕ) (p : Part) → AgreesFrom start sent p → AgreesFrom (start + length sent) read p
    → AgreesFrom start (sent ++ read) p
agrees-append start sent read p first second i lt lo hi = dite (dec_lt (p.entry.start + i) (start + length sent))
    (λ yes'. get_or-append sent read 0 (p.entry.start + i - start) (omega arith) ∙ first i lt lo yes')
    (λ no'. get_or-append_right sent read (p.entry.start + i - start) 0 (omega arith)
    ∙ (ap (λ k. get_or read k 0) (there (p.entry.start + i) start (length sent) lo)
    ∙ second i lt (omega arith) (omega (arith, subst (λ (n : ℕ). p.entry.start + i < start + n) (length-append sent read) hi))))
  where
    there : (at start n : ℕ) → start ≤ at → at - start - n ≡ at - (start + n)
    there at start n le = omega arith

-- one more unit is read
pub agrees-push : (base : ℕ) (units : List ℕ) (unit : ℕ) (p : Part) → AgreesFrom base units p
    → ((i : ℕ) → i < length p.entry.units → p.entry.start + i ≡ base + length units → unit ≡ get_or p.entry.units i 0)
    → AgreesFrom base (units ++ unit ∷ []) p
agrees-push base units unit p old last i lt lo hi =
    let below : p.entry.start + i < base + (length units + 1) =
    subst (λ (n : ℕ). p.entry.start + i < base + n) (length-append units (unit ∷ [])) hi in
    dite (dec_lt (p.entry.start + i) (base + length units))
    (λ yes'. get_or-append units (unit ∷ []) 0 (p.entry.start + i - base) (omega arith) ∙ old i lt lo yes')
    (λ no'. let here : p.entry.start + i ≡ base + length units = omega arith in
    get_or-append_right units (unit ∷ []) (p.entry.start + i - base) 0 (omega arith)
    ∙ (ap (λ k. get_or (unit ∷ []) k 0) (none (p.entry.start + i) here) ∙ last i lt here))
  where
    none : (at : ℕ) → at ≡ base + length units → at - base - length units ≡ 0
    none at e = omega arith

-- the first part's units are the first of the list
pub agrees-first_entry_units : (base : ℕ) (units : List ℕ) (p : Part) → AgreesFrom base units p → IsFull p.entry → p.entry.start ≡ base
    → p.entry.size ≤ length units → take p.entry.size units ≡ p.entry.units
agrees-first_entry_units base units p agrees full here fits =
    ext_get_or 0 (take p.entry.size units) p.entry.units (length-take-le p.entry.size units fits ∙ sym full)
    (λ i lt. let below : i < p.entry.size = subst (λ (n : ℕ). i < n) (length-take-le p.entry.size units fits) lt in
    get_or-take p.entry.size units i 0 below
    ∙ (ap (λ k. get_or units k 0) (sym (at-here i)) ∙ agrees i (omega (arith, full, below)) (omega (arith, here)) (omega (arith, here, below, fits))))
  where
    at-here : (i : ℕ) → p.entry.start + i - base ≡ i
    at-here i = omega (arith, here)

-- the others agree with what is left of it
pub agrees-drop : (base n : ℕ) (units : List ℕ) (q : Part) → n ≤ length units → AgreesFrom base units q → AgreesFrom (base + n) (drop n units) q
agrees-drop base n units q fits agrees i lt lo hi =
    get_or-drop n units (q.entry.start + i - (base + n)) 0
    ∙ (ap (λ k. get_or units k 0) (there (q.entry.start + i) lo)
    ∙ agrees i lt (omega (arith, lo)) (omega (arith, subst (λ (k : ℕ). q.entry.start + i < base + n + k) (length-drop n units) hi, fits)))
  where
    there : (at : ℕ) → base + n ≤ at → n + (at - (base + n)) ≡ at - base
    there at le = omega arith

-- a full part is its record whole
pub full_part-is_spelled : (part : Part) → SpellsRecord part → IsFull part.entry → IsSpelled part.entry
full_part-is_spelled part spells full = by_rest spells.rest spells.units (full ∙ spells.size)
  where
    by_rest : (rest : List ℕ) → part.entry.units ++ rest ≡ spelling part.entry.rec → length part.entry.units ≡ length (spelling part.entry.rec) → IsSpelled part.entry
    by_rest [] is whole = record { spellable = spells.spellable; units = sym (append-nil part.entry.units) ∙ is }
    by_rest (unit ∷ rest) is whole = let count = length-append part.entry.units (unit ∷ rest) in let all = ap length is in absurd (omega arith)

-- between two boundaries of full parts, the list is whole entries
pub between_boundaries-are_entries : (start to from until : ℕ) (parts : List Part) (units : List ℕ) → Laid start parts to → IsTilingBoundary part_size start parts from
    → IsTilingBoundary part_size start parts until → from + length units ≡ until
    → AllByRecursion (λ (p : Part). p.entry.start < until → IsFull p.entry) parts → AllByRecursion SpellsRecord parts
    → AllByRecursion (AgreesFrom from units) parts → AreEntries from until units
between_boundaries-are_entries start to from until [] units laid a b size full spells agrees = record {
  entries = [];
  tiles = a ∙ sym b;
  some_units = tt;
  full = tt;
  spelled = tt;
  units_are = sym (nil_from_length units (omega (arith, a, b, size)));
}
between_boundaries-are_entries start to from until (p ∷ ps) units laid a b size full spells agrees = ⊎_elim
    (λ (here : from ≡ start). ⊎_elim
    (λ (end : until ≡ start). none here end)
    (λ (later : IsTilingBoundary part_size (start + p.entry.size) ps until). some' here later
    (λ from' us a' size' agrees'. between_boundaries-are_entries (start + p.entry.size) to from' until ps us laid.2 a' later size' full.1 spells.1 agrees')) b)
    (λ (behind : IsTilingBoundary part_size (start + p.entry.size) ps from). ⊎_elim
    (λ (end : until ≡ start). absurd (omega (arith, end, size, laid.1, boundary-start_le part_size (start + p.entry.size) from ps behind)))
    (λ (later : IsTilingBoundary part_size (start + p.entry.size) ps until).
    between_boundaries-are_entries (start + p.entry.size) to from until ps units laid.2 behind later size full.1 spells.1 agrees.1) b) a
  where
    none : from ≡ start → until ≡ start → AreEntries from until units
    none here end = record {
      entries = [];
      tiles = here ∙ sym end;
      some_units = tt;
      full = tt;
      spelled = tt;
      units_are = sym (nil_from_length units (omega (arith, here, end, size)));
    }

    some' : from ≡ start → IsTilingBoundary part_size (start + p.entry.size) ps until
        → ((from' : ℕ) (us : List ℕ) → IsTilingBoundary part_size (start + p.entry.size) ps from' → from' + length us ≡ until
        → AllByRecursion (AgreesFrom from' us) ps → AreEntries from' until us)
        → AreEntries from until units
    some' here later go =
        let end = boundary-start_le part_size (start + p.entry.size) until ps later in
        let is : IsFull p.entry = full.0 (omega (arith, laid.0, laid.1, end)) in
        let fits : p.entry.size ≤ length units = omega (arith, here, end, size) in
        let rest = go (from + p.entry.size) (drop p.entry.size units)
        (subst (λ n. IsTilingBoundary part_size (start + p.entry.size) ps (n + p.entry.size)) (sym here)
        (boundary-from part_size (start + p.entry.size) ps)) (omega (arith, length-drop p.entry.size units, fits, size))
        (all-weaken (AgreesFrom from units) (AgreesFrom (from + p.entry.size) (drop p.entry.size units)) ps
        (λ q. agrees-drop from p.entry.size units q fits) agrees.1) in record {
          entries = p.entry ∷ rest.entries;
          tiles = (laid.0 ∙ sym here, rest.tiles);
          some_units = (laid.1, rest.some_units);
          full = (is, rest.full);
          spelled = (full_part-is_spelled p spells.0 is, rest.spelled);
          units_are = (λ i. sym (agrees-first_entry_units from units p agrees.0 is (laid.0 ∙ sym here) fits) i ++ rest.units_are i)
              ∙ take-append-drop p.entry.size units;
        }

-- the units of all parts
abbrev pub joined : List Part → List ℕ
joined [] = []
joined (p ∷ ps) = p.entry.units ++ joined ps

pub joined-entries : (seat : ℕ) (flag : Rattle.std.proofs.Common.Bool) (entries : List Entry) → joined (parts_of seat flag entries) ≡ units_in entries
joined-entries seat flag [] = refl
joined-entries seat flag (e ∷ es) = ap (λ l. e.units ++ l) (joined-entries seat flag es)

pub joined-length : (start to : ℕ) (parts : List Part) → Laid start parts to → AllByRecursion (λ (p : Part). IsFull p.entry) parts
    → start + length (joined parts) ≡ to
joined-length start to [] laid full = omega (arith, laid)
joined-length start to (p ∷ ps) laid full =
    omega (arith, length-append p.entry.units (joined ps), full.0, joined-length (start + p.entry.size) to ps laid.2 full.1)

-- what a list has of the units of the log, from the start on
pub record IsFront (units whole : List ℕ) : Type 0 where
  pub ahead : List ℕ
  pub is : whole ≡ units ++ ahead

pub agrees-front_of_joined : (start to : ℕ) (parts : List Part) (units : List ℕ) → Laid start parts to → AllByRecursion (λ (p : Part). IsFull p.entry) parts
    → AllByRecursion (AgreesFrom start units) parts → start + length units ≤ to → IsFront units (joined parts)
agrees-front_of_joined start to [] units laid full agrees fits =
    record { ahead = []; is = sym (ap (λ l. l ++ []) (nil_from_length units (omega (arith, laid, fits)))) }
agrees-front_of_joined start to (p ∷ ps) units laid full agrees fits = elim (dec_le p.entry.size (length units)) [
  | yes le ↦ longer le
      (λ us agrees' fits'. agrees-front_of_joined (start + p.entry.size) to ps us laid.2 full.1 agrees' fits')
  | no gt ↦ within (omega arith)
]
  where
    longer : p.entry.size ≤ length units
        → ((us : List ℕ) → AllByRecursion (AgreesFrom (start + p.entry.size) us) ps → start + p.entry.size + length us ≤ to → IsFront us (joined ps))
        → IsFront units (p.entry.units ++ joined ps)
    longer le go =
        let rest = go (drop p.entry.size units)
        (all-weaken (AgreesFrom start units) (AgreesFrom (start + p.entry.size) (drop p.entry.size units)) ps
        (λ q. agrees-drop start p.entry.size units q le) agrees.1) (omega (arith, length-drop p.entry.size units, le, fits)) in record {
          ahead = rest.ahead;
          is = (λ i. sym (agrees-first_entry_units start units p agrees.0 full.0 laid.0 le) i ++ rest.is i)
              ∙ (sym (append_assoc (take p.entry.size units) (drop p.entry.size units) rest.ahead)
              ∙ ap (λ l. l ++ rest.ahead) (take-append-drop p.entry.size units));
        }

    within : length units ≤ p.entry.size → IsFront units (p.entry.units ++ joined ps)
    within le =
        let count = length units in
        let long : count ≤ length p.entry.units = omega (arith, full.0, le) in
        let same : take count p.entry.units ≡ units =
        ext_get_or 0 (take count p.entry.units) units (length-take-le count p.entry.units long)
        (λ i lt. let below : i < count = subst (λ (n : ℕ). i < n) (length-take-le count p.entry.units long) lt in
        get_or-take count p.entry.units i 0 below
        ∙ (sym (agrees.0 i (omega (arith, below, long)) (omega (arith, laid.0)) (omega (arith, laid.0, below)))
        ∙ ap (λ k. get_or units k 0) (at-here i))) in record {
          ahead = drop count p.entry.units ++ joined ps;
          is = ap (λ l. l ++ joined ps) (sym (take-append-drop count p.entry.units) ∙ ap (λ l. l ++ drop count p.entry.units) same)
              ∙ append_assoc units (drop count p.entry.units) (joined ps);
        }
      where
        at-here : (i : ℕ) → p.entry.start + i - start ≡ i
        at-here i = omega (arith, laid.0)

-- a front as long as the whole is the whole
pub front-equal_if_as_long : (units whole : List ℕ) → IsFront units whole → length units ≡ length whole → whole ≡ units
front-equal_if_as_long units whole f same = f.is ∙ (ap (λ l. units ++ l) (nil_from_length f.ahead
    (let e : length whole ≡ length (units ++ f.ahead) = ap length f.is in omega (arith, e, length-append units f.ahead, same))) ∙ append-nil units)
