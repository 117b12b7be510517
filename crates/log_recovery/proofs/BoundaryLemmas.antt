-- How a boundary of a list is sought, record by record.
use Rattle.std.proofs.Common.{◌≡◌, ◌<◌, ◌≤◌, ◌⊎◌, inl, inr, ℕ, ◌+◌, List, [], ◌∷◌, ◌++◌, length, drop, refl, ap, ◌∙◌, sym, subst, arith, length-append, append_assoc, append-nil}
use Rattle.std.specs.List.{AllByRecursion}
use Rattle.std.proofs.Math.Seq.{drop-append_seam}
use Rattle.log_record.specs.declared.rec.Rec.{Rec}
use Rattle.log_record.specs.LogList.{AreUnitsOf, units_of, end_of, size_of, IsBoundary}
use Rattle.log_record.specs.Spelling.{spelling, IsSpellable, BeginsWith}
use Rattle.log_record.proofs.LogListLemmas.{end_of-cons, boundary_is_front, front_is_boundary, units_of-append}
use Rattle.log_record.proofs.SpellingLemmas.{spelling-append-injective, AreUnitsOf-injective}
use Rattle.lock_core.proofs.ListLemmas.{all-split}
use Rattle.log_recovery.specs.Boundaries.{GoesOnAt}
use Rattle.log_recovery.proofs.AnswerLemmas.{spelling_append-not_none}

-- a front of a list ends no later than a record in it starts, or no sooner than it ends
front-beside : (done : List Rec) (rec : Rec) (rest f g : List Rec) → done ++ rec ∷ rest ≡ f ++ g
    → (end_of f ≤ end_of done) ⊎ (end_of done + size_of rec ≤ end_of f)
front-beside done rec rest [] g same = inl (omega arith)
front-beside [] rec rest (x ∷ f) g same = let head : rec ≡ x = cc in inr (omega (arith, end_of-cons x f, ap size_of head))
front-beside (d ∷ done) rec rest (x ∷ f) g same =
    let head : d ≡ x = cc in
    let tail : done ++ rec ∷ rest ≡ f ++ g = cc in
    elim (front-beside done rec rest f g tail) [
      | inl before ↦ inl (omega (arith, before, end_of-cons d done, end_of-cons x f, ap size_of head))
      | inr behind ↦ inr (omega (arith, behind, end_of-cons d done, end_of-cons x f, ap size_of head))
    ]

-- The records before this rest of the units are passed, of a list that begins at that LSN: the rest is at this one, and every boundary that
-- was passed is below the one that is sought.
pub record Seeks (begin : ℕ) (units rest : List ℕ) (at lsn : ℕ) : Type 0 where
  pub done : List Rec
  pub more : List Rec
  pub list : AreUnitsOf units (done ++ more)
  pub left : rest ≡ units_of more
  pub place : at ≡ begin + end_of done
  pub below : (f g : List Rec) → done ++ more ≡ f ++ g → end_of f < end_of done → begin + end_of f < lsn

-- from the list's beginning on, or from a boundary that isn't behind what is sought
pub seeks-from_boundary : (begin : ℕ) (units : List ℕ) (known lsn : ℕ) (records : List Rec) → AreUnitsOf units records → (passed : ℕ) → known ≡ begin + passed
    → IsBoundary records passed → (known ≡ begin) ⊎ (known ≤ lsn) → Seeks begin units (drop passed units) known lsn
seeks-from_boundary begin units known lsn records list passed place is below =
    let found = boundary_is_front records passed is in
    let parts = list.units_are ∙ ap units_of found.2 ∙ units_of-append found.0 found.1 in record {
      done = found.0;
      more = found.1;
      list = subst (AreUnitsOf units) found.2 list;
      left = ap (λ n. drop n units) found.3 ∙ ap (drop (end_of found.0)) parts ∙ drop-append_seam (units_of found.0) (units_of found.1);
      place = omega (arith, place, found.3);
      below = λ f g whole less. elim below [
        | inl first ↦ absurd (omega (arith, first, place, found.3, less))
        | inr before ↦ omega (arith, before, place, found.3, less)
      ];
    }

-- a boundary lies within the units
pub boundary-within : (units : List ℕ) (records : List Rec) (passed : ℕ) → AreUnitsOf units records → IsBoundary records passed → passed ≤ length units
boundary-within units records passed list is =
    let found = boundary_is_front records passed is in
    let parts = ap length (list.units_are ∙ ap units_of found.2 ∙ units_of-append found.0 found.1) ∙ length-append (units_of found.0) (units_of found.1) in
    omega (arith, parts, found.3)

-- a list begins at a boundary
pub begins-at-boundary : (records : List Rec) → IsBoundary records 0
begins-at-boundary records = front_is_boundary records 0 ([], records, refl, refl)

module _ (begin : ℕ) (units rest : List ℕ) (at lsn : ℕ) (seeks : Seeks begin units rest at lsn) where
  spellable-left : AllByRecursion IsSpellable seeks.more
  spellable-left = (all-split IsSpellable seeks.done seeks.more seeks.list.spellable).1

  -- where no record begins, the list ends
  ended : (more : List Rec) → seeks.more ≡ more → ((rec : Rec) → BeginsWith rest rec → ⊥) → seeks.more ≡ []
  ended [] is none = is
  ended (rec ∷ more) is none =
      absurd (none rec ((subst (AllByRecursion IsSpellable) is spellable-left).0, units_of more, seeks.left ∙ ap units_of is))

  -- beyond the LSN that is sought there is no boundary at it
  pub seeks_beyond-no_boundary : lsn < at → (records : List Rec) → AreUnitsOf units records → (there : ℕ) → lsn ≡ begin + there → IsBoundary records there → ⊥
  seeks_beyond-no_boundary beyond records list there place is =
      let found = boundary_is_front records there is in
      let whole = AreUnitsOf-injective units (seeks.done ++ seeks.more) records seeks.list list ∙ found.2 in
      let below = seeks.below found.0 found.1 whole (omega (arith, place, found.3, seeks.place, beyond)) in
      omega (arith, below, place, found.3)

  -- before it, at the list's end, neither
  pub seeks_ended-no_boundary : at < lsn → ((rec : Rec) → BeginsWith rest rec → ⊥) → (records : List Rec) → AreUnitsOf units records
      → (there : ℕ) → lsn ≡ begin + there → IsBoundary records there → ⊥
  seeks_ended-no_boundary before none records list there place is =
      let found = boundary_is_front records there is in
      let done : seeks.done ≡ found.0 ++ found.1 =
      sym (append-nil seeks.done) ∙ ap (λ l. seeks.done ++ l) (sym (ended seeks.more refl none))
      ∙ AreUnitsOf-injective units (seeks.done ++ seeks.more) records seeks.list list ∙ found.2 in
      let longer = ap end_of done ∙ ap length (units_of-append found.0 found.1) ∙ length-append (units_of found.0) (units_of found.1) in
      omega (arith, longer, place, found.3, seeks.place, before)

  -- at it the list goes on
  pub seeks_found-goes_on_at : at ≡ lsn → (records : List Rec) → AreUnitsOf units records → GoesOnAt begin records lsn rest
  seeks_found-goes_on_at here records list = record {
    front = seeks.done;
    later = seeks.more;
    whole = sym (AreUnitsOf-injective units (seeks.done ++ seeks.more) records seeks.list list);
    place = sym here ∙ seeks.place;
    units = seeks.left;
  }

  -- the next record is passed
  module _ (rec : Rec) (begun : BeginsWith rest rec) (before : at < lsn) where
    parted : (more : List Rec) → seeks.more ≡ more → (later : List Rec) × (seeks.more ≡ rec ∷ later) × (begun.1 ≡ units_of later)
    parted [] is = absurd (spelling_append-not_none rec begun.1 (sym begun.2 ∙ seeks.left ∙ ap units_of is))
    parted (first ∷ later) is =
        let same = spelling-append-injective rec first begun.1 (units_of later) begun.0 (subst (AllByRecursion IsSpellable) is spellable-left).0
        (sym begun.2 ∙ seeks.left ∙ ap units_of is) in
        (later, is ∙ ap (λ r. r ∷ later) (sym same.0), same.1)

    abbrev later : List Rec
    later = (parted seeks.more refl).0

    whole : seeks.done ++ seeks.more ≡ (seeks.done ++ rec ∷ []) ++ later
    whole = ap (λ l. seeks.done ++ l) (parted seeks.more refl).1 ∙ sym (append_assoc seeks.done (rec ∷ []) later)

    longer : end_of (seeks.done ++ rec ∷ []) ≡ end_of seeks.done + size_of rec
    longer = ap length (units_of-append seeks.done (rec ∷ [])) ∙ length-append (units_of seeks.done) (units_of (rec ∷ []))
        ∙ ap (λ l. end_of seeks.done + length l) (append-nil (spelling rec))

    passed : (f g : List Rec) → (seeks.done ++ rec ∷ []) ++ later ≡ f ++ g → end_of f < end_of (seeks.done ++ rec ∷ []) → begin + end_of f < lsn
    passed f g same less =
        let within : seeks.done ++ rec ∷ later ≡ f ++ g = sym (append_assoc seeks.done (rec ∷ []) later) ∙ same in
        elim (front-beside seeks.done rec later f g within) [
          | inl no_later ↦ omega (arith, no_later, seeks.place, before)
          | inr behind ↦ absurd (omega (arith, behind, less, longer))
        ]

    pub seeks-step : (after : List ℕ) (at' : ℕ) → after ≡ drop (length (spelling rec)) rest → at' ≡ at + length (spelling rec) → Seeks begin units after at' lsn
    seeks-step after at' dropped on = record {
      done = seeks.done ++ rec ∷ [];
      more = later;
      list = subst (AreUnitsOf units) whole seeks.list;
      left = dropped ∙ ap (drop (length (spelling rec))) begun.2 ∙ drop-append_seam (spelling rec) begun.1 ∙ (parted seeks.more refl).2;
      place = omega (arith, on, seeks.place, longer);
      below = passed;
    }
