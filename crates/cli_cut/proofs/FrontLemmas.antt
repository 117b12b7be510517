-- The list up to the end of its Genesis records, and what follows: what `upgrade` takes apart.
use Rattle.std.proofs.Common.{◌≡◌, ◌≤◌, ◌<◌, ◌^◌, ◌∙◌, refl, ap, sym, subst, ℕ, List, [], ◌∷◌, ◌++◌, length, length-append, take, drop, arith}
use Rattle.std.proofs.Math.Seq.{take-append_seam, drop-append_seam}
use Rattle.std.specs.List.{AllByRecursion}
use Rattle.std.proofs.lemmas.List.Elements.{All-from_recursion}
use Rattle.lsn_space.specs.Opening.{IsSnapshot}
use Rattle.lsn_space.specs.declared.lsn.TheConstants.{LAST}
use Rattle.log_record.specs.declared.rec.Rec.{Rec}
use Rattle.log_record.specs.declared.rec.Rec.TheVariants.{Genesis, Update, Commit, Short, Over, Note}
use Rattle.log_record.specs.declared.rec.Placed.{Placed}
use Rattle.log_record.specs.LogList.{AreUnitsOf, units_of, end_of}
use Rattle.log_record.specs.Spelling.{IsSpellable}
use Rattle.log_record.proofs.SpellingLemmas.{units_of-injective}
use Rattle.log_record.proofs.LogListLemmas.{units_of-append}
use Rattle.lock_core.specs.History.{end_from, entry_at, history_from}
use Rattle.lock_core.specs.Lawful.{IsLawful, base_with}
use Rattle.lock_core.specs.Sums.{BaseState, Opening, ShowsAccounts}
use Rattle.lock_core.specs.Tests.{IsGenesis, HasNoGenesis, OpensLedger}
use Rattle.lock_core.proofs.Appending.{base_with-append_no_genesis}
use Rattle.lock_core.proofs.Fronts.{history_from-append, history_from-split, lawful-front}
use Rattle.lock_core.proofs.ListLemmas.{all-split}
use Rattle.log_recovery.specs.Opened.{OpenedList, list_end, log_of, placed, with_front, opening_before, base_in}
use Rattle.log_recovery.specs.Recovery.{HoldsLawful}
use Rattle.log_recovery.proofs.OpenedLemmas.{placed-end, shown-snapshot, held-some_accounts}
use Rattle.log_recovery.proofs.RecoveryLemmas.{log_opening-none_or_snapshot}
use Rattle.cli_cut.specs.Parts.{SplitsGenesis}

-- ---- the units

-- the records that the front of the units spells
pub front_units-genesis_records : (units own : List ℕ) (genesis later records : List Rec) (front : ℕ) → AreUnitsOf units (genesis ++ later)
    → front ≡ length (units_of genesis) → own ≡ take front units → AreUnitsOf own records → records ≡ genesis
front_units-genesis_records units own genesis later records front whole place is list =
    let each = all-split IsSpellable genesis later whole.spellable in
    let taken : take front units ≡ units_of genesis =
    (λ i. take (place i) ((whole.units_are ∙ units_of-append genesis later) i)) ∙ take-append_seam (units_of genesis) (units_of later) in
    units_of-injective records genesis (All-from_recursion IsSpellable records list.spellable) (All-from_recursion IsSpellable genesis each.0)
    (sym list.units_are ∙ is ∙ taken)

-- the units behind the front
pub drop_front-later_units : (units : List ℕ) (genesis later : List Rec) (front : ℕ) → AreUnitsOf units (genesis ++ later) → front ≡ length (units_of genesis)
    → drop front units ≡ units_of later
drop_front-later_units units genesis later front whole place =
    (λ i. drop (place i) ((whole.units_are ∙ units_of-append genesis later) i)) ∙ drop-append_seam (units_of genesis) (units_of later)

-- the front is not longer than the units
pub front-within_units : (units : List ℕ) (genesis later : List Rec) (front : ℕ) → AreUnitsOf units (genesis ++ later) → front ≡ length (units_of genesis)
    → front ≤ length units
front-within_units units genesis later front whole place =
    omega (arith, place, ap length (whole.units_are ∙ units_of-append genesis later), length-append (units_of genesis) (units_of later))

-- ---- the records

-- what holds of each record holds of its entry
pub history_from-all : (P : Rec → Type 0) (start : ℕ) (h : List Placed) (records : List Rec) → AllByRecursion (λ (entry : Placed). P entry.rec) h
    → AllByRecursion P records → AllByRecursion (λ (entry : Placed). P entry.rec) (history_from start h records)
history_from-all P start h [] all each = all
history_from-all P start h (rec ∷ records) all each = history_from-all P start (entry_at (end_from start h) rec ∷ h) records (each.0, all) each.1

-- in a lawful list no Genesis follows another record
module _ (opening : Opening) where
  lawful-before : (start : ℕ) (h : List Placed) (records : List Rec) → IsLawful opening (history_from start h records) → IsLawful opening h
  lawful-before start h records lawful =
      lawful-front opening (history_from (end_from start h) [] records) h (subst (IsLawful opening) (history_from-split start h records) lawful)

  genesis-alone : (h : List Placed) (rec : Rec) → OpensLedger opening h rec → IsGenesis rec → AllByRecursion (λ (entry : Placed). IsGenesis entry.rec) h
  genesis-alone h (Genesis account balance) opens is = opens.1
  genesis-alone h (Update txn account delta prev) opens is = absurd is
  genesis-alone h (Commit txn legs) opens is = absurd is
  genesis-alone h (Short txn leg) opens is = absurd is
  genesis-alone h (Over txn leg) opens is = absurd is
  genesis-alone h (Note txn text) opens is = absurd is

  none-behind : (start : ℕ) (h : List Placed) (records : List Rec) → (AllByRecursion (λ (entry : Placed). IsGenesis entry.rec) h → ⊥)
      → IsLawful opening (history_from start h records) → AllByRecursion (λ (rec : Rec). IsGenesis rec → ⊥) records
  none-behind start h [] other lawful = tt
  none-behind start h (rec ∷ records) other lawful =
      let next : List Placed = entry_at (end_from start h) rec ∷ h in
      let before = lawful-before start next records lawful in (
        λ is. other (genesis-alone h rec before.0.0 is),
        none-behind start next records (λ all. other all.1) lawful,
      )

  -- so none follows where the first that follows is none
  pub lawful-no_later_genesis : (start : ℕ) (genesis later : List Rec) → ((rec : Rec) (rest : List Rec) → later ≡ rec ∷ rest → IsGenesis rec → ⊥)
      → IsLawful opening (history_from start [] (genesis ++ later)) → AllByRecursion (λ (rec : Rec). IsGenesis rec → ⊥) later
  lawful-no_later_genesis start genesis [] first lawful = tt
  lawful-no_later_genesis start genesis (rec ∷ later) first lawful =
      let h : List Placed = history_from start [] genesis in
      let other = first rec later refl in (
        other,
        none-behind start (entry_at (end_from start h) rec ∷ h) later (λ all. other all.0)
            (subst (IsLawful opening) (history_from-append start [] genesis (rec ∷ later)) lawful),
      )

-- ---- the two parts

module _ (list : OpenedList) (genesis records : List Rec) (split : list.records ≡ genesis ++ records) where
  -- the list up to the end of its Genesis records, and what follows
  abbrev front : OpenedList
  front = with_front list genesis

  abbrev later : List Placed
  later = history_from (list_end front) [] records

  pub front-split : placed list ≡ later ++ placed front
  front-split = ap (history_from list.opening.lsn []) split ∙ history_from-append list.opening.lsn [] genesis records
      ∙ history_from-split list.opening.lsn (placed front) records
      ∙ ap (λ end. history_from end [] records ++ placed front) (placed-end front)

  pub front-lawful : IsLawful (opening_before list) (placed list) → IsLawful (opening_before list) (placed front)
  front-lawful lawful = lawful-front (opening_before list) later (placed front) (subst (IsLawful (opening_before list)) front-split lawful)

  pub later-has_no_genesis : AllByRecursion (λ (rec : Rec). IsGenesis rec → ⊥) records → HasNoGenesis later
  later-has_no_genesis none = history_from-all (λ rec. IsGenesis rec → ⊥) (list_end front) [] records tt none

  -- all accounts are there at the end of the first
  pub front-base : AllByRecursion (λ (rec : Rec). IsGenesis rec → ⊥) records → base_in list ≡ base_in front
  front-base none = ap (base_with (opening_before list)) front-split ∙ base_with-append_no_genesis (opening_before list) later (placed front) (later-has_no_genesis none)

-- the first part of a list ends where LSNs do, or before
front-fits : (bytes : List ℕ) (list : OpenedList) → HoldsLawful bytes list → (genesis later : List Rec) → list.records ≡ genesis ++ later
    → list_end (with_front list genesis) ≤ LAST
front-fits bytes list held genesis later split = omega (
  arith,
  held.list.holds.reads.total,
  ap end_of split,
  ap length (units_of-append genesis later),
  length-append (units_of genesis) (units_of later),
)

-- rows that show what the first part of a list leaves are a snapshot
pub front-snapshot : (bytes : List ℕ) (list : OpenedList) (held : HoldsLawful bytes list) (genesis later : List Rec)
    → list.records ≡ genesis ++ later → AllByRecursion (λ (rec : Rec). IsGenesis rec → ⊥) later → (rows : List (ℕ × ℕ)) (lsn txn : ℕ)
    → ShowsAccounts rows (base_in (with_front list genesis)) (placed (with_front list genesis)) → lsn ≡ list_end (with_front list genesis) → txn < 2 ^ 32
    → IsSnapshot (record { lsn = lsn; txn = txn; accounts = rows })
front-snapshot bytes list held genesis later split none rows lsn txn shows end small =
    let some : 0 < (base_in (with_front list genesis)).accounts =
    subst (λ (base : BaseState). 0 < base.accounts) (front-base list genesis later split none) (held-some_accounts bytes list held) in
    shown-snapshot (with_front list genesis) (log_opening-none_or_snapshot bytes (log_of list) held.list.holds)
    (all-split IsSpellable genesis later (subst (AllByRecursion IsSpellable) split held.list.each)).0 (front-lawful list genesis later split held.lawful)
    rows lsn txn shows end (front-fits bytes list held genesis later split) small some

-- ---- as the units are split

module _ (bytes : List ℕ) (list : OpenedList) (held : HoldsLawful bytes list) (units : List ℕ) (is : units ≡ units_of list.records) (place : ℕ)
    (split : SplitsGenesis units place) where
  pub list_records-split : list.records ≡ split.genesis ++ split.later
  list_records-split = units_of-injective list.records (split.genesis ++ split.later) (All-from_recursion IsSpellable list.records held.list.each)
      (All-from_recursion IsSpellable (split.genesis ++ split.later) split.list.spellable) (sym is ∙ split.list.units_are)

  pub split_later-no_genesis : AllByRecursion (λ (rec : Rec). IsGenesis rec → ⊥) split.later
  split_later-no_genesis = lawful-no_later_genesis (opening_before list) list.opening.lsn split.genesis split.later split.first
      (subst (λ records. IsLawful (opening_before list) (history_from list.opening.lsn [] records)) list_records-split held.lawful)

  -- what is left behind the records that the units of the front spell
  pub split-snapshot : (own : List ℕ) (records : List Rec) (rows : List (ℕ × ℕ)) (lsn txn : ℕ) → own ≡ take place units → AreUnitsOf own records
      → ShowsAccounts rows (base_in (with_front list records)) (placed (with_front list records)) → lsn ≡ list_end (with_front list records)
      → txn < 2 ^ 32 → IsSnapshot (record { lsn = lsn; txn = txn; accounts = rows })
  split-snapshot own records rows lsn txn taken spelled shows end small =
      let same = front_units-genesis_records units own split.genesis split.later records place split.list split.place taken spelled in
      front-snapshot bytes list held split.genesis split.later list_records-split split_later-no_genesis rows lsn txn
      (subst (λ records. ShowsAccounts rows (base_in (with_front list records)) (placed (with_front list records))) same shows)
      (end ∙ ap (λ records. list_end (with_front list records)) same) small
