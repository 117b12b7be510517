-- How the Genesis records of a list are found.
use Rattle.std.proofs.Common.{◌≡◌, ◌∙◌, ap, sym, subst, ℕ, ◌-◌, List, [], ◌∷◌, ◌++◌, append_assoc, length, length-append, drop, arith}
use Rattle.std.proofs.Math.Seq.{drop-append_seam}
use Rattle.std.specs.List.{AllByRecursion}
use Rattle.log_record.specs.declared.rec.Rec.{Rec}
use Rattle.log_record.specs.declared.rec.Rec.TheVariants.{Genesis}
use Rattle.log_record.specs.LogList.{AreUnitsOf, units_of}
use Rattle.log_record.specs.Spelling.{spelling, IsSpellable, BeginsWith}
use Rattle.log_record.proofs.SpellingLemmas.{spelling-append-injective}
use Rattle.log_record.proofs.LogListLemmas.{units_of-append}
use Rattle.log_recovery.proofs.AnswerLemmas.{spelling_append-not_none}
use Rattle.lock_core.specs.Tests.{IsGenesis}
use Rattle.lock_core.proofs.ListLemmas.{all-split}
use Rattle.lsn_space.proofs.TilingLemmas.{all-append}
use Rattle.cli_cut.specs.Parts.{SplitsGenesis}

-- ---- records

-- the record that the rest begins with is the first that is left
pub BeginsWith-first_record : (rest : List ℕ) (left : List Rec) (rec : Rec) → AllByRecursion IsSpellable left → rest ≡ units_of left → BeginsWith rest rec
    → (later : List Rec) × (left ≡ rec ∷ later) × (drop (length (spelling rec)) rest ≡ units_of later)
BeginsWith-first_record rest [] rec each is begins = absurd (spelling_append-not_none rec begins.1 (sym begins.2 ∙ is))
BeginsWith-first_record rest (first ∷ later) rec each is begins =
    let parts = spelling-append-injective first rec (units_of later) begins.1 each.0 begins.0 (sym is ∙ begins.2) in
    (later, ap (λ r. r ∷ later) parts.0, ap (drop (length (spelling rec))) begins.2 ∙ drop-append_seam (spelling rec) begins.1 ∙ sym parts.1)

-- ---- the Genesis records that a list begins with

-- some Genesis records were read, and of the records that are left the units are the rest
pub record HasTakenGenesis (units rest : List ℕ) : Type 0 where
  pub genesis : List Rec
  pub left : List Rec
  pub list : AreUnitsOf units (genesis ++ left)
  pub rest_is : rest ≡ units_of left
  pub all : AllByRecursion IsGenesis genesis

pub HasTakenGenesis-none : (units : List ℕ) (list : (records : List Rec) × AreUnitsOf units records) → HasTakenGenesis units units
HasTakenGenesis-none units list = record { genesis = []; left = list.0; list = list.1; rest_is = list.1.units_are; all = tt }

left-spellable : (units rest : List ℕ) (taken : HasTakenGenesis units rest) → AllByRecursion IsSpellable taken.left
left-spellable units rest taken = (all-split IsSpellable taken.genesis taken.left taken.list.spellable).1

-- the first that is left goes behind those that were read
first-moved : (genesis left : List Rec) (rec : Rec) (later : List Rec) → left ≡ rec ∷ later → genesis ++ left ≡ (genesis ++ rec ∷ []) ++ later
first-moved genesis left rec later split = ap (λ left. genesis ++ left) split ∙ sym (append_assoc genesis (rec ∷ []) later)

-- one Genesis more
pub HasTakenGenesis-push : (units rest after : List ℕ) (account balance : ℕ) (taken : HasTakenGenesis units rest) → BeginsWith rest (Genesis account balance)
    → after ≡ drop (length (spelling (Genesis account balance))) rest → HasTakenGenesis units after
HasTakenGenesis-push units rest after account balance taken begins dropped =
    let found = BeginsWith-first_record rest taken.left (Genesis account balance) (left-spellable units rest taken) taken.rest_is begins in
    record {
      genesis = taken.genesis ++ Genesis account balance ∷ [];
      left = found.0;
      list = subst (AreUnitsOf units) (first-moved taken.genesis taken.left (Genesis account balance) found.0 found.1) taken.list;
      rest_is = dropped ∙ found.2;
      all = all-append IsGenesis taken.genesis (Genesis account balance ∷ []) taken.all (tt, tt);
    }

-- the record that a rest begins with
first-begins : (left : List Rec) (rec : Rec) (later : List Rec) (rest : List ℕ) → AllByRecursion IsSpellable left → rest ≡ units_of left
    → left ≡ rec ∷ later → BeginsWith rest rec
first-begins left rec later rest each is split =
    ((subst (AllByRecursion IsSpellable) split each).0, units_of later, is ∙ ap units_of split)

-- where no Genesis begins the rest, the split is there
pub HasTakenGenesis-splits_genesis : (units rest : List ℕ) (taken : HasTakenGenesis units rest) → ((rec : Rec) → BeginsWith rest rec → IsGenesis rec → ⊥) → (front : ℕ)
    → front ≡ length units - length rest → SplitsGenesis units front
HasTakenGenesis-splits_genesis units rest taken other front place =
    let whole = ap length (taken.list.units_are ∙ units_of-append taken.genesis taken.left) in
    record {
      genesis = taken.genesis;
      later = taken.left;
      list = taken.list;
      place = omega (arith, place, whole, length-append (units_of taken.genesis) (units_of taken.left), ap length taken.rest_is);
      all = taken.all;
      first = λ rec later split. other rec (first-begins taken.left rec later rest (left-spellable units rest taken) taken.rest_is split);
    }
