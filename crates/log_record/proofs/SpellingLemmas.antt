-- Each record has one spelling, and no spelling is a front of another.
use Rattle.std.proofs.Common.{rules, ◌≡◌, ◌∙◌, ◌+◌, ◌*◌, ◌^◌, ℕ, ℤ, List, [], ◌∷◌, ◌++◌, length, take, drop, All, refl, sym, ap, ap₂, arith, length-append, ◌<◌, ◌≤◌, length-drop}
use Rattle.std.specs.Int.{w32, cast_unsigned, cast_signed}
use Rattle.std.specs.List.{flat_map}
use Rattle.std.proofs.lemmas.Int.{to_z-of_z}
use Rattle.std.proofs.lemmas.List.Elements.{All-drop, All-from_recursion}
use Rattle.std.proofs.Math.Seq.{take-append_seam, drop-append_seam}
use Rattle.lsn_space.specs.Unit.{unit_bytes}
use Rattle.log_record.specs.declared.rec.Rec.{Rec}
use Rattle.log_record.specs.declared.rec.Rec.TheVariants.{Genesis, Update, Commit, Short, Over, Note}
use Rattle.log_record.specs.LogList.{units_of, size_of, AreUnitsOf}
use Rattle.log_record.specs.Spelling.{spelling, text_units, IsDelta, IsNoteText, IsSpellable, BeginsWith}
use Rattle.log_record.proofs.Fronts.{parts_of, parts_of-fit, front_header-kind_and_length, first_unit, spelling-parts_of, header-injective}
use Rattle.log_record.proofs.TextLemmas.{unit_bytes-text_and_zeros}

-- parts whose first units are the same are the same but for their bodies
first_unit-injective : (r s : Rec) → IsSpellable r → IsSpellable s → first_unit (parts_of r) ≡ first_unit (parts_of s)
    → ((parts_of r).field ≡ (parts_of s).field) × ((parts_of r).txn ≡ (parts_of s).txn)
first_unit-injective r s r_ok s_ok same =
    let p = parts_of r in let q = parts_of s in let fits = parts_of-fit r r_ok in let holds = parts_of-fit s s_ok in
    let parts = header-injective p.kind (1 + length p.body) p.field p.txn q.kind (1 + length q.body) q.field q.txn
    (omega (arith, fits.count)) (omega (arith, holds.count)) fits.field holds.field fits.txn holds.txn same in
    (parts.2, parts.3)

cast_unsigned-injective : (d e : ℤ) → IsDelta d → IsDelta e → cast_unsigned w32 d ≡ cast_unsigned w32 e → d ≡ e
cast_unsigned-injective d e d_ok e_ok same =
    sym (to_z-of_z w32 d (search rules)) ∙ ap (cast_signed w32) same ∙ to_z-of_z w32 e (search rules)

text_units-injective : (text other : List ℕ) → IsNoteText text → IsNoteText other
    → length text ≡ length other → text_units text ≡ text_units other → text ≡ other
text_units-injective text other ok other_ok len same =
    sym (unit_bytes-text_and_zeros (text_units text) text ok.2 refl).0
    ∙ ap₂ (λ n units. take n (flat_map unit_bytes units)) len same
    ∙ (unit_bytes-text_and_zeros (text_units other) other other_ok.2 refl).0

-- records of one kind with the same spelling are the same
spelling-injective : (r s : Rec) → IsSpellable r → IsSpellable s → (parts_of r).kind ≡ (parts_of s).kind
    → (parts_of r).field ≡ (parts_of s).field → (parts_of r).txn ≡ (parts_of s).txn → (parts_of r).body ≡ (parts_of s).body → r ≡ s
spelling-injective (Genesis account balance) (Genesis a b) ok ok' kind field txn body = cc
spelling-injective (Update txn account delta prev) (Update t a d p) ok ok' kind field same body =
    let unit : cast_unsigned w32 delta * 2 ^ 32 + prev ≡ cast_unsigned w32 d * 2 ^ 32 + p = cc in
    let delta_same : delta ≡ d = cast_unsigned-injective delta d ok.2 ok'.2 (omega arith) in
    let prev_same : prev ≡ p = omega arith in
    cc
spelling-injective (Commit txn legs) (Commit t l) ok ok' kind field same body = cc
spelling-injective (Short txn leg) (Short t l) ok ok' kind field same body = cc
spelling-injective (Over txn leg) (Over t l) ok ok' kind field same body = cc
spelling-injective (Note txn text) (Note t other) ok ok' kind field same body =
    let text_same : text ≡ other = text_units-injective text other ok.1 ok'.1 field body in cc
spelling-injective r s ok ok' kind field txn body = absurd (omega arith)

append-injective : (xs ys vs ws : List ℕ) → length xs ≡ length vs → xs ++ ys ≡ vs ++ ws → (xs ≡ vs) × (ys ≡ ws)
append-injective xs ys vs ws len same = (
  sym (take-append_seam xs ys) ∙ ap₂ take len same ∙ take-append_seam vs ws,
  sym (drop-append_seam xs ys) ∙ ap₂ drop len same ∙ drop-append_seam vs ws,
)

pub spelling-append-injective : (r s : Rec) (x y : List ℕ) → IsSpellable r → IsSpellable s
    → spelling r ++ x ≡ spelling s ++ y → (r ≡ s) × (x ≡ y)
spelling-append-injective r s x y r_ok s_ok same =
    let q = parts_of s in let fits = parts_of-fit s s_ok in
    let front : first_unit q ∷ q.body ++ y ≡ spelling r ++ x = ap (λ units. units ++ y) (sym (spelling-parts_of s)) ∙ sym same in
    let found = front_header-kind_and_length r q.kind (1 + length q.body) q.field q.txn (first_unit q) (q.body ++ y) x r_ok
    (omega (arith, fits.count)) fits.field fits.txn refl front in
    let len : length (spelling r) ≡ length (spelling s) = omega (arith, ap length (spelling-parts_of s)) in
    let split = append-injective (spelling r) x (spelling s) y len same in
    let whole : first_unit (parts_of r) ∷ (parts_of r).body ≡ first_unit q ∷ q.body = sym (spelling-parts_of r) ∙ split.0 ∙ spelling-parts_of s in
    let first : first_unit (parts_of r) ≡ first_unit q = cc in
    let body : (parts_of r).body ≡ q.body = cc in
    let parts = first_unit-injective r s r_ok s_ok first in
    (spelling-injective r s r_ok s_ok found.0 parts.0 parts.1 body, split.1)

pub units_of-injective : (L M : List Rec) → All IsSpellable L → All IsSpellable M → units_of L ≡ units_of M → L ≡ M
units_of-injective [] [] l_ok m_ok same = refl
units_of-injective [] (s ∷ M) l_ok m_ok same =
    absurd (omega (arith, ap length same, ap length (spelling-parts_of s), length-append (spelling s) (units_of M)))
units_of-injective (r ∷ L) [] l_ok m_ok same =
    absurd (omega (arith, ap length same, ap length (spelling-parts_of r), length-append (spelling r) (units_of L)))
units_of-injective (r ∷ L) (s ∷ M) l_ok m_ok same =
    let split = spelling-append-injective r s (units_of L) (units_of M) (l_ok 0 r (omega arith)) (m_ok 0 s (omega arith)) same in
    ap₂ (λ t N. t ∷ N) split.0 (units_of-injective L M (All-drop IsSpellable 1 (r ∷ L) l_ok) (All-drop IsSpellable 1 (s ∷ M) m_ok) split.1)

-- a record has a unit
pub size_of-positive : (rec : Rec) → 0 < size_of rec
size_of-positive (Genesis account balance) = omega arith
size_of-positive (Update txn account delta prev) = omega arith
size_of-positive (Commit txn legs) = omega arith
size_of-positive (Short txn leg) = omega arith
size_of-positive (Over txn leg) = omega arith
size_of-positive (Note txn text) = omega arith

pub begins_with-size_of_le : (units : List ℕ) (rec : Rec) → BeginsWith units rec → size_of rec ≤ length units
begins_with-size_of_le units rec begins = omega (arith, ap length begins.2, length-append (spelling rec) begins.1)

-- the record ends within the units
pub record_end-within_units : (units : List ℕ) (at : ℕ) (rec : Rec) → at ≤ length units → BeginsWith (drop at units) rec
    → at + size_of rec ≤ length units
record_end-within_units units at rec within begins =
    omega (arith, within, begins_with-size_of_le _ rec begins, length-drop at units)

-- units are those of one list
pub AreUnitsOf-injective : (units : List ℕ) (xs ys : List Rec) → AreUnitsOf units xs → AreUnitsOf units ys → xs ≡ ys
AreUnitsOf-injective units xs ys first second =
    units_of-injective xs ys (All-from_recursion IsSpellable xs first.spellable) (All-from_recursion IsSpellable ys second.spellable)
    (sym first.units_are ∙ second.units_are)
