-- The header of a record tells its kind, and how many units its spelling has.
use Rattle.std.proofs.Common.{◌≡◌, ◌∙◌, ◌+◌, ◌*◌, ◌<◌, ◌^◌, ℕ, zero, suc, List, [], ◌∷◌, ◌++◌, length, take, drop, refl, sym, ap, arith}
use Rattle.std.specs.Int.{w32, cast_unsigned}
use Rattle.std.proofs.Math.Seq.{take-append_seam}
use Rattle.log_record.specs.declared.rec.Rec.{Rec}
use Rattle.log_record.specs.declared.rec.Rec.TheVariants.{Genesis, Update, Commit, Short, Over, Note}
use Rattle.log_record.specs.Spelling.{header, spelling, units_for, units_from, padded, text_units, IsSpellable}

-- what a record's spelling is made of, beside the number of its units
pub record Parts : Type 0 where
  pub kind : ℕ
  pub field : ℕ
  pub txn : ℕ
  pub body : List ℕ

abbrev pub first_unit : Parts → ℕ
first_unit p = header p.kind (1 + length p.body) p.field p.txn

abbrev pub parts_of : Rec → Parts
parts_of (Genesis account balance) = record { kind = 1; field = account; txn = 0; body = balance ∷ [] }
parts_of (Update txn account delta prev) = record { kind = 2; field = account; txn = txn; body = (cast_unsigned w32 delta * 2 ^ 32 + prev) ∷ [] }
parts_of (Commit txn legs) = record { kind = 3; field = legs; txn = txn; body = [] }
parts_of (Short txn leg) = record { kind = 4; field = leg; txn = txn; body = [] }
parts_of (Over txn leg) = record { kind = 5; field = leg; txn = txn; body = [] }
parts_of (Note txn text) = record { kind = 6; field = length text; txn = txn; body = text_units text }

pub length-units_from : (n : ℕ) (bytes : List ℕ) → length (units_from n bytes) ≡ n
length-units_from zero bytes = refl
length-units_from (suc n) bytes = ap (λ k. suc k) (length-units_from n (drop 8 bytes))

pub spelling-parts_of : (r : Rec) → spelling r ≡ first_unit (parts_of r) ∷ (parts_of r).body
spelling-parts_of (Genesis account balance) = refl
spelling-parts_of (Update txn account delta prev) = refl
spelling-parts_of (Commit txn legs) = refl
spelling-parts_of (Short txn leg) = refl
spelling-parts_of (Over txn leg) = refl
spelling-parts_of (Note txn text) =
    ap (λ n. header 6 (1 + n) (length text) txn ∷ text_units text) (sym (length-units_from (units_for (length text)) (padded text)))

-- each part is in its place in the header
pub record IsFitting (p : Parts) : Type 0 where
  pub kind : p.kind < 2 ^ 8
  pub count : length p.body < 26
  pub field : p.field < 2 ^ 16
  pub txn : p.txn < 2 ^ 32

pub parts_of-fit : (r : Rec) → IsSpellable r → IsFitting (parts_of r)
parts_of-fit (Genesis account balance) ok = record { kind = omega arith; count = omega arith; field = omega arith; txn = omega arith }
parts_of-fit (Update txn account delta prev) ok = record { kind = omega arith; count = omega arith; field = omega arith; txn = omega arith }
parts_of-fit (Commit txn legs) ok = record { kind = omega arith; count = omega arith; field = omega arith; txn = omega arith }
parts_of-fit (Short txn leg) ok = record { kind = omega arith; count = omega arith; field = omega arith; txn = omega arith }
parts_of-fit (Over txn leg) ok = record { kind = omega arith; count = omega arith; field = omega arith; txn = omega arith }
parts_of-fit (Note txn text) ok =
    let count = length-units_from (units_for (length text)) (padded text) in
    record { kind = omega arith; count = omega arith; field = omega arith; txn = omega arith }

-- the parts of a header are determined
pub header-injective : (k n f t l m g u : ℕ) → n < 256 → m < 256 → f < 2 ^ 16 → g < 2 ^ 16 → t < 2 ^ 32 → u < 2 ^ 32
    → header k n f t ≡ header l m g u → (k ≡ l) × (n ≡ m) × (f ≡ g) × (t ≡ u)
header-injective k n f t l m g u n_fits m_fits f_fits g_fits t_fits u_fits same = (omega arith, omega arith, omega arith, omega arith)

-- the spelling at the front of some units has the kind and the length that the first of them says
pub front_header-kind_and_length : (r : Rec) (k n f t first : ℕ) (rest more : List ℕ) → IsSpellable r → n < 256 → f < 2 ^ 16 → t < 2 ^ 32
    → first ≡ header k n f t → first ∷ rest ≡ spelling r ++ more → ((parts_of r).kind ≡ k) × (length (spelling r) ≡ n)
front_header-kind_and_length r k n f t first rest more ok n_fits f_fits t_fits parts is =
    let p : Parts = parts_of r in
    let fits = parts_of-fit r ok in
    let joined : first ∷ rest ≡ first_unit p ∷ p.body ++ more = is ∙ ap (λ units. units ++ more) (spelling-parts_of r) in
    let same : first_unit p ≡ header k n f t = cc in
    let found = header-injective p.kind (1 + length p.body) p.field p.txn k n f t (omega (arith, fits.count)) n_fits fits.field f_fits fits.txn t_fits same in
    (found.0, omega (arith, ap length (spelling-parts_of r), found.1))

-- as many of the units as the spelling has are the spelling
pub spelled-front_units : (first n : ℕ) (rest spelled more : List ℕ) → length spelled ≡ suc n → first ∷ rest ≡ spelled ++ more → spelled ≡ first ∷ take n rest
spelled-front_units first n rest spelled more len is =
    sym (take-append_seam spelled more) ∙ ap (λ k. take k (spelled ++ more)) len ∙ ap (take (suc n)) (sym is)

-- what begins with a record's spelling has it for header and further units
pub spelling-header_body : (r : Rec) (k n f t : ℕ) (body rest more : List ℕ) → IsSpellable r → n < 256 → f < 2 ^ 16 → t < 2 ^ 32
    → n ≡ 1 + length body → header k n f t ∷ body ++ rest ≡ spelling r ++ more → spelling r ≡ header k n f t ∷ body
spelling-header_body r k n f t body rest more ok n_fits f_fits t_fits count is =
    let found = front_header-kind_and_length r k n f t (header k n f t) (body ++ rest) more ok n_fits f_fits t_fits refl is in
    let len : length (spelling r) ≡ suc (length body) = omega arith in
    spelled-front_units (header k n f t) (length body) (body ++ rest) (spelling r) more len is
    ∙ ap (λ units. header k n f t ∷ units) (take-append_seam body rest)
