-- What the first unit of a record says of it.
use Rattle.std.proofs.Common.{◌≡◌, ◌∙◌, ◌+◌, ◌^◌, ◌<◌, ℕ, zero, suc, List, [], ◌∷◌, ◌++◌, Some, None, refl, sym, ap, length, drop, get_or, arith}
use Rattle.log_record.specs.declared.rec.Rec.{Rec}
use Rattle.log_record.specs.declared.rec.Rec.TheVariants.{Genesis, Update, Commit, Short, Over, Note}
use Rattle.log_record.specs.Spelling.{header, spelling, IsSpellable, BeginsWith}
use Rattle.log_record.proofs.Fronts.{parts_of, parts_of-fit, first_unit, spelling-parts_of, header-injective}
use Rattle.end_lines.specs.declared.voice.Voice.{Voice}
use Rattle.end_lines.specs.declared.voice.Voice.TheVariants.{Lines, Count}
use Rattle.end_lines.specs.EndLines.{end_line, line_said, count_said, is_done, is_refused}
use Rattle.end_lines.specs.Telling.{ended}

-- the unit at an index is the first of those behind it
unit-at : (units : List ℕ) (at unit : ℕ) (rest : List ℕ) → drop at units ≡ unit ∷ rest → get_or units at 0 ≡ unit
unit-at [] zero unit rest is = absurd (omega (arith, ap length is))
unit-at [] (suc at) unit rest is = absurd (omega (arith, ap length is))
unit-at (first ∷ units) zero unit rest is = ap (λ us. get_or us 0 0) is
unit-at (first ∷ units) (suc at) unit rest is = unit-at units at unit rest is

-- a record's spelling is the unit at which it begins, and further ones
pub spelling-first_unit : (r : Rec) (units : List ℕ) (at unit : ℕ) → BeginsWith (drop at units) r → unit ≡ get_or units at 0
    → spelling r ≡ unit ∷ (parts_of r).body
spelling-first_unit r units at unit begins is =
    let p = parts_of r in
    let front : drop at units ≡ first_unit p ∷ p.body ++ begins.1 = begins.2 ∙ ap (λ us. us ++ begins.1) (spelling-parts_of r) in
    spelling-parts_of r ∙ ap (λ u. u ∷ p.body) (sym (unit-at units at (first_unit p) (p.body ++ begins.1) front) ∙ sym is)

-- the header tells how many units the record has
pub header-tells_length : (r : Rec) (k n f t : ℕ) (body : List ℕ) → IsSpellable r → n < 256 → f < 2 ^ 16 → t < 2 ^ 32
    → spelling r ≡ header k n f t ∷ body → length (spelling r) ≡ n
header-tells_length r k n f t body ok n_fits f_fits t_fits is =
    let p = parts_of r in
    let fits = parts_of-fit r ok in
    let joined : first_unit p ∷ p.body ≡ header k n f t ∷ body = sym (spelling-parts_of r) ∙ is in
    let same : first_unit p ≡ header k n f t = cc in
    let found = header-injective p.kind (1 + length p.body) p.field p.txn k n f t (omega (arith, fits.count)) n_fits
    fits.field f_fits fits.txn t_fits same in
    omega (arith, ap length (spelling-parts_of r), found.1)

-- of a record that ends no transaction nothing is told
pub record Silent (voice : Voice) (end : ℕ) (r : Rec) : Type 0 where
  pub done : is_done r ≡ 0
  pub refused : is_refused r ≡ 0
  pub said : line_said voice end r ≡ []
  pub lines : count_said voice r ≡ 0

silent-none : (voice : Voice) (end : ℕ) (r : Rec) → end_line end r ≡ [] → is_done r ≡ 0 → is_refused r ≡ 0 → Silent voice end r
silent-none Lines end r none done refused = record { done = done; refused = refused; said = none; lines = omega (arith, done, refused) }
silent-none Count end r none done refused = record { done = done; refused = refused; said = refl; lines = refl }

pub ended_none-silent : (voice : Voice) (end : ℕ) (r : Rec) → ended r ≡ None → Silent voice end r
ended_none-silent voice end (Genesis account balance) is = silent-none voice end _ refl refl refl
ended_none-silent voice end (Update txn account delta prev) is = silent-none voice end _ refl refl refl
ended_none-silent voice end (Commit txn legs) is = absurd cc
ended_none-silent voice end (Short txn leg) is = absurd cc
ended_none-silent voice end (Over txn leg) is = absurd cc
ended_none-silent voice end (Note txn text) is = silent-none voice end _ refl refl refl

pub ended-same : (r end : Rec) → ended r ≡ Some end → end ≡ r
ended-same (Genesis account balance) end is = absurd cc
ended-same (Update txn account delta prev) end is = absurd cc
ended-same (Commit txn legs) end is = cc
ended-same (Short txn leg) end is = cc
ended-same (Over txn leg) end is = cc
ended-same (Note txn text) end is = absurd cc
