-- How long a spelling is, and that its units are of 64 bits.
use Rattle.std.proofs.Common.{◌+◌, ◌*◌, ◌<◌, ◌≤◌, ◌^◌, ℕ, zero, suc, List, [], length, take, drop, All, ap, arith}
use Rattle.std.specs.Int.{w32, cast_unsigned}
use Rattle.std.proofs.lemmas.Int.{ints}
use Rattle.std.proofs.lemmas.List.Elements.{All-nil, All-cons, All-take, All-drop}
use Rattle.lsn_space.specs.Unit.{unit_value}
use Rattle.log_record.specs.declared.rec.Rec.{Rec}
use Rattle.log_record.specs.declared.rec.Rec.TheVariants.{Genesis, Update, Commit, Short, Over, Note}
use Rattle.log_record.specs.Spelling.{spelling, units_for, units_from, padded, IsSpellable}
use Rattle.log_record.proofs.Fronts.{parts_of, parts_of-fit, first_unit, spelling-parts_of}
use Rattle.log_record.proofs.TextLemmas.{IsByte, get_or-below_256, padded-all_bytes}

abbrev IsUnit : ℕ → Type 0
IsUnit unit = unit < 2 ^ 64

unit_value-lt : (bytes : List ℕ) → All IsByte bytes → unit_value bytes < 2 ^ 64
unit_value-lt bytes small =
    let at = get_or-below_256 bytes small in
    omega (arith, at 0, at 1, at 2, at 3, at 4, at 5, at 6, at 7)

units_from-fit : (n : ℕ) (bytes : List ℕ) → All IsByte bytes → All IsUnit (units_from n bytes)
units_from-fit zero bytes small = All-nil IsUnit
units_from-fit (suc n) bytes small =
    All-cons IsUnit (unit_value (take 8 bytes)) (units_from n (drop 8 bytes)) (unit_value-lt (take 8 bytes) (All-take IsByte 8 bytes small))
    (units_from-fit n (drop 8 bytes) (All-drop IsByte 8 bytes small))

body-fits : (r : Rec) → IsSpellable r → All IsUnit (parts_of r).body
body-fits (Genesis account balance) ok = All-cons IsUnit balance [] (omega arith) (All-nil IsUnit)
body-fits (Update txn account delta prev) ok = All-cons IsUnit (cast_unsigned w32 delta * 2 ^ 32 + prev) [] (omega (arith, ints)) (All-nil IsUnit)
body-fits (Commit txn legs) ok = All-nil IsUnit
body-fits (Short txn leg) ok = All-nil IsUnit
body-fits (Over txn leg) ok = All-nil IsUnit
body-fits (Note txn text) ok = units_from-fit (units_for (length text)) (padded text) (padded-all_bytes text ok.1.2)

pub spelling-all_units : (r : Rec) → IsSpellable r → All IsUnit (spelling r)
spelling-all_units r ok =
    let p = parts_of r in let fits = parts_of-fit r ok in
    rw (spelling-parts_of r) (All-cons IsUnit (first_unit p) p.body (omega (arith, fits.kind, fits.count, fits.field, fits.txn)) (body-fits r ok))

pub length-spelling : (r : Rec) → IsSpellable r → length (spelling r) ≤ 26
length-spelling r ok = omega (arith, ap length (spelling-parts_of r), (parts_of-fit r ok).count)
