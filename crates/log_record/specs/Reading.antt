-- What a header and the units after it spell.
use Rattle.std.specs.Prelude.{◌≡◌, ◌⊎◌, ℕ, List, ◌∷◌, Result, OnOk, OnErr}
use Rattle.log_record.specs.declared.header.Header.{Header}
use Rattle.log_record.specs.declared.header.TheConstants.{COMMIT, SHORT, OVER}
use Rattle.log_record.specs.declared.rec.Rec.{Rec}
use Rattle.log_record.specs.Spelling.{header, spelling, IsSpellable}

-- the unit of a header
abbrev pub header_unit : Header → ℕ
header_unit h = header h.kind h.units h.field h.txn

-- the kind of an end record
abbrev pub IsEndKind : ℕ → Type 0
IsEndKind kind = (kind ≡ COMMIT) ⊎ (kind ≡ SHORT) ⊎ (kind ≡ OVER)

-- the header and the units after it are the spelling of this record, and no more
abbrev pub Spells : Header → List ℕ → Rec → Type 0
Spells h body rec = IsSpellable rec × (spelling rec ≡ header_unit h ∷ body)

-- this is the record that they spell, or they are refused, as they spell none
pub record Reads {T E : Type 0} (h : Header) (body : List ℕ) (rec : Rec) (result : Result T E) : Type 0 where
  pub found : OnOk result (Spells h body rec)
  pub bad : OnErr result ((r : Rec) → Spells h body r → ⊥)
