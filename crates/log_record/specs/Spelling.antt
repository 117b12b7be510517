-- Records, and how they are spelled in units of 64 bits.
use Rattle.std.specs.Prelude.{◌≡◌, ◌≢◌, ℕ, zero, suc, ◌+◌, ◌-◌, ◌*◌, ◌/◌, ◌<◌, ◌≤◌, ◌^◌, ℤ, pos, neg_ℤ, ◌≤ℤ◌, List, [], ◌∷◌, ◌++◌, length, take, drop, replicate, All}
use Rattle.std.specs.Int.{w32, cast_unsigned}
use Rattle.lsn_space.specs.declared.lsn.TheConstants.{LAST}
use Rattle.lsn_space.specs.Unit.{unit_value}
use Rattle.lsn_space.specs.declared.opening.TheConstants.{MOST_ACCOUNTS, MOST_AMOUNT, MOST_BALANCE}
use Rattle.log_record.specs.declared.limits.TheConstants.{MOST_LEGS, LAST_TXN}
use Rattle.log_record.specs.declared.rec.Rec.{Rec}
use Rattle.log_record.specs.declared.text.TheConstants.{LONGEST_NOTE}
use Rattle.log_record.specs.declared.rec.Rec.TheVariants.{Genesis, Update, Commit, Short, Over, Note}

-- The first unit of a record. From the highest bit: its kind (8 bits), its number of units (8), a field (16), its
-- transaction (32).
abbrev pub header : ℕ → ℕ → ℕ → ℕ → ℕ
header kind units field txn = kind * 2 ^ 56 + units * 2 ^ 48 + field * 2 ^ 32 + txn

-- how many units so many bytes take
abbrev pub units_for : ℕ → ℕ
units_for len = (len + 7) / 8

-- so many units of these bytes, eight to a unit
abbrev pub units_from : ℕ → List ℕ → List ℕ
units_from zero bytes = []
units_from (suc n) bytes = unit_value (take 8 bytes) ∷ units_from n (drop 8 bytes)

-- a text, and zero bytes to the end of its last unit
abbrev pub padded : List ℕ → List ℕ
padded text = text ++ replicate (8 * units_for (length text) - length text) 0

-- the units of a text
abbrev pub text_units : List ℕ → List ℕ
text_units text = units_from (units_for (length text)) (padded text)

-- the units of a record
abbrev pub spelling : Rec → List ℕ
spelling (Genesis account balance) = header 1 2 account 0 ∷ balance ∷ []
spelling (Update txn account delta prev) = header 2 2 account txn ∷ (cast_unsigned w32 delta * 2 ^ 32 + prev) ∷ []
spelling (Commit txn legs) = header 3 1 legs txn ∷ []
spelling (Short txn leg) = header 4 1 leg txn ∷ []
spelling (Over txn leg) = header 5 1 leg txn ∷ []
spelling (Note txn text) = header 6 (1 + units_for (length text)) (length text) txn ∷ text_units text

abbrev pub IsAccount : ℕ → Type 0
IsAccount account = account < MOST_ACCOUNTS

abbrev pub IsBalance : ℕ → Type 0
IsBalance balance = balance ≤ MOST_BALANCE

abbrev pub IsTxn : ℕ → Type 0
IsTxn txn = (1 ≤ txn) × (txn ≤ LAST_TXN)

-- a number of legs, or the number of a leg
abbrev pub IsLeg : ℕ → Type 0
IsLeg leg = (1 ≤ leg) × (leg ≤ MOST_LEGS)

abbrev pub IsDelta : ℤ → Type 0
IsDelta delta = (pos 0 ≢ delta) × (neg_ℤ (pos MOST_AMOUNT) ≤ℤ delta) × (delta ≤ℤ pos MOST_AMOUNT)

-- a byte of printable ASCII
abbrev pub IsPrintable : ℕ → Type 0
IsPrintable byte = (32 ≤ byte) × (byte ≤ 126)

abbrev pub IsNoteText : List ℕ → Type 0
IsNoteText text = (1 ≤ length text) × (length text ≤ LONGEST_NOTE) × All IsPrintable text

-- the fields of the record are in their ranges, so that it has a spelling
abbrev pub IsSpellable : Rec → Type 0
IsSpellable (Genesis account balance) = IsAccount account × IsBalance balance
IsSpellable (Update txn account delta prev) = IsTxn txn × IsAccount account × IsDelta delta × (prev ≤ LAST)
IsSpellable (Commit txn legs) = IsTxn txn × IsLeg legs
IsSpellable (Short txn leg) = IsTxn txn × IsLeg leg
IsSpellable (Over txn leg) = IsTxn txn × IsLeg leg
IsSpellable (Note txn text) = IsTxn txn × IsNoteText text

-- the units begin with the spelling of this record
abbrev pub BeginsWith : List ℕ → Rec → Type 0
BeginsWith units rec = IsSpellable rec × (rest : List ℕ) × (units ≡ spelling rec ++ rest)
