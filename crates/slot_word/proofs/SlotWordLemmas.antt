-- The fields of a slot's word stand apart.
use mathlib.Core.HLevel.{is_prop→PathP}
use Rattle.std.proofs.Common.{arith, ◌≡◌, ◌≤◌, ◌<◌, ◌+◌, ◌-◌, ◌*◌, ◌%◌, ◌^◌, ◌∙◌, ℕ, ap, sym}
use Rattle.std.proofs.Math.Bridge.{le_prop}
use Rattle.std.proofs.Props.{props}
use Rattle.slot_word.specs.declared.phase.Phase.{Phase}
use Rattle.slot_word.specs.declared.phase.Phase.TheVariants.{Gathering, Pending, Published, Refused}
use Rattle.slot_word.specs.declared.slot_word.SlotWord.{SlotWord}
use Rattle.slot_word.specs.SlotWord.{packed, word_of, number_of, phase_in, total_in, remaining_in, IsSlotWord, subtracted, swapped}

number_of-small : (phase : Phase) → number_of phase < 4
number_of-small Gathering = grind (arith)
number_of-small Pending = grind (arith)
number_of-small Published = grind (arith)
number_of-small Refused = grind (arith)

pub fits_64 : (phase : Phase) (total remaining : ℕ) → total < 2 ^ 31 → remaining < 2 ^ 31 → packed phase total remaining < 2 ^ 64
fits_64 phase total remaining t r = let small = number_of-small phase in grind (arith)

pub phase_back : (phase : Phase) (total remaining : ℕ) → total < 2 ^ 31 → remaining < 2 ^ 31 → phase_in (packed phase total remaining) ≡ phase
phase_back Gathering total remaining t r = grind (arith)
phase_back Pending total remaining t r = grind (arith)
phase_back Published total remaining t r = grind (arith)
phase_back Refused total remaining t r = grind (arith)

pub total_back : (phase : Phase) (total remaining : ℕ) → total < 2 ^ 31 → remaining < 2 ^ 31 → total_in (packed phase total remaining) ≡ total
total_back phase total remaining t r = grind (arith)

pub remaining_back : (phase : Phase) (total remaining : ℕ) → total < 2 ^ 31 → remaining < 2 ^ 31 → remaining_in (packed phase total remaining) ≡ remaining
remaining_back phase total remaining t r = grind (arith)

pub word_back : (word : ℕ) → word < 2 ^ 64 → packed (phase_in word) (total_in word) (remaining_in word) ≡ word
word_back word w = grind (arith)

-- the sum of the shifted parts wraps nowhere
pub word_of-shifted_sum : (slot : SlotWord) (number total remaining : ℕ) → number ≡ number_of slot.phase → total ≡ slot.total → remaining ≡ slot.remaining
    → number * 2 ^ 62 % 2 ^ 64 + total * 2 ^ 31 % 2 ^ 64 + remaining ≡ word_of slot
word_of-shifted_sum slot number total remaining is_number is_total is_remaining =
    let small = number_of-small slot.phase in let total_fits = slot.total_fits in let remaining_fits = slot.remaining_fits in grind (arith)

phase_read : (slot : SlotWord) → phase_in (word_of slot) ≡ slot.phase
phase_read slot = phase_back slot.phase slot.total slot.remaining slot.total_fits slot.remaining_fits

total_read : (slot : SlotWord) → total_in (word_of slot) ≡ slot.total
total_read slot = total_back slot.phase slot.total slot.remaining slot.total_fits slot.remaining_fits

remaining_read : (slot : SlotWord) → remaining_in (word_of slot) ≡ slot.remaining
remaining_read slot = remaining_back slot.phase slot.total slot.remaining slot.total_fits slot.remaining_fits

pub word_of-is_slot_word : (slot : SlotWord) → IsSlotWord (word_of slot)
word_of-is_slot_word slot = record {
  gathering = λ is. remaining_read slot ∙ slot.gathering (sym (phase_read slot) ∙ is);
  pending = λ is. let none = slot.pending (sym (phase_read slot) ∙ is) in (total_read slot ∙ none.0, remaining_read slot ∙ none.1);
}

pub is_slot_word-some_slot : (word : ℕ) → word < 2 ^ 64 → IsSlotWord word → (slot : SlotWord) × (word_of slot ≡ word)
is_slot_word-some_slot word w is = (
  record {
    phase = phase_in word;
    total = total_in word;
    remaining = remaining_in word;
    total_fits = grind (arith);
    remaining_fits = grind (arith);
    gathering = is.gathering;
    pending = is.pending;
  },
  word_back word w,
)

-- slots of the same fields are one
same_slot : (a b : SlotWord) → a.phase ≡ b.phase → a.total ≡ b.total → a.remaining ≡ b.remaining → a ≡ b
same_slot a b phase total remaining = λ i. record {
  phase = phase i;
  total = total i;
  remaining = remaining i;
  total_fits = is_prop→PathP (λ j. total j < 2 ^ 31) (λ j. le_prop) a.total_fits b.total_fits i;
  remaining_fits = is_prop→PathP (λ j. remaining j < 2 ^ 31) (λ j. le_prop) a.remaining_fits b.remaining_fits i;
  gathering = is_prop→PathP (λ j. phase j ≡ Gathering → remaining j ≡ 0) (λ j. Prim.hlevel props) a.gathering b.gathering i;
  pending = is_prop→PathP (λ j. phase j ≡ Pending → (total j ≡ 0) × (remaining j ≡ 0)) (λ j. Prim.hlevel props) a.pending b.pending i;
}

-- a field that is read in the word is the same where the words are
same_field : {A : Type 0} (part : ℕ → A) (field : SlotWord → A) → ((slot : SlotWord) → part (word_of slot) ≡ field slot)
    → (a b : SlotWord) → word_of a ≡ word_of b → field a ≡ field b
same_field part field read a b same = sym (read a) ∙ ap part same ∙ read b

pub word_of-injective : (a b : SlotWord) → word_of a ≡ word_of b → a ≡ b
word_of-injective a b same = same_slot a b
    (same_field phase_in (λ slot. slot.phase) phase_read a b same)
    (same_field total_in (λ slot. slot.total) total_read a b same)
    (same_field remaining_in (λ slot. slot.remaining) remaining_read a b same)

pub subtracted-packed : (phase : Phase) (total remaining n : ℕ) → total < 2 ^ 31 → remaining < 2 ^ 31 → n ≤ remaining
    → subtracted n (packed phase total remaining) ≡ packed phase total (remaining - n)
subtracted-packed phase total remaining n t r le = let small = number_of-small phase in grind (arith)

pub swapped-pending : (slot : SlotWord) → slot.phase ≡ Pending → (word : ℕ) → swapped (word_of slot) word ≡ packed Pending 0 0
swapped-pending slot is word = let none = slot.pending is in λ i. packed (is i) (none.0 i) (none.1 i)
