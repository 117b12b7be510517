-- A slot's word: from the highest bit, its group's phase (2 bits), its total (31) and what remains of it (31).
use Rattle.std.specs.Prelude.{ℕ, ◌≡◌, ◌+◌, ◌-◌, ◌*◌, ◌/◌, ◌%◌, ◌^◌, if◌then◌else◌, nat_eq}
use Rattle.slot_word.specs.declared.phase.Phase.{Phase}
use Rattle.slot_word.specs.declared.phase.Phase.TheVariants.{Gathering, Pending, Published, Refused}
use Rattle.slot_word.specs.declared.slot_word.SlotWord.{SlotWord}

abbrev pub number_of : Phase → ℕ
number_of Gathering = 0
number_of Pending = 1
number_of Published = 2
number_of Refused = 3

abbrev pub packed : Phase → ℕ → ℕ → ℕ
packed phase total remaining = number_of phase * 2 ^ 62 + total * 2 ^ 31 + remaining

abbrev pub word_of : SlotWord → ℕ
word_of slot = packed slot.phase slot.total slot.remaining

-- the phase of a number
abbrev pub phase_of : ℕ → Phase
phase_of n = if nat_eq n 0 then Gathering else if nat_eq n 1 then Pending else if nat_eq n 2 then Published else Refused

abbrev pub phase_in : ℕ → Phase
phase_in word = phase_of (word / 2 ^ 62)

abbrev pub total_in : ℕ → ℕ
total_in word = word / 2 ^ 31 % 2 ^ 31

abbrev pub remaining_in : ℕ → ℕ
remaining_in word = word % 2 ^ 31

-- the word is a slot's: nothing remains while its group gathers, and that of a pending group is its phase alone
pub record IsSlotWord (word : ℕ) : Type 0 where
  pub gathering : phase_in word ≡ Gathering → remaining_in word ≡ 0
  pub pending : phase_in word ≡ Pending → (total_in word ≡ 0) × (remaining_in word ≡ 0)

-- what an atomic subtraction of n makes of a word, in 64 bits
abbrev pub subtracted : ℕ → ℕ → ℕ
subtracted n word = (word + (2 ^ 64 - n)) % 2 ^ 64

-- what an atomic swap puts in the place of a word
abbrev pub swapped : ℕ → ℕ → ℕ
swapped new word = new
