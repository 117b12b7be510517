-- The words of the table by name, and where each lies.
use Rattle.std.specs.Prelude.{ℕ, ◌+◌, ◌*◌}
use Rattle.table_layout.specs.declared.layout.TheConstants.{STRIDE, TAIL, EXPOSED, DURABLE, STOP, CREW, RING}

-- a word of the table; those of the ring and the release marks by their index, a slot's state and base by the slot, and an account's word
-- and balance by its number
pub data Word : Type 0 where
  Tail : Word
  Exposed : Word
  Durable : Word
  Stop : Word
  Crew : Word
  Ring : (index : ℕ) → Word
  Mark : (index : ℕ) → Word
  Slot : (slot : ℕ) → Word
  Base : (slot : ℕ) → Word
  Account : (account : ℕ) → Word
  Balance : (account : ℕ) → Word

-- where the word lies, in a table whose ring has `size` units, and which has so many slots
abbrev pub index_of : ℕ → ℕ → Word → ℕ
index_of size slots Tail = TAIL
index_of size slots Exposed = EXPOSED
index_of size slots Durable = DURABLE
index_of size slots Stop = STOP
index_of size slots Crew = CREW
index_of size slots (Ring index) = RING + index
index_of size slots (Mark index) = RING + size + index
index_of size slots (Slot slot) = RING + size + size + STRIDE * slot
index_of size slots (Base slot) = RING + size + size + STRIDE * (slots + slot)
index_of size slots (Account account) = RING + size + size + STRIDE * (slots + slots + account)
index_of size slots (Balance account) = RING + size + size + STRIDE * (slots + slots + account) + 1

-- how many words a table with such a ring, so many slots and so many accounts has
abbrev pub word_count : ℕ → ℕ → ℕ → ℕ
word_count size slots accounts = RING + size + size + STRIDE * (slots + slots + accounts)
