-- What the words hold.
use Rattle.std.specs.Prelude.{◌==◌, ℕ, if◌then◌else◌, nat_lt, List, length, slice_index}
use Rattle.log_rule.specs.declared.start.Start.{Start}
use Rattle.table_layout.specs.Layout.{Word, Tail, Exposed, Durable, Stop, Crew, Ring, Mark, Slot, Base, Account, Balance, index_of}

-- the two words of an account
pub record AccountWords : Type 0 where
  pub word : ℕ
  pub balance : ℕ

-- the words by name; those of the ring and the marks as functions of their index, those of the slots of the slot, and those of the accounts
-- of their number
pub record Words : Type 0 where
  pub tail : ℕ
  pub exposed : ℕ
  pub durable : ℕ
  pub stop : ℕ
  pub crew : ℕ
  pub ring : ℕ → ℕ
  pub mark : ℕ → ℕ
  pub slot : ℕ → ℕ
  pub base : ℕ → ℕ
  pub account : ℕ → AccountWords

-- the word of a list of words of a table whose ring has `size` units, and which has so many slots
abbrev pub read : ℕ → ℕ → List ℕ → Word → ℕ
read size slots words word = slice_index words (index_of size slots word)

-- the words of a table with such a ring, so many slots and so many accounts
abbrev pub words_of : ℕ → ℕ → ℕ → List ℕ → Words
words_of size slots accounts words = record {
  tail = read size slots words Tail;
  exposed = read size slots words Exposed;
  durable = read size slots words Durable;
  stop = read size slots words Stop;
  crew = read size slots words Crew;
  ring = λ index. if nat_lt index size then read size slots words (Ring index) else 0;
  mark = λ index. if nat_lt index size then read size slots words (Mark index) else 0;
  slot = λ slot. if nat_lt slot slots then read size slots words (Slot slot) else 0;
  base = λ slot. if nat_lt slot slots then read size slots words (Base slot) else 0;
  account = λ account. record {
    word = if nat_lt account accounts then read size slots words (Account account) else 0;
    balance = if nat_lt account accounts then read size slots words (Balance account) else 0;
  };
}

-- the words of the table that was made with this key
abbrev pub words_in : Start → List ℕ → Words
words_in key words = words_of key.ring key.slots (length key.accounts.rows) words

-- the word of that name
abbrev pub word_at : Words → Word → ℕ
word_at words Tail = words.tail
word_at words Exposed = words.exposed
word_at words Durable = words.durable
word_at words Stop = words.stop
word_at words Crew = words.crew
word_at words (Ring index) = words.ring index
word_at words (Mark index) = words.mark index
word_at words (Slot slot) = words.slot slot
word_at words (Base slot) = words.base slot
word_at words (Account account) = (words.account account).word
word_at words (Balance account) = (words.account account).balance

-- the function, but for its value at one place
abbrev pub put : (ℕ → ℕ) → ℕ → ℕ → ℕ → ℕ
put values at value index = if index == at then value else values index

-- the accounts' words, and their balances, one by one
abbrev pub words_alone : (ℕ → AccountWords) → ℕ → ℕ
words_alone accounts account = (accounts account).word

abbrev pub balances_alone : (ℕ → AccountWords) → ℕ → ℕ
balances_alone accounts account = (accounts account).balance

-- the accounts, but for the word of one, or for its balance
abbrev pub put_word : (ℕ → AccountWords) → ℕ → ℕ → ℕ → AccountWords
put_word accounts at value account = record { word = put (words_alone accounts) at value account; balance = (accounts account).balance }

abbrev pub put_balance : (ℕ → AccountWords) → ℕ → ℕ → ℕ → AccountWords
put_balance accounts at value account = record { word = (accounts account).word; balance = put (balances_alone accounts) at value account }

-- the words, but for the value of one
abbrev pub with_word : Words → Word → ℕ → Words
with_word words Tail value = record words { tail = value }
with_word words Exposed value = record words { exposed = value }
with_word words Durable value = record words { durable = value }
with_word words Stop value = record words { stop = value }
with_word words Crew value = record words { crew = value }
with_word words (Ring index) value = record words { ring = put words.ring index value }
with_word words (Mark index) value = record words { mark = put words.mark index value }
with_word words (Slot slot) value = record words { slot = put words.slot slot value }
with_word words (Base slot) value = record words { base = put words.base slot value }
with_word words (Account account) value = record words { account = put_word words.account account value }
with_word words (Balance account) value = record words { account = put_balance words.account account value }
