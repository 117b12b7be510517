-- What the words of the accounts hold, as they are put before a table starts and read once it is closed.
use Rattle.std.specs.Prelude.{◌≡◌, ℕ, ◌+◌, ◌*◌, ◌<◌, false, List, length, slice_index, slice_index_or}
use Rattle.slot_word.specs.AccountWord.{packed, last_commit_in}
use Rattle.table_layout.specs.declared.layout.TheConstants.{STRIDE, RING}
use Rattle.table_layout.specs.Layout.{Account, Balance, index_of}

-- The words of the first n of these accounts are free with their last commits, beside each stands its balance, and the words before the
-- accounts are as they were, in a table with such a ring and so many slots.
pub record PutsAccounts (ring slots : ℕ) (rows : List (ℕ × ℕ)) (n : ℕ) (old new : List ℕ) : Type 0 where
  pub count : length new ≡ length old
  pub others : (place : ℕ) → place < RING + ring + ring + STRIDE * (slots + slots) → slice_index new place ≡ slice_index old place
  pub each : (account : ℕ) → account < n
      → slice_index new (index_of ring slots (Account account)) ≡ packed false (slice_index_or rows account (0, 0)).1
  pub balances : (account : ℕ) → account < n
      → slice_index new (index_of ring slots (Balance account)) ≡ (slice_index_or rows account (0, 0)).0

-- the rows of the first n accounts have their balances and the last commits of their words, in a table with such a ring and so many slots
pub record ReadsRows (ring slots n : ℕ) (words : List ℕ) (old new : List (ℕ × ℕ)) : Type 0 where
  pub count : length new ≡ length old
  pub each : (account : ℕ) → account < n
      → slice_index_or new account (0, 0) ≡ (slice_index words (index_of ring slots (Balance account)), last_commit_in (slice_index words (index_of ring slots (Account account))))
