-- The head of a file of the second format, which says what stands before the file's list.
use Rattle.std.specs.Prelude.{◌≡◌, ℕ, zero, suc, List, [], ◌∷◌, ◌++◌, length, take, drop, codes}
use Rattle.std.specs.List.{flat_map}
use Rattle.std.specs.Int.{w32, w64, to_be_bytes, from_be_bytes}
use Rattle.lsn_space.specs.Opening.{Opening, IsSnapshot}
use Rattle.segment_head.specs.declared.head.TheConstants.{NEXT_GATE}

-- the bytes behind the first gate of such a file
abbrev pub head_magic : List ℕ
head_magic = codes "AETHER2"

-- an account: its balance in eight bytes, and its mark in four
abbrev pub row_bytes : ℕ × ℕ → List ℕ
row_bytes row = to_be_bytes w64 row.0 ++ to_be_bytes w32 row.1

-- where the list begins, the greatest transaction number before it and the number of accounts, in four bytes each, and then the accounts
unfoldable pub snapshot_bytes : Opening → List ℕ
snapshot_bytes opening = to_be_bytes w32 opening.lsn ++ to_be_bytes w32 opening.txn ++ to_be_bytes w32 (length opening.accounts)
    ++ flat_map row_bytes opening.accounts

-- the head: its magic bytes, and what stands before the list
abbrev pub head : Opening → List ℕ
head opening = head_magic ++ snapshot_bytes opening

-- a head, and the next gate, closed
abbrev pub sealed_head : Opening → List ℕ
sealed_head opening = head opening ++ NEXT_GATE ∷ []

-- the accounts, so many, that bytes begin with
unfoldable pub rows_in : ℕ → List ℕ → List (ℕ × ℕ)
rows_in zero bytes = []
rows_in (suc count) bytes = (from_be_bytes w64 (take 8 bytes), from_be_bytes w32 (take 4 (drop 8 bytes))) ∷ rows_in count (drop 12 bytes)

-- what stands before the list, by the bytes behind the magic bytes
unfoldable pub opening_in : List ℕ → Opening
opening_in bytes = record {
  lsn = from_be_bytes w32 (take 4 bytes);
  txn = from_be_bytes w32 (take 4 (drop 4 bytes));
  accounts = rows_in (from_be_bytes w32 (take 4 (drop 8 bytes))) (drop 12 bytes);
}

-- the bytes are a head and the next gate, and hold this opening, which begins at this LSN
pub record IsHead (bytes : List ℕ) (opening : Opening) (lsn : ℕ) : Type 0 where
  pub held : IsSnapshot opening
  pub whole : bytes ≡ sealed_head opening
  pub begins : lsn ≡ opening.lsn
