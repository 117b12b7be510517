use Rattle.std.proofs.Common.{◌≡◌, ℕ, List, ◌++◌, length}
use Rattle.std.specs.List.{flat_map, AllByRecursion}
use Rattle.lsn_space.specs.Opening.{IsRow}
use Rattle.segment_head.specs.Head.{row_bytes}
use Rattle.segment_head.proofs.HeadLemmas.{RowsLeft}
use Rattle.segment_head.proofs.snapshot.take_rows.Given as goal

abbrev pub invariant-accounts : goal.invariant-accounts
invariant-accounts l = record {
  more : List (ℕ × ℕ);
  counted : length more ≡ l.counter;
  each : AllByRecursion (IsRow l.lsn) more;
  whole : l.bytes ≡ flat_map row_bytes more ++ l.rest;
  rows : l.accounts.rows ≡ l.fn.accounts.rows ++ more;
  room : l.accounts.room ≡ l.fn.accounts.room;
  left : (rows : List (ℕ × ℕ)) (rest : List ℕ) → length rows ≡ l.count → AllByRecursion (IsRow l.lsn) rows → l.bytes ≡ flat_map row_bytes rows ++ rest
      → RowsLeft l.lsn l.counter l.count l.rest rest;
}
