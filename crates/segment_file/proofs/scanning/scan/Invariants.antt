use Rattle.std.proofs.Common.{◌≡◌, ◌≤◌, ◌+◌, List, ℕ, ◌++◌, length}
use Rattle.std.specs.List.{AllByRecursion, flat_map}
use Rattle.lsn_space.specs.declared.lsn.TheConstants.{LAST}
use Rattle.segment_file.specs.File.{IsCountedBatch, gated, joined}
use Rattle.segment_file.specs.Log.{IsFront}
use Rattle.segment_file.proofs.scanning.scan.Given as goal

abbrev pub invariant-batches : goal.invariant-batches
invariant-batches l = record {
  front : List ℕ;
  first : List ℕ;
  begins : IsFront front (record { lsn = l.opening-inside.lsn; txn = l.opening-inside.txn; accounts = l.opening-inside.accounts.rows }) first;
  read : List (List ℕ);
  each : AllByRecursion IsCountedBatch read;
  whole : l.bytes ≡ front ++ flat_map gated read ++ l.rest;
  units : l.units.items ≡ first ++ joined read;
  begin : l.begin ≡ l.opening-inside.lsn;
  total : l.begin + length l.units.items ≤ LAST;
}

abbrev pub decreases-batches : goal.decreases-batches
decreases-batches l = length l.rest
