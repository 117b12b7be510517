use Rattle.std.proofs.Common.{◌≡◌, ◌-◌, ℕ, List}
use Rattle.lsn_space.specs.declared.lsn.TheConstants.{LAST}
use Rattle.source_recovery.specs.Reading.{HasReadLog}
use Rattle.source_recovery.specs.Taker.{HasTakenTo}
use Rattle.source_recovery.proofs.recovery.take_pieces.Given as goal

abbrev pub invariant-batches : goal.invariant-batches
invariant-batches g l = record {
  all : List ℕ;
  read : HasReadLog (g.S.Source.left l.fn.source) (g.S.Source.left l.source) l.reader
      (record { opening = record { lsn = l.opening-inside.lsn; txn = l.opening-inside.txn; accounts = l.opening-inside.accounts.rows }; units = all });
  taken : HasTakenTo (g.T.TakesAsked.has_taken l.asked) (record { lsn = l.opening-inside.lsn; txn = l.opening-inside.txn; accounts = l.opening-inside.accounts.rows }) all
      l.units.items l.taker;
  no_fault : g.S.Source.faults l.source ≡ g.S.Source.faults l.fn.source;
}

abbrev pub decreases-batches : goal.decreases-batches
decreases-batches g l = LAST - l.reader.next
