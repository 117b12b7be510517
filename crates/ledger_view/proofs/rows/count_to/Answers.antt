use Rattle.std.proofs.Common.{leb, rules, arith, leb-true, leb-false}
use Rattle.std.proofs.lemmas.List.Sorted.{IsPartitionPoint-from_clause, IsPartitionedBy-leb}
use Rattle.ledger_view.specs.declared.rows.Row.{Row}
use Rattle.ledger_view.proofs.rows.count_to.Goals as goal

pub returns : goal.returns
returns c =
    let parted = IsPartitionedBy-leb (λ (row : Row). row.end) _ c.args.lsn c.requires in
    let point = IsPartitionPoint-from_clause (λ (row : Row). leb row.end c.args.lsn) _ _ c.partition_point.ensures.partitioned parted (λ a r f k. search rules) in
    record {
      bound = c.partition_point.ensures.bound;
      below = λ i d inside. leb-true _ _ (point.0 i d (omega arith) inside);
      behind = λ i d from inside. leb-false _ _ (point.1 i d from inside);
    }
