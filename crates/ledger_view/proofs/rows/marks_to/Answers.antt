use Rattle.std.proofs.Common.{ℕ, leb, rules, arith, leb-true, leb-false}
use Rattle.std.proofs.lemmas.List.Sorted.{IsPartitionPoint-from_clause, IsPartitionedBy-leb}
use Rattle.ledger_view.proofs.rows.marks_to.Goals as goal

pub returns : goal.returns
returns c =
    let parted = IsPartitionedBy-leb (λ (mark : ℕ). mark) _ c.args.lsn c.requires in
    let point = IsPartitionPoint-from_clause (λ (mark : ℕ). leb mark c.args.lsn) _ _ c.partition_point.ensures.partitioned parted (λ a r f k. search rules) in
    record {
      bound = c.partition_point.ensures.bound;
      below = λ i d inside. leb-true _ _ (point.0 i d (omega arith) inside);
      behind = λ i d from inside. leb-false _ _ (point.1 i d from inside);
    }
