use Rattle.std.proofs.Common.{arith, ◌∙◌, ℕ, sym, subst}
use Rattle.log_rule.specs.May.{MaySplit}
use Rattle.log_table.specs.Seats.{view_of, number_of, key_of}
use Rattle.log_rule.proofs.Splitting.{split-allowed}
use Rattle.log_table.proofs.seating.split_as.Goals as goal

pub split_seat-base-requires : goal.split_seat-base-requires
split_seat-base-requires g c = (
  c.requires.seat.table_is,
  omega (arith, c.args.table.now.sized),
  split-allowed (key_of c.args.table.now) (number_of c.args.seat.now) (view_of c.args.seat.now) _
      (subst (λ (n : ℕ). MaySplit n (view_of c.args.seat.now)) (sym c.requires.named) c.requires.may)
      (let named = c.requires.named in omega (arith, c.ranges.worker)),
)

pub invariant_of-result : goal.invariant_of-result
invariant_of-result g c = record { named = sym c.requires.named ∙ sym (λ i. (c.split_seat-base.ensures.4 i).0.standing.worker) }
