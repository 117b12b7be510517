use Rattle.std.proofs.Common.{arith, ◌≡◌, ℕ, subst}
use Rattle.log_table.specs.HiredWorkers.{HasHired}
use Rattle.table_tests.proofs.groups_tests.fill_ring.Goals as goal

pub returns : goal.returns
returns g c =
    let all : c.loop-i.i ≡ 256 = omega (arith, c.loop-i-test.false, c.loop-i.auto.i-end) in
    record { flusher_seat = subst (λ (n : ℕ). HasHired c.args.table.now n c.loop-i.flusher_seat) all c.loop-i.invariant }
