-- The total that is told at the end of the log.
use Rattle.std.proofs.Common.{◌≡◌, ◌⊎◌, inl, inr, ℕ, ◌+◌, ◌*◌, ◌/◌, ◌≤◌, arith}
use Rattle.cli_threads.specs.RunStops.{IsTotalAmong}
use Rattle.cli_laws.specs.LogEnd.{IsTotalInRange}

module _ (ring slots workers size total : ℕ) where
  total-size_when_alone : IsTotalAmong ring slots workers size total → (slots ≡ 0) ⊎ (workers ≡ 1) → total ≡ size
  total-size_when_alone (inl alone) either = alone
  total-size_when_alone (inr group) (inl none) = absurd (omega (arith, group.grouped, none))
  total-size_when_alone (inr group) (inr one) = absurd (omega (arith, group.known.0, one))

  total-at_least_size : IsTotalAmong ring slots workers size total → size ≤ total
  total-at_least_size (inl alone) = omega (arith, alone)
  total-at_least_size (inr group) = group.within

  total-at_most_26_per_worker : IsTotalAmong ring slots workers size total → 1 ≤ workers → size ≤ 26 → total ≤ 26 * workers
  total-at_most_26_per_worker (inl alone) some small = omega (arith, alone, some, small)
  total-at_most_26_per_worker (inr group) some small = let bound : total + 26 ≤ size + 26 * workers = group.known.1 in omega (arith, bound, small)

  total-size_or_quarter_ring : IsTotalAmong ring slots workers size total → (total ≡ size) ⊎ (total ≤ ring / 4)
  total-size_or_quarter_ring (inl alone) = inl alone
  total-size_or_quarter_ring (inr group) = inr group.few

  pub total-in_range : IsTotalAmong ring slots workers size total → IsTotalInRange ring slots workers size total
  total-in_range among = record {
    own = total-size_when_alone among;
    least = total-at_least_size among;
    most = total-at_most_26_per_worker among;
    quarter = total-size_or_quarter_ring among;
  }
