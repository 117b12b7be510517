-- The total that is told at the end of the log.
use Rattle.std.specs.Prelude.{◌≡◌, ◌⊎◌, ◌≤◌, ◌*◌, ◌/◌, ℕ}

-- It is the record's own size where there are no slots, and with one worker; never below that size; at most 26 units for each worker
-- where no record has more; and a group's is at most a quarter of the ring.
pub record IsTotalInRange (ring slots workers size total : ℕ) : Type 0 where
  pub own : (slots ≡ 0) ⊎ (workers ≡ 1) → total ≡ size
  pub least : size ≤ total
  pub most : 1 ≤ workers → size ≤ 26 → total ≤ 26 * workers
  pub quarter : (total ≡ size) ⊎ (total ≤ ring / 4)
