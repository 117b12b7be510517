-- How many units were asked for at once where a record had no room.
use Rattle.std.proofs.Common.{ℕ, inl, inr}
use Rattle.ring_buffer.specs.Totals.{IsTotalFor}

-- the same of a group of which less is known
pub IsTotalFor-weaker : (ring slots : ℕ) (Known Less : ℕ → ℕ → Type 0) (size total : ℕ) → (Known size total → Less size total)
    → IsTotalFor ring slots Known size total → IsTotalFor ring slots Less size total
IsTotalFor-weaker ring slots Known Less size total less (inl own) = inl own
IsTotalFor-weaker ring slots Known Less size total less (inr group) =
    inr (record { grouped = group.grouped; within = group.within; few = group.few; known = less group.known })
