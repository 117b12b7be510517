use Rattle.std.proofs.Common.{inl, inr, refl, rules}
use Rattle.memory_disk.proofs.memory_disk.MemoryDisk.count_call.Goals.{then-self-cost-via-then-self-cost, then-self-cost-via-else-self-cost+then-contains}
use Rattle.memory_disk.proofs.memory_disk.MemoryDisk.count_call.Goals as goal

pub returns-then-self-cost-clause-fails : goal.returns-then-self-cost-clause-fails
returns-then-self-cost-clause-fails c = (
  λ _. elim c.then-self-cost.branch [
    | then-self-cost-via-then-self-cost w ↦ inl (search rules)
    | then-self-cost-via-else-self-cost+then-contains w ↦ inr (search rules)
  ],
  λ _. refl,
)
