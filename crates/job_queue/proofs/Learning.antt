-- What the first pass learns of what it has back.
use Rattle.std.proofs.Common.{◌≡◌, ℕ, sym, ◌∙◌, arith}
use Rattle.crossbeam_queue.specs.Fifo.{Learns}
use Rattle.lsn_space.proofs.ListLemmas.{summed-member_le}
use Rattle.job_queue.specs.declared.takings.Takings.{Takings}
use Rattle.job_queue.specs.Takings.{times_in, IsBalanced, HasAllBelow}
use Rattle.job_queue.specs.Rule.{lives, IsShared}
use Rattle.job_queue.proofs.Counting.{once_below-le_one, summed-only_weighted}
use Rattle.job_queue.proofs.FirstPass.{lives-one, lives-zero, IsBoss-first_pass}

pub Learns-balanced : (me : ℕ) (v : Takings) → me ≡ 0 → Learns IsShared me v (λ items. IsBalanced v)
Learns-balanced me v here items views s at = record {
  marks = (IsBoss-first_pass items views me v s at here).budget;
  once = λ x. omega (arith, summed-member_le (times_in x) views me v at, s.once x, once_below-le_one x s.next);
}

pub Learns-has_all_below : (me : ℕ) (v : Takings) → me ≡ 0 → Learns IsShared me v (λ items. v.out ≡ 0 → HasAllBelow v)
Learns-has_all_below me v here items views s at none =
    let first_pass = IsBoss-first_pass items views me v s at here in record {
      next = s.next;
      within = omega (arith, s.put, first_pass.count, first_pass.marks);
      once = λ x. sym (summed-only_weighted lives (times_in x) views me v at (lives-one v first_pass.live) (omega (arith, s.out, first_pass.out, none))
          (λ j y there off. s.spent j y there (lives-zero y off) x)) ∙ s.once x;
    }
