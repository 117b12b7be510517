-- The sums of a summary.
use Rattle.std.proofs.Common.{◌≡◌, ℕ, ◌+◌, ◌*◌, ◌∙◌, ap, sym, add-one}
use Rattle.run_plan.specs.Summary.{mix_below}

-- one account more is mixed in
pub mix_below-next : (n mix balance : ℕ) (balances : ℕ → ℕ) → mix ≡ mix_below n balances → balance ≡ balances n
    → mix + (n + 1) * balance ≡ mix_below (n + 1) balances
mix_below-next n mix balance balances same at = (λ i. same i + (n + 1) * at i) ∙ ap (λ k. mix_below k balances) (sym (add-one n))
