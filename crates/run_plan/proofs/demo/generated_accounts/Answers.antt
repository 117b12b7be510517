use Rattle.std.proofs.Common.{◌∙◌, ap, ◌++◌, ◌∷◌, [], ℕ, List}
use Rattle.std.proofs.lemmas.List.{replicate_more}
use Rattle.lsn_space.specs.Accounts.{Accounts}
use Rattle.run_plan.proofs.demo.generated_accounts.Goals as goal

pub accounts-preserved : goal.accounts-preserved
accounts-preserved c = record {
  rows = ap (λ (a : Accounts). a.rows) c.push.ensures ∙ ap (λ (rows : List (ℕ × ℕ)). rows ++ (1000000, 0) ∷ []) c.accounts.invariant.rows
      ∙ replicate_more c.accounts.counter (1000000, 0);
  room = ap (λ (a : Accounts). a.room) c.push.ensures ∙ c.accounts.invariant.room;
}
