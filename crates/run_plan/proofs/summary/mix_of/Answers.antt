use Rattle.std.proofs.Common.{arith, ap, sym, ℕ}
use Rattle.std.proofs.lemmas.Grind.{common_steps}
use Rattle.std.proofs.lemmas.Option.{get_or_from_slice_get}
use Rattle.run_plan.specs.Summary.{balance_in}
use Rattle.run_plan.proofs.SummaryLemmas.{mix_below-next}
use Rattle.run_plan.proofs.summary.mix_of.Goals as goal

pub loop-account-preserved : goal.loop-account-preserved
loop-account-preserved c =
    let rows = c.args.accounts.now.rows in
    let found = get_or_from_slice_get rows c.loop-account.account _ (0, 0) c.at-balance.ensures in
    record {
      mix = mix_below-next _ _ _ (balance_in rows) c.loop-account.invariant.mix (sym (ap (λ (row : ℕ × ℕ). row.0) found));
      small = grind (arith, common_steps);
    }
