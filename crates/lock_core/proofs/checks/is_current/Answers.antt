use Rattle.std.proofs.Common.{◌∙◌, ℕ, sym, ap}
use Rattle.std.proofs.lemmas.Bool.{eqb-true, eq-eqb}
use Rattle.std.proofs.lemmas.Option.{get_or_from_slice_get}
use Rattle.lock_core.proofs.checks.is_current.Goals as goal

pub returns : goal.returns
returns c =
    let rows = c.args.accounts.now.rows in
    let last = ap (λ (row : ℕ × ℕ). row.1) (get_or_from_slice_get rows c.args.change.now.account c.at.result (0, 0) c.at.ensures) in
    (λ same. sym c.units.ensures ∙ eqb-true _ _ same ∙ sym last, λ names. eq-eqb _ _ (c.units.ensures ∙ names ∙ last))
