use Rattle.std.proofs.Common.{◌∙◌, sym}
use Rattle.cli_view.proofs.AccountsAtLemmas.{end-answer, found-answer}
use Rattle.cli_view.proofs.accounts_at.AccountsAt.answer.Goals as goal

pub returns-then-units-asked : goal.returns-then-units-asked
returns-then-units-asked c = λ asked opening h taken ends.
    found-answer asked opening h c.args.self.found
    (λ here. c.if-units-asked.true (c.units.ensures ∙ ends ∙ sym here ∙ sym taken.of)) taken.found

pub returns : goal.returns
returns c = λ asked opening h taken ends.
    end-answer asked opening h c.in_ok-balances.balances
    (sym taken.of ∙ sym c.if-units-asked.false ∙ c.units.ensures ∙ ends) (c.in_ok-balances.ensures opening h taken.judged)
