use Rattle.std.proofs.Common.{arith, ◌∙◌, ap, sym, ℕ}
use Rattle.std.proofs.lemmas.Option.{get_or_from_slice_get}
use Rattle.lock_core.proofs.judge.Judge.balance.Goals as goal

pub returns : goal.returns
returns c = λ opening h judged.
    let found = get_or_from_slice_get c.args.self.now.ledger.accounts.rows c.args.account _ (0, 0) c.at.ensures in
    let holds = judged.ledger.judged.rows.balance c.args.account c.requires in
    sym (ap (λ (row : ℕ × ℕ). row.0) found) ∙ omega (arith, holds)
