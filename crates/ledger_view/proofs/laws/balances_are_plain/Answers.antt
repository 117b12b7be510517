use Rattle.std.proofs.Common.{reverse}
use Rattle.ledger_view.proofs.PlainLemmas.{viewed-fronts_begin_in_range}
use Rattle.ledger_view.proofs.laws.balances_are_plain.Goals as goal

pub plain_balance_at-plain-requires-clause-range : goal.plain_balance_at-plain-requires-clause-range
plain_balance_at-plain-requires-clause-range c =
    viewed-fronts_begin_in_range c.args.opening.now c.args.view.now (reverse c.args.entries.now) c.args.account c.requires.viewed
