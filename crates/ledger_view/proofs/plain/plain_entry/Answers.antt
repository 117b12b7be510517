use Rattle.std.proofs.Common.{◌+◌}
use Rattle.lock_core.specs.AccountRows.{opening_of}
use Rattle.ledger_view.proofs.PlainLemmas.{fronts_begin-take}
use Rattle.ledger_view.proofs.plain.plain_entry.Goals as goal

pub plain_balance-requires-clause-range : goal.plain_balance-requires-clause-range
plain_balance-requires-clause-range c =
    fronts_begin-take (opening_of c.args.opening.now) c.args.account c.args.entries.now (c.args.i + 1) c.requires.range
