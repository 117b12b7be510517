use Rattle.std.proofs.Common.{rules, tests}
use Rattle.cli_workers.proofs.relief.FlushingReliefRelief.rest.Goals as goal

pub turn-requires : goal.turn-requires
turn-requires g c = record { ready = c.requires.ready (search (tests, rules) steps 300000) }

pub returns-then-is_none-clause-later : goal.returns-then-is_none-clause-later
returns-then-is_none-clause-later g c = c.turn.ensures.later
