use Rattle.std.proofs.Common.{rules, inr}
use Rattle.cli_ending.proofs.ConclusionLemmas.{concludes-stopped}
use Rattle.cli_ending.proofs.counted.conclude_counted.Goals as goal

pub returns-in-Some : goal.returns-in-Some
returns-in-Some g c = record {
  concludes = concludes-stopped g.K.Sink c.args.ended.now _ _ c.in-Some.detail c.in-Some.ensures.some;
  write = search rules;
}

pub returns-in-Ok : goal.returns-in-Ok
returns-in-Ok g c = record {
  concludes = (c.in_default.ensures.none, rw (c.lsn.ensures, c.accounts.ensures) at c.in-Ok.ensures.all);
  write = search rules;
}

pub returns-in-Err : goal.returns-in-Err
returns-in-Err g c = record {
  concludes = inr (c.in_default.ensures.none, rw (c.lsn.ensures, c.accounts.ensures) at c.in-Err.ensures.prefix);
  write = search rules;
}
