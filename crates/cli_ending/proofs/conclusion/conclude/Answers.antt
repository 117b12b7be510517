use Rattle.std.proofs.Common.{rules}
use Rattle.cli_ending.proofs.ConclusionLemmas.{concludes-stopped, concludes-fine, concludes-write}
use Rattle.cli_ending.proofs.conclusion.conclude.Goals as goal

pub returns-in-Some : goal.returns-in-Some
returns-in-Some g c = record {
  concludes = concludes-stopped g.K.Sink c.args.ended.now _ _ c.in-Some.why c.in-Some.ensures.some;
  write = search rules;
}

pub returns-in-Ok : goal.returns-in-Ok
returns-in-Ok g c = record {
  concludes = concludes-fine g.K.Sink c.args.ended.now _ _ _ _ c.accounts.ensures c.in_default.ensures.none c.in-Ok.ensures.all
      (search rules steps 300000);
  write = search rules;
}

pub returns-in-Err : goal.returns-in-Err
returns-in-Err g c = record {
  concludes = concludes-write g.K.Sink c.args.ended.now _ _ _ _ c.accounts.ensures c.in_default.ensures.none c.in-Err.ensures.prefix
      (search rules steps 300000);
  write = search rules;
}
