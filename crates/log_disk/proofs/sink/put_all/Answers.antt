use Rattle.std.proofs.Common.{arith, rules, take, ◌++◌, ◌∙◌}
use Rattle.std.proofs.lemmas.Grind.{common_steps}
use Rattle.std.proofs.KnownBytes.{Appends-trans}
use Rattle.log_disk.proofs.Prefixes.{prefix-append_take}
use Rattle.log_disk.proofs.sink.put_all.Goals as goal

pub writes-preserved : goal.writes-preserved
writes-preserved g c =
    let was = c.writes.invariant.written in
    let grown = prefix-append_take _ _ _ _ _ was.1 c.split_at.ensures.back in
    record {
      written = (was.0 ++ take c.in-Ok.count c.writes.rest.now, grown, Appends-trans _ _ _ _ _ was.2 c.in-Ok.ensures.bytes);
      same = c.in-Ok.ensures.cause.fine ∙ c.writes.invariant.same;
    }

pub returns-in-Err : goal.returns-in-Err
returns-in-Err g c = record { all = tt; prefix = search rules steps 1200000; cause = search rules steps 600000 }

pub returns : goal.returns
returns g c = record { all = grind (arith, common_steps) steps 2000000; prefix = tt; cause = search rules steps 600000 }
