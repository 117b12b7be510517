use Rattle.std.proofs.Common.{rules, subst}
use Rattle.segment_file.specs.File.{BeginsOpen}
use Rattle.cli_shared.proofs.FindingLemmas.{IsOnlyImage-stable_gate}
use Rattle.cli_shared.proofs.finding.finds_none.Goals as goal

-- no log is there
pub returns-in-Ok-false : goal.returns-in-Ok-false
returns-in-Ok-false g c =
    let found = c.in-Ok-false.ensures in
    record {
      looks = found.looks;
      closed = λ honest opened. let yes = (found.opens honest).1 opened in let no = c.in-Ok-false.field-0-test in cc;
      gate = λ honest. IsOnlyImage-stable_gate (g.D.LogDisk.reads c.finds_log.new.disk) _ (found.settled honest) (λ opened.
          let yes = (found.opens honest).1 (subst BeginsOpen (found.looks.reads honest) opened) in
          let no = c.in-Ok-false.field-0-test in cc);
      fault = tt;
      exists = λ honest. tt;
      attached = search rules;
      disk = search rules;
    }

-- one is
pub returns-in-Ok-true : goal.returns-in-Ok-true
returns-in-Ok-true g c =
    let found = c.in-Ok-true.ensures in
    record {
      looks = found.looks;
      closed = λ honest. tt;
      gate = λ honest. tt;
      fault = tt;
      exists = search rules;
      attached = search rules;
      disk = search rules;
    }

-- the disk failed
pub returns-in-Err : goal.returns-in-Err
returns-in-Err g c = record {
  looks = c.in-Err.ensures.looks;
  closed = λ honest. tt;
  gate = λ honest. tt;
  fault = tt;
  exists = λ honest. tt;
  attached = search rules;
  disk = search rules;
}
