use Rattle.std.proofs.Common.{refl, subst}
use Rattle.cli_reports.specs.Answers.{IsAnswerToRecover}
use Rattle.cli_dispatch.proofs.Untouched.{untouched-faults}
use Rattle.cli_dispatch.proofs.reports.obey_recover.Goals as goal

pub returns : goal.returns
returns g c =
    let report = c.recover_command.ensures in
    record {
      done = record { report = report; untouched = refl {a = c.args.disk.now} };
      faults = untouched-faults g.D.LogDisk g.S.Source g.K.Sink _ _ c.args.disk.now _ _ _ _ c.recover_command.result (λ disk. subst IsAnswerToRecover disk report.range) report;
    }
