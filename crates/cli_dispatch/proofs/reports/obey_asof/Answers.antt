use Rattle.std.proofs.Common.{refl, subst}
use Rattle.cli_reports.specs.Command.{HasReported}
use Rattle.cli_reports.specs.Reports.{AnswersReport, IsAnswerAtLsn, RefusesLsn}
use Rattle.cli_view.specs.Reports.{SaysAccounts}
use Rattle.cli_dispatch.proofs.Untouched.{untouched-faults}
use Rattle.cli_dispatch.proofs.reports.obey_asof.Goals as goal

pub returns : goal.returns
returns g c =
    let report = subst (λ lsn. HasReported g.S.Source g.K.Sink (AnswersReport (SaysAccounts lsn) (RefusesLsn lsn)) IsAnswerAtLsn
    c.args.input.now c.asof_command.new.input c.args.out.now c.asof_command.new.out c.asof_command.result) c.new.ensures c.asof_command.ensures in
    record {
      done = record { report = report; untouched = refl {a = c.args.disk.now} };
      faults = untouched-faults g.D.LogDisk g.S.Source g.K.Sink _ _ c.args.disk.now _ _ _ _ c.asof_command.result (λ disk. subst IsAnswerAtLsn disk report.range) report;
    }
