use Rattle.std.proofs.Common.{refl, subst}
use Rattle.cli_reports.specs.Command.{HasReported}
use Rattle.cli_reports.specs.Reports.{AnswersReport, IsAnswerAtLsn, RefusesLsn}
use Rattle.cli_standby.specs.Shipping.{SaysStream}
use Rattle.cli_dispatch.proofs.Untouched.{untouched-faults}
use Rattle.cli_dispatch.proofs.reports.obey_ship.Goals as goal

pub returns : goal.returns
returns g c =
    let report = subst (λ from. HasReported g.S.Source g.K.Sink (AnswersReport (SaysStream from) (RefusesLsn from)) IsAnswerAtLsn
    c.args.input.now c.ship_command.new.input c.args.out.now c.ship_command.new.out c.ship_command.result) c.new.ensures c.ship_command.ensures in
    record {
      done = record { report = report; untouched = refl {a = c.args.disk.now} };
      faults = untouched-faults g.D.LogDisk g.S.Source g.K.Sink _ _ c.args.disk.now _ _ _ _ c.ship_command.result (λ disk. subst IsAnswerAtLsn disk report.range) report;
    }
