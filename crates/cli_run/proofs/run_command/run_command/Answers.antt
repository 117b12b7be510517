use Rattle.std.proofs.Common.{inl, inr, rules, ◌∙◌, refl}
use Rattle.log_disk.proofs.Counting.{CountsWhere-same_before}
use Rattle.log_recovery.specs.Opened.{log_of}
use Rattle.cli_shared.proofs.AttachedLemmas.{leaves-attached}
use Rattle.cli_shared.proofs.FaultsTold.{TellsFaults-not_write}
use Rattle.cli_threads.proofs.EndingLemmas.{ended-same_attached, Concludes-counts_disk, ended-same_honest, Concludes-counts_write}
use Rattle.cli_run.proofs.ReadyLemmas.{OnlyLooks-only_reads, ready-settled, opens-only_settles}
use Rattle.cli_run.proofs.RunAnswerLemmas.{Concludes-answers_run, IsBeforeRun-answer_to_run, Concludes-answer_to_run, Concludes-not_read}
use Rattle.cli_run.proofs.RunAnswerLemmas.{RunStaysSilent-refl, Concludes-stays_silent, IsBeforeRun-not_write}
use Rattle.cli_run.specs.RunReady.{IsReadyFor}
use Rattle.cli_run.proofs.run_command.run_command.Goals as goal
use Rattle.cli_run.proofs.run_command.run_command.Goals.{In-Ok-settle}

pub returns-in-Err : goal.returns-in-Err
returns-in-Err g c =
    let said = c.in-Err.ensures in
    record {
      done = record {
        answer = λ honest. said.none honest c.args.options.now (g.K.Sink.held_bytes c.args.out.now);
        silent = RunStaysSilent-refl _ c.in-Err.detail;
        range = IsBeforeRun-answer_to_run c.in-Err.detail said.range;
        attached = said.attached;
      };
      faults = TellsFaults-not_write g.D.LogDisk g.S.Source g.K.Sink _ _ c.in-Err.detail (IsBeforeRun-not_write c.in-Err.detail said.range) said.read refl
          said.disk said.honest;
    }

pub returns-in_default : goal.returns-in_default
returns-in_default g c =
    let said = c.in-Ok.ensures in
    record {
      done = record {
        answer = λ honest. OnlyLooks-only_reads g.D.LogDisk c.args.disk.now c.open_and_read.new.disk (said.opened.looks honest) _ _ _;
        silent = search rules;
        range = tt;
        attached = λ honest. inr (said.attached honest);
      };
      faults = record {
        read = record { counted = λ is. cc; fine = λ other. said.read.fine (λ is. cc) };
        write = record { counted = λ is. cc; fine = λ other. refl };
        disk = record { counted = λ is. cc; fine = λ other. said.disk.fine (λ is. cc) };
        honest = said.honest;
      };
    }

pub returns-in_default-settle : goal.returns-in_default-settle
returns-in_default-settle g c =
    let said = c.in-Ok.ensures in
    let opens = said.opened.opens in
    let settled = c.settle.ensures in
    record {
      done = record {
        answer = λ honest. let honest_mid = said.honest.0 honest in let log = log_of opens.recovers.list in
            inl (opens-only_settles g.D.LogDisk c.args.disk.now c.open_and_read.new.disk c.in-Ok.read.0 opens c.settle.new.disk
            (said.opened.looks honest) (settled.moments honest_mid log (opens.stand honest)) (settled.count honest_mid) honest
            (g.met.D.LogDisk.read_is_image _ honest_mid) (settled.length honest_mid) _ _ _);
        silent = tt;
        range = tt;
        attached = λ honest. inr (settled.attached ∙ said.attached honest);
      };
      faults = record {
        read = record { counted = λ is. cc; fine = λ other. said.read.fine (λ is. cc) };
        write = record { counted = λ is. cc; fine = λ other. refl };
        disk = search rules;
        honest = (λ honest. settled.honest.0 (said.honest.0 honest), λ honest. said.honest.1 (settled.honest.1 honest));
      };
    }

-- the transfers are ready to be made
ready : (g : _) (c : In-Ok-settle g) → IsReadyFor g.D.LogDisk c.args.options.now c.args.disk.now c.settle.new.disk
    (g.S.Source.left c.args.script.now) (g.S.Source.left c.open_and_read.new.script)
    (record { prepared = c.in-Ok-prepare_run.prepared; tail = c.in-Ok-settle.tail })
ready g c =
    let said = c.in-Ok.ensures in
    let opens = said.opened.opens in
    let log = log_of opens.recovers.list in
    let settled = c.in-Ok-settle.ensures in
    ready-settled g.D.LogDisk c.args.disk.now c.open_and_read.new.disk c.settle.new.disk c.in-Ok.read.0 c.in-Ok.read.1 _ _ said.opened
    (record { prepared = c.in-Ok-prepare_run.prepared; tail = c.in-Ok-settle.tail }) c.args.options.now c.in-Ok-prepare_run.ensures
    settled.tail
    (λ honest. settled.moments (said.honest.0 honest) log (opens.stand honest))
    (λ honest. settled.stand (said.honest.0 honest) log (opens.stand honest)) (λ honest. settled.shut (said.honest.0 honest))
    (λ honest. settled.length (said.honest.0 honest)) (λ honest. settled.count (said.honest.0 honest))
    (λ honest. g.met.D.LogDisk.read_is_image _ (said.honest.0 honest)) (λ honest. said.honest.1 (settled.honest.1 honest))

pub finish-requires-clause-opened : goal.finish-requires-clause-opened
finish-requires-clause-opened g c = λ κs within.
    let is = ready g (goal.at.finish-requires-clause-opened g c).In-Ok-settle in (is.opened, is.log)

pub returns : goal.returns
returns g c =
    let said = c.in-Ok.ensures in
    let is = ready g (goal.at.returns g c).In-Ok-settle in
    let done = c.finish.ensures is.opened is.log in
    let settled = c.in-Ok-settle.ensures in
    record {
      done = record {
        answer = λ honest. Concludes-answers_run g.D.LogDisk g.K.Sink _
            (record { prepared = c.in-Ok-prepare_run.prepared; tail = c.in-Ok-settle.tail }) _ _ _ _ _ _ _ _ _ is done.has honest
            (settled.honest.0 (said.honest.0 honest)) c.finish.result done.concludes;
        silent = Concludes-stays_silent g.K.Sink done.ended _ _ _ _ _ c.finish.result done.concludes;
        range = Concludes-answer_to_run g.K.Sink done.ended _ _ _ c.finish.result done.concludes;
        attached = λ honest. leaves-attached _ _ _ c.finish.result
            (ended-same_attached g.D.LogDisk g.K.Sink _ is.opened _ _ _ _ _ _ done.has ∙ (settled.attached ∙ said.attached honest));
      };
      faults = record {
        read = record {
          counted = λ is. absurd (Concludes-not_read g.K.Sink done.ended _ _ _ c.finish.result done.concludes is);
          fine = λ other. said.read.fine (λ is. cc);
        };
        write = Concludes-counts_write g.D.LogDisk g.K.Sink _ is.opened _ _ _ _ _ _ done.has _ _ c.finish.result done.concludes done.write;
        disk = CountsWhere-same_before _ _ _ _ (settled.cause.fine ∙ said.disk.fine (λ is. cc))
            (Concludes-counts_disk g.D.LogDisk g.K.Sink _ is.opened _ _ _ _ _ _ done.has _ _ c.finish.result done.concludes);
        honest = let same = ended-same_honest g.D.LogDisk g.K.Sink _ is.opened _ _ _ _ _ _ done.has in
            (λ honest. same.0 (settled.honest.0 (said.honest.0 honest)), λ honest. said.honest.1 (settled.honest.1 (same.1 honest)));
      };
    }
