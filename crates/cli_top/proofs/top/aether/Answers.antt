use Rattle.std.proofs.Common.{◌∙◌, sym, ap, subst}
use Rattle.command_line.specs.declared.command.Command.TheVariants.{New, Run, Recover, Dump, Demo, Cut, Upgrade, Ship, Follow, AsOf, Statement}
use Rattle.cli_shared.specs.Answers.{status_of}
use Rattle.cli_shared.specs.World.{World, world}
use Rattle.cli_top.specs.Answered.{Answered}
use Rattle.cli_top.proofs.AnsweredLemmas.{Answered-costs, Answered-does_command, Answered-tells_faults, Answered-not_taken_detail}
use Rattle.cli_top.proofs.AnsweredLemmas.{Answered-not_taken_same, Answered-stays_silent, Answered-disk_same, Answered-usage_not_taken}
use Rattle.cli_top.proofs.CompletenessLemmas.{account-complete, boundary-complete, cut-complete, dump-complete, new-complete, recover-complete}
use Rattle.cli_top.proofs.DemoCompleteness.{demo-complete}
use Rattle.cli_top.proofs.FollowCompleteness.{follow-complete}
use Rattle.cli_top.proofs.RunCompleteness.{run-complete}
use Rattle.cli_top.proofs.top.aether.Goals as goal

pub returns : goal.returns
returns g c =
    let words = c.args.words.now in
    let old = world c.args.disk.now c.args.script.now c.args.out.now in
    let new = world c.answer.new.disk c.answer.new.script c.answer.new.out in
    let detail = c.of.result.detail in
    let came : Answered g.D.LogDisk g.S.Source g.K.Sink words old new detail =
    subst (Answered g.D.LogDisk g.S.Source g.K.Sink words old new) (sym c.of.ensures.detail) c.answer.ensures in
    let faults = Answered-tells_faults _ _ _ words old new detail came in
    let done = Answered-does_command _ _ _ words old new detail came in
    record {
      status = c.of.ensures.status ∙ ap status_of (sym c.of.ensures.detail);
      usage = Answered-usage_not_taken _ _ _ words old new detail came;
      refused = Answered-not_taken_detail _ _ _ words old new detail came;
      unread = λ none. ap (λ (w : World _ _ _). w.input) (Answered-not_taken_same _ _ _ words old new detail came none);
      unwritten = λ none. ap (λ (w : World _ _ _). w.out) (Answered-not_taken_same _ _ _ words old new detail came none);
      untouched = Answered-disk_same _ _ _ words old new detail came;
      recover = λ asked. let did = done Recover asked in
          record { does = did; complete = recover-complete _ _ _ _ detail did.report.answer };
      dump = λ asked. let did = done Dump asked in
          record { does = did; complete = dump-complete _ _ _ _ detail did.report.answer };
      new = λ log asked. let did = done (New log) asked in record {
        does = did;
        complete = λ found. new-complete _ _ _ _ _ detail did.answer (did.exists found.0.0) found.0.1 found.1;
      };
      run = λ log options asked. let did = done (Run log options) asked in record {
        does = did;
        complete = λ found. run-complete g.D.LogDisk _ _ _ _ _ _ _ detail (did.answer found.0) found.1;
      };
      demo = λ log n seed options asked. let did = done (Demo log n seed options) asked in record {
        does = did;
        complete = λ found. demo-complete _ detail did.demonstrated.range (did.demonstrated.exists found.0) found.1;
      };
      cut = λ log asked. let did = done (Cut log) asked in record {
        does = did;
        complete = λ found. cut-complete _ _ _ _ _ detail did.answer (did.exists found.0.0) found.0.1 found.1;
      };
      upgrade = λ log asked. let did = done (Upgrade log) asked in record {
        does = did;
        complete = λ found. cut-complete _ _ _ _ _ detail did.answer (did.exists found.0.0) found.0.1 found.1;
      };
      ship = λ from asked. let did = done (Ship from) asked in
          record { does = did; complete = boundary-complete _ from _ _ _ _ detail did.report.answer };
      asof = λ lsn asked. let did = done (AsOf lsn) asked in
          record { does = did; complete = boundary-complete _ lsn _ _ _ _ detail did.report.answer };
      statement = λ account asked. let did = done (Statement account) asked in
          record { does = did; complete = account-complete _ account _ _ _ _ detail did.report.answer };
      follow = λ log asked. let did = done (Follow log) asked in record {
        does = did;
        complete = λ found. follow-complete g.D.LogDisk _ _ _ _ _ _ detail (did.answer found.0) found.1;
      };
      count = Answered-costs _ _ _ words old new detail came;
      silent = Answered-stays_silent _ _ _ words old new detail came;
      honest = faults.honest;
      read = faults.read;
      write = faults.write;
      disk = faults.disk;
    }
