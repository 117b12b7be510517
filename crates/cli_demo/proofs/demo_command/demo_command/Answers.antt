use Rattle.std.proofs.Common.{rules, ◌∙◌, inl}
use Rattle.log_disk.proofs.Counting.{CountsWhere-same_before}
use Rattle.cli_shared.proofs.AttachedLemmas.{leaves-attached}
use Rattle.cli_threads.proofs.EndingLemmas.{ended-same_attached, Concludes-counts_disk, ended-same_honest, Concludes-counts_write}
use Rattle.cli_demo.specs.Demo.{IsReadyDemo}
use Rattle.cli_demo.proofs.DemoLemmas.{answers-demo, IsFindingFault-answers_demo, same_images-only_looks, HoldsNoneOr-only_makes}
use Rattle.cli_demo.proofs.DemoLemmas.{Concludes-answer_to_demo, ready-created, Concludes-tells_whether, Concludes-tells_summary}
use Rattle.cli_demo.proofs.demo_command.demo_command.Goals as goal
use Rattle.cli_demo.proofs.demo_command.demo_command.Goals.{In-Ok-create}

pub returns-in-Err-clause-done : goal.returns-in-Err-clause-done
returns-in-Err-clause-done g c =
    let said = c.in-Err.ensures in
    record {
      answer = λ honest.
          IsFindingFault-answers_demo g.D.LogDisk _ _ _ c.args.disk.now c.finds_none.new.disk c.in-Err.detail said.fault
          (same_images-only_looks g.D.LogDisk c.args.disk.now c.finds_none.new.disk said.moments (said.reads honest) (said.count honest)) (said.count honest);
      text = search rules;
      range = search rules;
      exists = search rules;
      attached = search rules;
    }

pub returns-in_default-prepare_demo-clause-done : goal.returns-in_default-prepare_demo-clause-done
returns-in_default-prepare_demo-clause-done g c =
    record { answer = search rules; text = search rules; range = tt; exists = search rules; attached = search rules }

pub returns-in_default-create-clause-done : goal.returns-in_default-create-clause-done
returns-in_default-create-clause-done g c =
    let found = c.finds_none.ensures in
    let failed = c.create.ensures in
    record {
      answer = λ honest.
          inl (HoldsNoneOr-only_makes g.D.LogDisk c.args.disk.now c.finds_none.new.disk c.create.new.disk c.in-Ok.batch.units c.in-Ok.ensures.batch
          found.moments (found.count honest) (found.reads honest) (failed.moments (found.honest.0 honest)) (failed.count (found.honest.0 honest))
          (failed.length (found.honest.0 honest)));
      text = search rules;
      range = tt;
      exists = search rules;
      attached = search rules;
    }

-- the log is made, and the transfers are ready to be made over it
ready : (g : _) (c : In-Ok-create g) → IsReadyDemo g.D.LogDisk c.args.transfers c.args.seed c.args.options.now c.args.disk.now c.create.new.disk
    (record { prepared = c.in-Ok.prepared; tail = c.in-Ok-create.tail })
ready g c =
    let found = c.finds_none.ensures in
    let created = c.in-Ok-create.ensures in
    ready-created g.D.LogDisk _ _ _ (record { prepared = c.in-Ok.prepared; tail = c.in-Ok-create.tail }) c.in-Ok.ensures.prepared c.args.disk.now
    c.finds_none.new.disk c.create.new.disk c.in-Ok.batch.units c.in-Ok.ensures.batch (λ honest. created.created (created.honest.1 honest))
    (λ honest. created.shut (created.honest.1 honest)) created.place created.next
    (λ honest. HoldsNoneOr-only_makes g.D.LogDisk c.args.disk.now c.finds_none.new.disk c.create.new.disk c.in-Ok.batch.units c.in-Ok.ensures.batch
    found.moments (found.count honest) (found.reads honest) (created.moments (found.honest.0 honest)) (created.count (found.honest.0 honest))
    (created.length (found.honest.0 honest)))

pub finish-requires-clause-opened : goal.finish-requires-clause-opened
finish-requires-clause-opened g c = λ κs within. (ready g (goal.at.finish-requires-clause-opened g c).In-Ok-create).log

pub returns : goal.returns
returns g c =
    let found = c.finds_none.ensures in
    let created = c.in-Ok-create.ensures in
    let is = ready g (goal.at.returns g c).In-Ok-create in
    let done = c.finish.ensures in
    record {
      done = record {
        answer = λ honest. answers-demo g.D.LogDisk g.K.Sink _ _ _ c.requires.options c.requires.few _ _ _ _ _ _ _ _ is done.has honest
            (created.honest.0 (found.honest.0 honest)) c.finish.result done.concludes;
        text = Concludes-tells_summary g.D.LogDisk g.K.Sink _ _ _ c.requires.options c.requires.few _ _ _ _ _ _ _ _ is done.has c.finish.result done.concludes;
        range = Concludes-answer_to_demo g.D.LogDisk g.K.Sink _ _ _ c.requires.options c.requires.few _ _ _ _ _ _ _ _ is done.has c.finish.result done.concludes;
        exists = λ honest. Concludes-tells_whether g.D.LogDisk g.K.Sink _ _ _ c.requires.options c.requires.few _ _ _ _ _ _ _ _ is done.has _
            (rw c.in_default.is at (found.closed honest)) c.finish.result done.concludes;
        attached = λ honest. leaves-attached _ _ _ c.finish.result
            (ended-same_attached g.D.LogDisk g.K.Sink _ _ _ _ _ _ _ _ done.has ∙ (created.attached ∙ rw c.in_default.is at (found.attached honest)));
      };
      honest = let same = ended-same_honest g.D.LogDisk g.K.Sink _ _ _ _ _ _ _ _ done.has in
          (λ honest. same.0 (created.honest.0 (found.honest.0 honest)), λ honest. found.honest.1 (created.honest.1 (same.1 honest)));
      write = Concludes-counts_write g.D.LogDisk g.K.Sink _ _ _ _ _ _ _ _ done.has _ _ c.finish.result done.concludes done.write;
      disk = CountsWhere-same_before _ _ _ _ (search rules)
          (Concludes-counts_disk g.D.LogDisk g.K.Sink _ _ _ _ _ _ _ _ done.has _ _ c.finish.result done.concludes);
    }
