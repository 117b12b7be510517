use Rattle.std.proofs.Common.{◌*◌, ◌∙◌, ap, refl, subst, sym}
use Rattle.cli_shared.proofs.FaultsTold.{TellsFaults-not_write, TellsFaults-fine, TellsFaults-write}
use Rattle.cli_shared.proofs.ToldLemmas.{TellsWrite}
use Rattle.cli_new.proofs.AnswerLemmas.{answers_new-fine, answers_new-write, making_fault-unmade}
use Rattle.cli_new.proofs.new_command.new_command.Goals as goal

-- no log is made
pub returns-in-Err : goal.returns-in-Err
returns-in-Err g c =
    let made = c.in-Err.ensures in
    let told = making_fault-unmade _ _ _ c.in-Err.detail made.err in
    record {
      done = record {
        answer = told.answer;
        silent = told.silent;
        range = told.range;
        images = made.images;
        made = λ honest follows. absurd (told.follows follows);
        kept = made.kept;
        unchanged = made.unchanged;
        exists = made.exists;
        count = made.count;
        attached = made.attached;
        grows = made.grows;
      };
      faults = TellsFaults-not_write g.D.LogDisk g.S.Source g.K.Sink _ _ c.in-Err.detail (λ is. told.write (subst TellsWrite (sym is) tt)) made.read refl made.disk made.honest;
    }

-- the log is made, and its text written
pub returns-in-Ok-put_accounts : goal.returns-in-Ok-put_accounts
returns-in-Ok-put_accounts g c = record {
  done = record {
    answer = answers_new-fine _ _ _ _ c.in-Ok.accounts _ c.in-Ok.ensures.ok
        (c.new.ensures ∙ ap (λ count. 2 * count) c.count.ensures) c.in-Ok-put_accounts.ensures.all;
    silent = tt;
    range = tt;
    images = c.in-Ok.ensures.images;
    made = λ honest follows. c.in-Ok.ensures.made honest;
    kept = λ precedes. absurd precedes;
    unchanged = λ honest precedes. absurd precedes;
    exists = c.in-Ok.ensures.exists;
    count = c.in-Ok.ensures.count;
    attached = c.in-Ok.ensures.attached;
    grows = c.in-Ok.ensures.grows;
  };
  faults = TellsFaults-fine g.D.LogDisk g.S.Source g.K.Sink _ _ (c.in-Ok.ensures.read.fine (λ is. cc)) c.in-Ok-put_accounts.ensures.cause.fine
      (c.in-Ok.ensures.disk.fine (λ is. cc)) c.in-Ok.ensures.honest;
}

-- the log is made, and the writing failed
pub returns : goal.returns
returns g c = record {
  done = record {
    answer = answers_new-write _ _ _ _ c.in-Ok.accounts _ c.in-Ok.ensures.ok
        (c.new.ensures ∙ ap (λ count. 2 * count) c.count.ensures) c.in-Err-put_accounts.ensures.prefix;
    silent = tt;
    range = tt;
    images = c.in-Ok.ensures.images;
    made = λ honest follows. c.in-Ok.ensures.made honest;
    kept = λ precedes. absurd precedes;
    unchanged = λ honest precedes. absurd precedes;
    exists = c.in-Ok.ensures.exists;
    count = c.in-Ok.ensures.count;
    attached = c.in-Ok.ensures.attached;
    grows = c.in-Ok.ensures.grows;
  };
  faults = TellsFaults-write g.D.LogDisk g.S.Source g.K.Sink _ _ (c.in-Ok.ensures.read.fine (λ is. cc)) c.in-Err-put_accounts.ensures.cause.failed
      (c.in-Ok.ensures.disk.fine (λ is. cc)) c.in-Ok.ensures.honest;
}
