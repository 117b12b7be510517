use Rattle.std.proofs.Common.{refl}
use Rattle.std.specs.Io.KnownBytes.{Appends}
use Rattle.log_disk.specs.Streams.{AppendsPart}
use Rattle.cli_shared.proofs.FaultsTold.{TellsFaults-not_write, TellsFaults-fine, TellsFaults-write}
use Rattle.cli_standby.proofs.FollowLemmas.{followed-whole, unsaid-is_answer_to_follow, silent-unsaid, unsaid-not_write}
use Rattle.cli_standby.proofs.follow_command.follow_command.Goals as goal

-- the stream wasn't followed to its end
pub returns-in-Err : goal.returns-in-Err
returns-in-Err g c =
    let said = c.in-Err.ensures in
    record {
      done = record {
        answer = λ honest. said.none honest (g.K.Sink.held_bytes c.args.out.now);
        silent = silent-unsaid (g.K.Sink.held_bytes c.args.out.now) c.in-Err.detail said.range;
        range = unsaid-is_answer_to_follow c.in-Err.detail said.range;
        attached = said.attached;
      };
      faults = TellsFaults-not_write g.D.LogDisk g.S.Source g.K.Sink _ _ c.in-Err.detail (unsaid-not_write c.in-Err.detail said.range) said.read refl said.disk said.honest;
    }

-- it was, and the accounts are written
pub returns-in-Ok-put_accounts : goal.returns-in-Ok-put_accounts
returns-in-Ok-put_accounts g c =
    let said = c.in-Ok.ensures in
    record {
      done = record {
        answer = λ honest. followed-whole g.D.LogDisk Appends _ _ _ _ _ _ _ _ (said.ok honest) c.in-Ok-put_accounts.ensures.all;
        silent = tt;
        range = tt;
        attached = said.attached;
      };
      faults = TellsFaults-fine g.D.LogDisk g.S.Source g.K.Sink _ _ (said.read.fine (λ is. cc)) c.in-Ok-put_accounts.ensures.cause.fine (said.disk.fine (λ is. cc)) said.honest;
    }

-- it was, and the writing failed
pub returns : goal.returns
returns g c =
    let said = c.in-Ok.ensures in
    record {
      done = record {
        answer = λ honest. followed-whole g.D.LogDisk AppendsPart _ _ _ _ _ _ _ _ (said.ok honest) c.in-Err-put_accounts.ensures.prefix;
        silent = tt;
        range = tt;
        attached = said.attached;
      };
      faults = TellsFaults-write g.D.LogDisk g.S.Source g.K.Sink _ _ (said.read.fine (λ is. cc)) c.in-Err-put_accounts.ensures.cause.failed (said.disk.fine (λ is. cc)) said.honest;
    }
