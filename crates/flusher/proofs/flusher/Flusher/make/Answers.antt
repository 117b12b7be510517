use Rattle.std.proofs.Common.{sym, subst}
use Rattle.flusher.specs.KeptLog.{KeepsLog, sent_by, read_by}
use Rattle.flusher.proofs.Keeps.{KeepsLog-none_sent}
use Rattle.flusher.proofs.flusher.Flusher.make.Goals as goal

pub invariant_of-result : goal.invariant_of-result
invariant_of-result g c =
    let disk = c.args.disk.now in
    let sent = sent_by c.args.seat in
    let read = read_by c.args.seat in
    record {
      keeps = λ honest.
          let log = c.requires.log honest in
          let keeps = KeepsLog-none_sent g.D.LogDisk g.met.D.LogDisk.only_now disk c.args.tail sent read c.requires.unsent c.requires.unread
          (g.met.D.LogDisk.read_is_image disk honest) log.0 log.1 in
          ∣ subst (λ first. KeepsLog g.D.LogDisk first disk c.args.tail sent read) (sym c.of-first.ensures) keeps ∣₁;
    }
