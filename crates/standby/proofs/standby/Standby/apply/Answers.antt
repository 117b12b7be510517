use Rattle.std.proofs.Common.{arith, ap, refl, sym, subst, length, ◌++◌, ◌∷◌, []}
use Rattle.ship_stream.specs.Came.Came.{Open}
use Rattle.log_recovery.specs.Opened.{list_end}
use Rattle.stream_reader.specs.Reader.{HasRead}
use Rattle.standby.proofs.AppliedFrames.{has_applied-push}
use Rattle.standby.proofs.StoppedStreams.{has_frame-is_frame, has_frame-batch_are_units_of, before, stops-judging, stops-writing}
use Rattle.standby.proofs.standby.Standby.apply.Goals as goal

pub returns-in-Err-clause-fault : goal.returns-in-Err-clause-fault
returns-in-Err-clause-fault g c = λ base fed frames records h.
    stops-judging g.D.LogDisk base fed frames records c.args.self.now h _
    (c.in-Err.ensures.fault (before g.D.LogDisk base fed frames records c.args.self.now h) records h.applied.kept.taken h.applied.kept.next
    (has_frame-batch_are_units_of g.D.LogDisk base fed frames records c.args.self.now h))

pub append-requires-clause-some : goal.append-requires-clause-some
append-requires-clause-some g c =
    let h = c.requires.frame in
    let is = has_frame-is_frame g.D.LogDisk h.0 h.1 h.2 h.3 c.args.self.now h.4 in
    omega (arith, is.some, ap length h.4.holds)

pub append-requires-clause-most : goal.append-requires-clause-most
append-requires-clause-most g c =
    let h = c.requires.frame in
    let is = has_frame-is_frame g.D.LogDisk h.0 h.1 h.2 h.3 c.args.self.now h.4 in
    omega (arith, is.most, ap length h.4.holds)

pub returns-in_default-append-clause-fault : goal.returns-in_default-append-clause-fault
returns-in_default-append-clause-fault g c = λ base fed frames records h.
    let spells = has_frame-batch_are_units_of g.D.LogDisk base fed frames records c.args.self.now h in
    stops-writing g.D.LogDisk base fed frames records c.args.self.now h g.met.D.LogDisk.counts_now g.met.D.LogDisk.only_now
    c.judge_frame.new.judge
    (c.in_default.ensures.taken _ records h.applied.kept.taken h.applied.kept.next spells)
    c.append.new.disk
    record {
      moments = c.append.ensures.moments;
      count = c.append.ensures.count;
      grows = c.append.ensures.length;
      later = c.append.ensures.later;
      honest = c.append.ensures.honest;
      attached = c.append.ensures.attached;
    }
    c.in_default-append.ensures.cause.failed

pub returns-clause-applied : goal.returns-clause-applied
returns-clause-applied g c = λ base fed frames records h.
    let spells = has_frame-batch_are_units_of g.D.LogDisk base fed frames records c.args.self.now h in
    let is = has_frame-is_frame g.D.LogDisk base fed frames records c.args.self.now h in
    let came = Open (list_end base.list) (frames ++ records ∷ []) in
    record {
      came = came;
      read = subst (λ b. HasRead (record c.args.self.now.reader { batch = b }) fed came) (sym c.append.ensures.batch) h.read;
      goes_on = refl;
      applied = has_applied-push g.D.LogDisk base frames c.args.self.now.judge c.args.self.now.tail c.args.self.now.disk.now h.applied
          records c.args.self.now.reader.batch.units h.holds is.spellable c.judge_frame.new.judge
          (c.in_default.ensures.taken _ records h.applied.kept.taken h.applied.kept.next spells)
          c.append.new.disk
          record {
            moments = c.append.ensures.moments;
            count = c.append.ensures.count;
            grows = c.append.ensures.length;
            later = c.append.ensures.later;
            honest = c.append.ensures.honest;
            attached = c.append.ensures.attached;
          }
          c.in-Ok.tail c.in-Ok.ensures.place c.in-Ok.ensures.next (omega (arith, is.some, ap length h.holds))
          c.in-Ok.ensures.appended (λ honest. c.in-Ok.ensures.shut honest) c.in-Ok.ensures.cause.fine;
    }
