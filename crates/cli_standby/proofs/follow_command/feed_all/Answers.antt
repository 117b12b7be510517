use Rattle.std.proofs.Common.{rules, ◌∙◌, inl, refl, [], take}
use Rattle.std.proofs.KnownBytes.{Consumes-nil}
use Rattle.log_disk.proofs.Counting.{CountsWhere-same_before}
use Rattle.cli_standby.proofs.FedLemmas.{counts-no-read, stops_feeding-feed_ends, fed-end, fed-failed_read, fed-more, fed-none, fed-stopped, read_failed-stops_feeding}
use Rattle.cli_standby.proofs.follow_command.feed_all.Goals as goal

pub pieces-init : goal.pieces-init
pieces-init g c = record {
  ready = (c.requires.0, [], c.requires.1);
  fed = λ base follows. fed-none g.D.LogDisk base (g.S.Source.left c.args.input.now) (g.S.Source.left c.args.input.now) c.args.standby.now
      (Consumes-nil (g.S.Source.left c.args.input.now)) follows;
  no_fault = refl;
  same = refl;
}

-- the end of the input
pub returns-in-Ok-eq0 : goal.returns-in-Ok-eq0
returns-in-Ok-eq0 g c =
    let said = c.in-Ok-eq0.ensures in
    record {
      ok = λ base follows.
          fed-end g.D.LogDisk base (g.S.Source.left c.args.input.now) (g.S.Source.left c.pieces.input)
          (g.S.Source.left c.read.new.self) c.pieces.standby c.in-Ok-eq0.field-0 c.read.new.buf (c.pieces.invariant.fed base follows)
          (search rules) said.bytes.0 (said.bytes.1 (search rules) (search rules));
      stops = tt;
      range = tt;
      read = counts-no-read _ _ _ (λ is. cc) (said.cause.fine ∙ c.pieces.invariant.no_fault);
      same = c.pieces.invariant.same;
    }

-- a read that failed
pub returns-in-Err : goal.returns-in-Err
returns-in-Err g c =
    let left = g.S.Source.left c.args.input.now in
    record {
      ok = tt;
      stops = λ base follows.
          read_failed-stops_feeding g.D.LogDisk base left (g.S.Source.left c.read.new.self) c.pieces.standby
          (fed-failed_read g.D.LogDisk base left (g.S.Source.left c.pieces.input) (g.S.Source.left c.read.new.self) c.pieces.standby
          (c.pieces.invariant.fed base follows) c.in-Err.ensures.bytes);
      range = inl refl;
      read = CountsWhere-same_before _ _ _ _ c.pieces.invariant.no_fault
          (record { counted = λ is. c.in-Err.ensures.cause.failed; fine = λ other. absurd (other refl) });
      same = c.pieces.invariant.same;
    }

pub pieces-preserved : goal.pieces-preserved
pieces-preserved g c = record {
  ready = (
    c.pieces.invariant.ready.0,
    _,
    c.in-Ok-feed.ensures.follows c.pieces.invariant.ready.0 c.pieces.invariant.ready.1
        c.pieces.invariant.ready.2,
  );
  fed = λ base follows.
      let has = c.pieces.invariant.fed base follows in
      fed-more g.D.LogDisk base (g.S.Source.left c.args.input.now) (g.S.Source.left c.pieces.input) (g.S.Source.left c.read.new.self)
      c.pieces.standby c.feed.new.self (take c.in-Ok.count c.read.new.buf) has c.in-Ok.ensures.bytes.0
      (c.in-Ok-feed.ensures.follows base has.fed has.follows);
  no_fault = c.in-Ok.ensures.cause.fine ∙ c.pieces.invariant.no_fault;
  same = c.feed.ensures.same ∙ c.pieces.invariant.same;
}

-- the standby goes no further
pub returns-in-Err-feed : goal.returns-in-Err-feed
returns-in-Err-feed g c =
    rw c.detail_of_stream.ensures (stops_feeding-feed_ends g.D.LogDisk g.S.Source _ _ _ _ _ c.in-Err-feed.fault (λ base follows.
    let has = c.pieces.invariant.fed base follows in
    fed-stopped g.D.LogDisk base (g.S.Source.left c.args.input.now) (g.S.Source.left c.pieces.input)
    (g.S.Source.left c.read.new.self) c.pieces.standby (take c.in-Ok.count c.read.new.buf) has c.in-Ok.ensures.bytes.0 c.in-Err-feed.fault
    c.feed.new.self.disk.now (c.in-Err-feed.ensures.stops base has.fed has.follows))
    (c.in-Ok.ensures.cause.fine ∙ c.pieces.invariant.no_fault) (c.feed.ensures.same ∙ c.pieces.invariant.same))
