use Rattle.std.proofs.Common.{◌∙◌, ap, sym, subst}
use Rattle.standby.specs.declared.standby.Standby.{Standby}
use Rattle.cli_standby.specs.Feeding.{HasFedEnd, StopsFeeding}
use Rattle.cli_standby.proofs.FedLemmas.{counts-no-read, feed_ends_err-any_made, stops_feeding-feed_ends, stops-early}
use Rattle.cli_standby.proofs.follow_command.end_stream.Goals as goal

-- not all of the input was fed
pub returns-in-Err : goal.returns-in-Err
returns-in-Err g c = feed_ends_err-any_made g.D.LogDisk g.S.Source _ _ _ _ _ _ _ c.in-Err.ensures

pub end-requires : goal.end-requires
end-requires g c =
    let all = c.in_default.ensures.ok c.requires.0 c.requires.1 in
    record { ready = (c.requires.0, all.has.fed, all.has.follows) }

pub returns-in-Ok : goal.returns-in-Ok
returns-in-Ok g c = record {
  ok = λ base follows.
      let all = c.in_default.ensures.ok base follows in
      record {
        fed = all.has.fed;
        taken = all.has.taken;
        all = all.all;
        followed = c.in-Ok.ensures.ended base all.has.fed all.has.follows;
      };
  stops = tt;
  range = tt;
  read = counts-no-read _ _ _ (λ is. cc) (c.in_default.ensures.read.fine (λ is. cc));
  same = ap (λ (s : Standby _). s.disk.ghost_name) c.end.ensures.unchanged ∙ c.in_default.ensures.same;
}

-- the stream goes on behind the input
pub returns-in-Err-end : goal.returns-in-Err-end
returns-in-Err-end g c =
    let left = g.S.Source.left c.args.input.now in
    let left_new = g.S.Source.left c.feed_all.new.input in
    let said = c.in_default.ensures in
    rw c.detail_of_stream.ensures (stops_feeding-feed_ends g.D.LogDisk g.S.Source
    (λ base lsn. HasFedEnd g.D.LogDisk base left left_new lsn c.end.new.self) c.args.standby.now c.end.new.self c.args.input.now
    c.feed_all.new.input c.in-Err-end.fault (λ base follows.
    let all = said.ok base follows in
    subst (StopsFeeding g.D.LogDisk base _ _ _) (ap (λ (s : Standby _). s.disk.now) (sym c.end.ensures.unchanged))
    (stops-early g.D.LogDisk base left left_new c.feed_all.new.standby all.has all.all c.in-Err-end.fault
    (c.in-Err-end.ensures.bad base all.has.fed all.has.follows)))
    (said.read.fine (λ is. cc)) (ap (λ (s : Standby _). s.disk.ghost_name) c.end.ensures.unchanged ∙ said.same))
