use Rattle.std.proofs.Common.{rules, ◌≡◌, subst}
use Rattle.std.proofs.lemmas.Result.{err_from_is_err_and}
use Rattle.log_disk.specs.Attachment.{existing}
use Rattle.cli_standby.specs.Feeding.{FollowEnds}
use Rattle.cli_standby.proofs.FollowLemmas.{ends-unopened, follow-ends}
use Rattle.cli_standby.proofs.follow_command.follow.Goals as goal

-- the log wasn't opened
pub returns-in_err-tail : goal.returns-in_err-tail
returns-in_err-tail g c =
    let failed = err_from_is_err_and c.from_residual.result c.from_residual.ensures.1 in
    let same : failed.0 ≡ c.in_err-tail.field-0.0 = search rules in
    let left = g.S.Source.left c.args.input.now in
    let said = c.in_err-tail.ensures in
    rw (failed.1, same) (ends-unopened g.D.LogDisk g.S.Source (existing c.args.log.now) c.args.disk.now c.open_standby.new.disk
    c.args.input.now c.in_err-tail.field-0.0 (λ honest. said.none honest left left) said.range said.honest said.attached said.disk)

-- the stream was followed as far as it goes
pub returns : goal.returns
returns g c =
    let said = c.in_ok-tail.ensures in
    let fed = c.follow_stream-kept.ensures in
    let at : c.follow_stream-kept.result.disk.now ≡ c.disk-1.given.0 = search rules in
    subst (λ d. FollowEnds g.D.LogDisk g.S.Source (existing c.args.log.now) c.args.disk.now d c.args.input.now
    c.follow_stream-kept.new.input c.follow_stream-kept.new.followed) at
    (follow-ends g.D.LogDisk g.S.Source c.args.disk.now c.open_standby.new.disk c.in_ok-tail.tail c.in_ok-tail.judge said.opened
    (existing c.args.log.now) c.args.input.now c.follow_stream-kept.new.input c.follow_stream-kept.result.disk.now said.honest
    said.attached (said.disk.fine (λ is. cc)) c.follow_stream-kept.new.followed fed.ok fed.stops fed.range fed.read)
