use Rattle.std.proofs.Common.{inr, refl}
use Rattle.standby.specs.declared.fault.StandbyFault.TheVariants as stream
use Rattle.cli_standby.specs.Feeding.{begun}
use Rattle.cli_standby.proofs.FedLemmas.{no_memory-stops_feeding}
use Rattle.cli_standby.proofs.FollowLemmas.{fed-whole}
use Rattle.cli_standby.proofs.follow_command.follow_stream.Goals as goal

-- there was no memory for a standby
pub returns-in-Err-clause-stops : goal.returns-in-Err-clause-stops
returns-in-Err-clause-stops g c = λ list keeps.
    let left = g.S.Source.left c.args.input.now in
    rw c.in-Err.ensures.disk (no_memory-stops_feeding g.D.LogDisk list c.args.judge c.args.tail c.args.kept.disk.now left left keeps)

pub returns-in-Err-clause-range : goal.returns-in-Err-clause-range
returns-in-Err-clause-range g c = inr (stream.NoMemory, refl)

pub end_stream-ended-requires : goal.end_stream-ended-requires
end_stream-ended-requires g c =
    (begun c.requires.0 c.args.tail c.args.kept.disk.now, c.in-Ok.ensures.follows c.requires.0 c.requires.1)

pub returns-in-Ok-ended-clause-ok : goal.returns-in-Ok-ended-clause-ok
returns-in-Ok-ended-clause-ok g c = λ list keeps.
    let start = begun list c.args.tail c.args.kept.disk.now in
    fed-whole g.D.LogDisk start (g.S.Source.left c.args.input.now) (g.S.Source.left c.end_stream-ended.new.input) c.in-Ok-ended.lsn
    c.end_stream-ended.new.standby (c.in-Ok-ended.ensures.ok start (c.in-Ok.ensures.follows list keeps)) c.into_accounts.result.rows
    c.into_accounts.ensures

pub returns-clause-stops : goal.returns-clause-stops
returns-clause-stops g c = λ list keeps.
    c.in-Err-ended.ensures.stops (begun list c.args.tail c.args.kept.disk.now) (c.in-Ok.ensures.follows list keeps)
