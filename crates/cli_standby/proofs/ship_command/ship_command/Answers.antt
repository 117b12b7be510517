use Rattle.cli_shared.proofs.ToldLemmas.{Keeps-refl}
use Rattle.cli_reports.specs.Reports.{AnswersReport, IsAnswerAtLsn, RefusesLsn}
use Rattle.cli_reports.proofs.ReportLemmas.{source_fault-unsaid}
use Rattle.cli_reports.proofs.ReportedLemmas.{counts_read-err, counts_read-none, reported-fine, reported-none_written, reported-write}
use Rattle.cli_standby.proofs.ShipLemmas.{goes, rest-units, ship-cut, ship-fine, ship-refused}
use Rattle.cli_standby.proofs.ship_command.ship_command.Goals as goal
use Rattle.cli_standby.specs.Shipping.{SaysStream}

-- the input is no log, or couldn't be read
pub returns-in-Err : goal.returns-in-Err
returns-in-Err g c =
    let said = source_fault-unsaid (SaysStream c.args.from) (RefusesLsn c.args.from) _ _ (g.K.Sink.held_bytes c.args.out.now) c.in-Err.detail c.in-Err.ensures.err in
    reported-none_written g.S.Source g.K.Sink (AnswersReport (SaysStream c.args.from) (RefusesLsn c.args.from)) IsAnswerAtLsn _ _ _ _ said.at
    (counts_read-err _ _ _ c.in-Err.ensures.read) said.silent said.write said.answer

-- its list has no such boundary
pub returns-in_default : goal.returns-in_default
returns-in_default g c =
    reported-none_written g.S.Source g.K.Sink (AnswersReport (SaysStream c.args.from) (RefusesLsn c.args.from)) IsAnswerAtLsn _ _ _ _ tt
    (counts_read-none _ _ _ (c.in-Ok.ensures.read.fine (λ is. cc)) (λ tells. tells)) (Keeps-refl _) (λ tells. tells)
    (ship-refused (g.S.Source.left c.args.input.now) (g.S.Source.left c.read_log.new.source) c.in-Ok.both.0 c.in-Ok.both.1
    c.in-Ok.ensures.ok c.args.from _ c.as_slice.ensures (g.K.Sink.held_bytes c.args.out.now) (g.K.Sink.held_bytes c.args.out.now)
    c.in_default.ensures.none)

pub put_stream-requires : goal.put_stream-requires
put_stream-requires g c =
    let read = c.in-Ok.ensures.ok in
    let same = c.as_slice.ensures in (
      (goes (g.S.Source.left c.args.input.now) (g.S.Source.left c.read_log.new.source) c.in-Ok.both.0 c.in-Ok.both.1 read c.args.from _
          same c.in-Some.units.now c.in-Some.ensures.some).later,
      rest-units (g.S.Source.left c.args.input.now) (g.S.Source.left c.read_log.new.source) c.in-Ok.both.0 c.in-Ok.both.1 read
          c.args.from _ same c.in-Some.units.now c.in-Some.ensures.some,
    )

pub returns-in-Ok-put_stream : goal.returns-in-Ok-put_stream
returns-in-Ok-put_stream g c =
    let read = c.in-Ok.ensures.ok in
    let same = c.as_slice.ensures in
    reported-fine g.S.Source g.K.Sink (AnswersReport (SaysStream c.args.from) (RefusesLsn c.args.from)) IsAnswerAtLsn _ _ _ _ tt
    (c.in-Ok.ensures.read.fine (λ is. cc)) c.in-Ok-put_stream.ensures.cause.fine
    (ship-fine (g.S.Source.left c.args.input.now) (g.S.Source.left c.read_log.new.source) c.in-Ok.both.0 c.in-Ok.both.1 read c.args.from _
    same c.in-Some.units.now c.in-Some.ensures.some
    (g.K.Sink.held_bytes c.args.out.now) (g.K.Sink.held_bytes c.put_stream.new.sink)
    (c.in-Ok-put_stream.ensures.all _ (rest-units (g.S.Source.left c.args.input.now) (g.S.Source.left c.read_log.new.source)
    c.in-Ok.both.0 c.in-Ok.both.1 read c.args.from _ same c.in-Some.units.now c.in-Some.ensures.some)))

-- the writing failed
pub returns : goal.returns
returns g c =
    let read = c.in-Ok.ensures.ok in
    let same = c.as_slice.ensures in
    reported-write g.S.Source g.K.Sink (AnswersReport (SaysStream c.args.from) (RefusesLsn c.args.from)) IsAnswerAtLsn _ _ _ _ tt
    (c.in-Ok.ensures.read.fine (λ is. cc)) c.in-Err-put_stream.ensures.cause.failed
    (ship-cut (g.S.Source.left c.args.input.now) (g.S.Source.left c.read_log.new.source) c.in-Ok.both.0 c.in-Ok.both.1 read c.args.from _
    same c.in-Some.units.now c.in-Some.ensures.some
    (g.K.Sink.held_bytes c.args.out.now) (g.K.Sink.held_bytes c.put_stream.new.sink)
    (c.in-Err-put_stream.ensures.prefix _ (rest-units (g.S.Source.left c.args.input.now) (g.S.Source.left c.read_log.new.source)
    c.in-Ok.both.0 c.in-Ok.both.1 read c.args.from _ same c.in-Some.units.now c.in-Some.ensures.some)))
