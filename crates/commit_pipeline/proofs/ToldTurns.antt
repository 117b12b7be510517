-- What a turn tells, behind what was told before it.
use Rattle.std.proofs.Common.{◌≡◌, ◌∙◌, sym, ap, subst, ℕ, [], ◌++◌, Result, Ok, Err, IfOk, IfErr}
use Rattle.log_disk.specs.declared.disk.LogDisk.{Ghosts}
use Rattle.log_disk.specs.declared.sink.Sink.{Ghosts as SinkGhosts}
use Rattle.log_rule.specs.declared.view.View.{View}
use Rattle.log_table.specs.Seats.{view_of}
use Rattle.end_lines.specs.declared.tally.Tally.{Tally}
use Rattle.end_lines.specs.declared.voice.Voice.{Voice}
use Rattle.daemon_turn.specs.declared.fault.DaemonFault.{DaemonFault}
use Rattle.daemon_turn.specs.declared.fault.DaemonFault.TheVariants.{DiskFault, WriteFault}
use Rattle.flusher.specs.declared.flusher.Flusher.{Flusher}
use Rattle.flusher.specs.Flushing.{Asks, Sends}
use Rattle.flusher.specs.declared.flusher.Drained.{Drained}
use Rattle.flusher.specs.declared.flusher.Drained.TheVariants.{At, Active, Behind}
use Rattle.daemon_turn.specs.declared.one_turn.Turn.{Turn}
use Rattle.daemon_turn.specs.declared.one_turn.Turn.TheVariants.{Idle, Sent}
use Rattle.daemon_turn.specs.OneTurn.{FindsAll, SendsAndTells, CannotSend, CannotTell, Made, Failed}
use Rattle.commit_pipeline.specs.Told.{HasTold, HasToldAll}
use Rattle.commit_pipeline.proofs.RanLemmas.{TellsFront-front}
use Rattle.commit_pipeline.proofs.ToldSoFar.{HasToldAll-has_told, HasToldAll-step, HasTold-step, HasToldAll-more, HasTold-more}

module _ {D : Type 0} {K : Type 0} (g : Ghosts D) (h : SinkGhosts K) (voice : Voice) (old new : Flusher D g) (sink sink' first : K)
    (tally tally' : Tally) (begun : View) (all : HasToldAll h first sink voice begun (view_of old.seat))
    (unread : (view_of old.seat).sending.read ≡ []) where
  abbrev now : View
  now = view_of old.seat

  -- what a flush sent is behind all that was sent
  sent-behind : (sent : Flusher D g) (from to : ℕ) (sends : Sends g old sent from to)
      → (view_of sent.seat).sending.sent ≡ now.sending.sent ++ sends.units
  sent-behind sent from to sends =
      ap (λ (v : View). v.sending.sent) (ap (λ m. m.0) sends.seat.me) ∙ ap (λ us. now.sending.sent ++ (us ++ sends.units)) unread

  told-idle : FindsAll g h voice old new sink sink' tally tally' → HasToldAll h first sink' voice begun (view_of new.seat)
  told-idle found =
      let is = ap (λ m. m.0) found.flush.seat.me in
      subst (λ s. HasToldAll h first s voice begun (view_of new.seat)) (sym found.sink_is)
      (HasToldAll-step h first voice begun sink now (view_of new.seat) (ap (λ (v : View). v.constants) is) all
      (ap (λ (v : View). v.sending.sent) is))

  told-sent : (lines to : ℕ) → SendsAndTells g h voice old new sink sink' tally tally' lines to
      → HasToldAll h first sink' voice begun (view_of new.seat)
  told-sent lines to sent =
      HasToldAll-more h first voice begun sink now (view_of new.seat) (ap (λ (v : View). v.constants) (ap (λ m. m.0) sent.flush.seat.me))
      all sent.flush.units sent.flush.records sent.flush.spelled (sent-behind new _ to sent.flush) sink' sent.text sent.appended
      sent.tells.text_is

  -- a turn that succeeded told all that it sent
  pub HasToldAll-made : (turn : Turn) → Made g h voice old new sink sink' tally tally' turn
      → HasToldAll h first sink' voice begun (view_of new.seat)
  HasToldAll-made Idle found = told-idle found
  HasToldAll-made (Sent lines to) sent = told-sent lines to sent

  -- the disk failed: nothing was told
  told-lost : CannotSend g h voice old new sink sink' tally tally' → HasTold h first sink' voice begun (view_of new.seat)
  told-lost lost =
      let read = ap (λ m. m.0) lost.flush.seat.me in
      let stopped = ap (λ m. m.0) lost.stops.seat.me in
      HasToldAll-has_told h first voice begun sink' (view_of new.seat)
      (subst (λ s. HasToldAll h first s voice begun (view_of new.seat)) (sym lost.sink_is)
      (HasToldAll-step h first voice begun sink now (view_of new.seat)
      (ap (λ (v : View). v.constants) stopped ∙ ap (λ (v : View). v.constants) read)
      all (ap (λ (v : View). v.sending.sent) stopped ∙ ap (λ (v : View). v.sending.sent) read)))

  -- the sink failed: a part of the lines was told
  told-cut : CannotTell g h voice old new sink sink' tally tally' → HasTold h first sink' voice begun (view_of new.seat)
  told-cut cut =
      let stopped = ap (λ m. m.0) cut.stops.seat.me in
      let (rest, lines) = TellsFront-front voice _ cut.flush.records cut.text tally tally' cut.tells in
      HasTold-step h first voice begun sink' (view_of cut.sent.seat) (view_of new.seat) (ap (λ (v : View). v.constants) stopped)
      (HasTold-more h first voice begun sink now (view_of cut.sent.seat)
      (ap (λ (v : View). v.constants) (ap (λ m. m.0) cut.flush.seat.me)) all
      cut.flush.units cut.flush.records cut.flush.spelled (sent-behind cut.sent _ cut.to cut.flush) sink' cut.text cut.appended rest lines)
      (ap (λ (v : View). v.sending.sent) stopped)

  told-failed : (fault : DaemonFault) → Failed g h voice old new sink sink' tally tally' fault
      → HasTold h first sink' voice begun (view_of new.seat)
  told-failed DiskFault lost = told-lost lost
  told-failed WriteFault cut = told-cut cut

  -- whatever it answers, what was told is a prefix of the lines of what was sent
  pub HasTold-turn : (result : Result Turn DaemonFault) → IfOk result (Made g h voice old new sink sink' tally tally')
      → IfErr result (Failed g h voice old new sink sink' tally tally') → HasTold h first sink' voice begun (view_of new.seat)
  HasTold-turn (Ok turn) made failed = HasToldAll-has_told h first voice begun sink' (view_of new.seat) (HasToldAll-made turn made)
  HasTold-turn (Err fault) made failed = told-failed fault failed

-- a question whether the log is drained sends nothing
module _ {D : Type 0} {g : Ghosts D} (old new : Flusher D g) where
  pub constants-asked : (answer : Drained) → Asks old new answer → (view_of new.seat).constants ≡ (view_of old.seat).constants
  constants-asked (At lsn) asks = ap (λ (m : View × _). m.0.constants) asks.2.me
  constants-asked (Active n) asks = ap (λ (m : View × _). m.0.constants) asks.1.me
  constants-asked (Behind exposed durable) asks = ap (λ (m : View × _). m.0.constants) asks.2.me

  pub sent-asked : (answer : Drained) → Asks old new answer → (view_of new.seat).sending.sent ≡ (view_of old.seat).sending.sent
  sent-asked (At lsn) asks = ap (λ (m : View × _). m.0.sending.sent) asks.2.me
  sent-asked (Active n) asks = ap (λ (m : View × _). m.0.sending.sent) asks.1.me
  sent-asked (Behind exposed durable) asks = ap (λ (m : View × _). m.0.sending.sent) asks.2.me

  pub stop-asked : (answer : Drained) → Asks old new answer → (view_of new.seat).sending.stop ≡ (view_of old.seat).sending.stop
  stop-asked (At lsn) asks = ap (λ (m : View × _). m.0.sending.stop) asks.2.me
  stop-asked (Active n) asks = ap (λ (m : View × _). m.0.sending.stop) asks.1.me
  stop-asked (Behind exposed durable) asks = ap (λ (m : View × _). m.0.sending.stop) asks.2.me
