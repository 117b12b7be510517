-- What a turn's parts come to.
use Rattle.std.proofs.Common.{◌≡◌, ◌≤◌, ◌∙◌, sym, ap, subst, refl, ℕ, ◌+◌, ◌++◌, List, length, length-append, arith}
use Rattle.std.specs.Io.KnownBytes.{Appends}
use Rattle.log_disk.specs.declared.disk.LogDisk.{Ghosts}
use Rattle.log_disk.specs.declared.sink.Sink.{Ghosts as SinkGhosts}
use Rattle.log_disk.specs.Faults.{Rose}
use Rattle.log_record.specs.LogList.{AreUnitsOf}
use Rattle.log_record.specs.declared.rec.Rec.{Rec}
use Rattle.log_rule.specs.declared.view.View.{View}
use Rattle.log_rule.specs.Views.{has_stopped, sent_to}
use Rattle.log_table.specs.declared.table.Seat.{Seat}
use Rattle.log_table.specs.Seats.{Becomes, view_of}
use Rattle.end_lines.specs.declared.tally.Tally.{Tally}
use Rattle.end_lines.specs.declared.voice.Voice.{Voice}
use Rattle.end_lines.specs.Telling.{TellsAll, TellsFront}
use Rattle.daemon_turn.specs.declared.fault.DaemonFault.TheVariants.{DiskFault, WriteFault}
use Rattle.daemon_turn.specs.StopWord.{stop_word}
use mathlib.Core.Logic.{∥∥₁_map}
use Rattle.flusher.specs.declared.flusher.Flusher.{Flusher}
use Rattle.flusher.specs.KeptLog.{KeepsLog, StandsInAll, read_by, sent_by}
use Rattle.flusher.proofs.Flushes.{IsSameSeat-becomes}
use Rattle.flusher.proofs.Keeps.{KeepsLog-same, StandsFrom-last_units}
use Rattle.flusher.specs.SentUnits.{flushed}
use Rattle.flusher.specs.Flushing.{MayFlush, IsSame, FindsNothing, Sends, Loses, sent_of}
use Rattle.daemon_turn.specs.OneTurn.{MayGoOn, Stops, FindsAll, SendsAndTells, CannotSend, CannotTell}
use Rattle.daemon_turn.proofs.SameLemmas.{IsSame-changes_seat, IsSame-trans}

module _ {D : Type 0} (g : Ghosts D) (old sent : Flusher D g) (from to : ℕ) (sends : Sends g old sent from to) where
  -- the flush began at durable
  abbrev pub from_durable : Sends g old sent (sent_to (view_of old.seat)) to
  from_durable = subst (λ n. Sends g old sent n to) sends.durable sends

  -- what is told of the batch is told of the records sent
  pub batch-sent_records : (P : ℕ → List Rec → Type 0) → ((records : List Rec) → AreUnitsOf sent.batch.units records → P from records)
      → P (sent_to (view_of old.seat)) from_durable.records
  batch-sent_records P told = subst (λ n. P n from_durable.records) sends.durable (told from_durable.records
      (subst (λ us. AreUnitsOf us from_durable.records) (sym (ap (λ b. b.units) from_durable.batch)) from_durable.spelled))

module _ {D : Type 0} {K : Type 0} (g : Ghosts D) (h : SinkGhosts K) (voice : Voice) (old : Flusher D g) (sink : K) (tally : Tally) where
  -- the flush found nothing to send
  pub FindsAll-found : (new : Flusher D g) (at : ℕ) → FindsNothing old new at → FindsAll g h voice old new sink sink tally tally
  FindsAll-found new at finds = record {
    flush = subst (λ n. FindsNothing old new n) finds.durable finds;
    sink_is = refl;
    tally_is = refl;
  }

  -- the disk failed, and then the stop word was stored
  pub CannotSend-stop : (lost new : Flusher D g) → Loses g old lost → Stops (stop_word DiskFault) lost new
      → Rose (g.faults old.disk.now) (g.faults lost.disk.now) → CannotSend g h voice old new sink sink tally tally
  CannotSend-stop lost new flush stops rose = record {
    lost = lost;
    flush = flush;
    stops = stops;
    sink_is = refl;
    tally_is = refl;
    rose = ap (λ f. g.faults f.disk.now) stops.rest.1 ∙ rose;
  }

  -- such a text was written, and so the batch is told
  abbrev pub WritesOf : Flusher D g → K → (List ℕ → List Rec → Type 0) → Type 0
  WritesOf sent sink' Tells = (text : List ℕ) × Appends (h.held_bytes sink) (h.held_bytes sink') text
      × ((records : List Rec) → AreUnitsOf sent.batch.units records → Tells text records)

  module _ (sent : Flusher D g) (sink' : K) (tally' : Tally) (from to : ℕ) (sends : Sends g old sent from to)
      (disk_fine : g.faults sent.disk.now ≡ g.faults old.disk.now) where
    -- the lines of the batch are those of the records sent
    pub SendsAndTells-told : (lines : ℕ) → WritesOf sent sink' (λ text records. TellsAll voice from records text lines tally tally')
        → h.faults sink' ≡ h.faults sink → SendsAndTells g h voice old sent sink sink' tally tally' lines to
    SendsAndTells-told lines (text, appended, tells) sink_fine = record {
      flush = from_durable g old sent from to sends;
      text = text;
      appended = appended;
      tells = batch-sent_records g old sent from to sends (λ n records. TellsAll voice n records text lines tally tally') tells;
      disk_fine = disk_fine;
      sink_fine = sink_fine;
    }

    -- the sink failed, and then the stop word was stored
    pub CannotTell-stop : (new : Flusher D g) → WritesOf sent sink' (λ text records. TellsFront voice from records text tally tally')
        → Rose (h.faults sink) (h.faults sink') → Stops (stop_word WriteFault) sent new
        → CannotTell g h voice old new sink sink' tally tally'
    CannotTell-stop new (text, appended, tells) rose stops = record {
      to = to;
      sent = sent;
      flush = from_durable g old sent from to sends;
      stops = stops;
      text = text;
      appended = appended;
      tells = batch-sent_records g old sent from to sends (λ n records. TellsFront voice n records text tally tally') tells;
      rose = rose;
      disk_fine = ap (λ f. g.faults f.disk.now) stops.rest.1 ∙ disk_fine;
    }

-- a further turn may be made: nothing was sent
pub MayGoOn-found : {D : Type 0} (g : Ghosts D) (old new : Flusher D g) (tally : Tally) (at : ℕ) → FindsNothing old new at
    → MayGoOn g old tally → MayFlush g new → MayGoOn g new tally
MayGoOn-found g old new tally at finds ready may =
    let is = ap (λ m. m.0) finds.seat.me in
    record {
      flusher = may;
      running = ap (λ (v : View). v.sending.stop) is ∙ ready.running;
      counted = omega (arith, ready.counted, ap (λ (v : View). length v.sending.sent) is);
    }

-- records were sent, and no more end records counted than they have units
pub Sends-counted_le_sent : {D : Type 0} (g : Ghosts D) (old new : Flusher D g) (tally tally' : Tally) (from to : ℕ) → Sends g old new from to
    → tally.done + tally.refused ≤ length (sent_of old)
    → tally'.done + tally'.refused ≤ (tally.done + tally.refused) + length new.batch.units
    → tally'.done + tally'.refused ≤ length (sent_of new)
Sends-counted_le_sent g old new tally tally' from to sends counted few =
    let is = ap (λ m. m.0) sends.seat.me in
    let sending = (view_of old.seat).sending in
    omega (
      arith,
      counted,
      few,
      ap (λ b. length b.units) sends.batch,
      ap (λ (v : View). length v.sending.sent) is,
      length-append sending.sent (sending.read ++ sends.units),
      length-append sending.read sends.units,
    )

-- what a flush lost was not sent
pub sent-lost : {D : Type 0} (g : Ghosts D) (old lost : Flusher D g) → Loses g old lost → length (sent_of lost) ≡ length (sent_of old)
sent-lost g old lost loses = ap (λ (v : View). length v.sending.sent) (ap (λ m. m.0) loses.seat.me)

-- the stop word adds nothing to what was sent
pub sent-stop : (old new : Seat) (word : ℕ) → Becomes old new (has_stopped word (view_of old))
    → length (sent_by new) ≡ length (sent_by old)
sent-stop old new word becomes = ap (λ (v : View). length v.sending.sent) (ap (λ m. m.0) becomes.me)

-- or records were sent, and no more end records counted than they have units
pub MayGoOn-sent : {D : Type 0} (g : Ghosts D) (old new : Flusher D g) (tally tally' : Tally) (from to : ℕ) → Sends g old new from to
    → MayGoOn g old tally → MayFlush g new
    → tally'.done + tally'.refused ≤ (tally.done + tally.refused) + length new.batch.units → MayGoOn g new tally'
MayGoOn-sent g old new tally tally' from to sends ready may few =
    let is = ap (λ m. m.0) sends.seat.me in
    record {
      flusher = may;
      running = ap (λ (v : View). v.sending.stop) is ∙ ready.running;
      counted = Sends-counted_le_sent g old new tally tally' from to sends ready.counted few;
    }

-- steps of the seat alone that send and read nothing leave what the disk keeps as it was
pub KeepsLog-same_sent_read : {D : Type 0} {g : Ghosts D} (f : Flusher D g) (seat : Seat) → sent_by seat ≡ sent_by f.seat
    → read_by seat ≡ read_by f.seat → g.honest f.disk.now → ∥ KeepsLog g f.first.value f.disk.now f.tail (sent_by seat) (read_by seat) ∥₁
KeepsLog-same_sent_read {g = g} f seat sent read honest =
    ∥∥₁_map (f.keeps honest) (λ keeps. KeepsLog-same g f.first.value f.disk.now f.tail _ _ keeps _ _ sent read)

pub KeepsLog-has_stopped : {D : Type 0} {g : Ghosts D} (f : Flusher D g) (seat : Seat) (word : ℕ)
    → Becomes f.seat seat (has_stopped word (view_of f.seat)) → g.honest f.disk.now
    → ∥ KeepsLog g f.first.value f.disk.now f.tail (sent_by seat) (read_by seat) ∥₁
KeepsLog-has_stopped f seat word becomes =
    let is = ap (λ m. m.0) becomes.me in
    KeepsLog-same_sent_read f seat (ap (λ (v : View). v.sending.sent) is) (ap (λ (v : View). v.sending.read) is)

-- the stop word was stored: it is the same flusher
pub IsSame-stop : {D : Type 0} (g : Ghosts D) (old mid new : Flusher D g) (word : ℕ) → IsSame g old mid → Stops word mid new
    → IsSame g old new
IsSame-stop g old mid new word same stops = IsSame-trans g old mid new same
    (IsSame-changes_seat g mid new stops.rest (IsSameSeat-becomes _ _ _ stops.seat refl refl refl) (ap (λ m. m.0.standing) stops.seat.me))

-- what a flush sent stands in each image
module _ {D : Type 0} (g : Ghosts D) (old new : Flusher D g) (from to : ℕ) (was : MayFlush g old) (may : MayFlush g new)
    (sends : Sends g old new from to) where
  view-sent : view_of new.seat ≡ flushed to sends.units (view_of old.seat)
  view-sent = ap (λ m. m.0) sends.seat.me

  sent-behind : sent_of new ≡ sent_of old ++ new.batch.units
  sent-behind = ap (λ (v : View). v.sending.sent) view-sent ∙ ap (λ us. sent_of old ++ (us ++ sends.units)) was.unread
      ∙ ap (λ us. sent_of old ++ us) (sym (ap (λ b. b.units) sends.batch))

  sent-end : new.tail.next ≡ from + length new.batch.units
  sent-end = omega (
    arith,
    may.next,
    sends.durable,
    ap (λ (v : View). v.constants.start) view-sent,
    ap length sent-behind,
    length-append (sent_of old) new.batch.units,
  )

  pub StandsInAll-sent : StandsInAll g new.disk.now from new.batch.units
  StandsInAll-sent honest c image =
      ∥∥₁_map (new.keeps honest) (λ keeps. StandsFrom-last_units g new.first.value new.disk.now new.tail (sent_of new)
      (view_of new.seat).sending.read keeps (ap (λ (v : View). v.sending.read) view-sent) (sent_of old) new.batch.units sent-behind from
      sent-end c image)
