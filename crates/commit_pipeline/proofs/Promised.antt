-- What a daemon that was made just now, and then made turns, left on the disk and wrote: by what its flusher and it keep at every moment.
use Rattle.std.proofs.Common.{◌≡◌, ◌∙◌, sym, ap, refl, subst, inl, inr, ⊎_elim, ℕ, List, [], ◌∷◌, ◌++◌, length, drop, length-append, arith, Option, Some, None}
use Rattle.std.proofs.Props.{props}
use Rattle.std.proofs.lemmas.List.Elements.{All-from_recursion}
use Rattle.std.specs.Io.KnownBytes.{Appends}
use Rattle.std.specs.List.{AllByRecursion}
use Rattle.std.proofs.Math.Seq.{drop-append_seam}
use mathlib.Core.Logic.{∥∥₁_elim}
use Rattle.log_disk.specs.declared.disk.LogDisk.{Ghosts}
use Rattle.log_disk.specs.declared.sink.Sink.{Ghosts as SinkGhosts}
use Rattle.log_disk.specs.Streams.{AppendsPrefix}
use Rattle.log_record.specs.declared.rec.Rec.{Rec}
use Rattle.log_record.specs.LogList.{units_of}
use Rattle.log_record.specs.Spelling.{IsSpellable}
use Rattle.log_record.proofs.SpellingLemmas.{units_of-injective}
use Rattle.log_rule.specs.declared.view.View.{View}
use Rattle.log_rule.specs.Views.{sent_to}
use Rattle.log_table.specs.Seats.{view_of}
use Rattle.segment_file.specs.Log.{Log, with_units, HoldsLog}
use Rattle.segment_file.specs.StandingLog.{LogStands, HoldsLogOrMore}
use Rattle.segment_file.proofs.LogLemmas.{with_units-nil}
use Rattle.segment_file.proofs.OneReading.{one_reading-log, HoldsLog-prop}
use Rattle.daemon_turn.specs.declared.fault.DaemonFault.{DaemonFault}
use Rattle.daemon_turn.specs.declared.fault.DaemonFault.TheVariants.{DiskFault, WriteFault}
use Rattle.end_lines.specs.EndLines.{text_of}
use Rattle.flusher.specs.Flushing.{sent_of}
use Rattle.flusher.specs.KeptLog.{KeepsLog, sent_by, read_by}
use Rattle.commit_pipeline.specs.declared.daemon.Daemon.{Daemon}
use Rattle.commit_pipeline.specs.Told.{HasTold, SentSince}
use Rattle.commit_pipeline.specs.Later.{Ran, InFlight}
use Rattle.commit_pipeline.specs.Turning.{IsMade, durable}

-- a log with units and without them are two
log-longer : (log : Log) (unit : ℕ) (units : List ℕ) → log ≡ with_units log (unit ∷ units) → ⊥
log-longer log unit units same = omega (arith, ap (λ (l : Log). length l.units) same, length-append log.units (unit ∷ units))

-- which of the two logs bytes hold is one fact
either-prop : (log : Log) (unit : ℕ) (units bytes : List ℕ) → IsProp (HoldsLogOrMore log (unit ∷ units) bytes)
either-prop log unit units bytes (inl a) (inl b) = ap inl (HoldsLog-prop bytes log a b)
either-prop log unit units bytes (inr a) (inr b) = ap inr (HoldsLog-prop bytes (with_units log (unit ∷ units)) a b)
either-prop log unit units bytes (inl a) (inr b) = absurd (log-longer log unit units (one_reading-log bytes _ _ a b))
either-prop log unit units bytes (inr a) (inl b) = absurd (log-longer log unit units (one_reading-log bytes _ _ b a))

pub HoldsLogOrMore-certain : (log : Log) (units bytes : List ℕ) → ∥ HoldsLogOrMore log units bytes ∥₁ → HoldsLogOrMore log units bytes
HoldsLogOrMore-certain log [] bytes either =
    inl (∥∥₁_elim either (HoldsLog-prop bytes log) (λ held. ⊎_elim (λ is. is) (λ is. subst (HoldsLog bytes) (with_units-nil log) is) held))
HoldsLogOrMore-certain log (unit ∷ units) bytes either = ∥∥₁_elim either (either-prop log unit units bytes) (λ held. held)

-- what was written, where that is known
record Written (xs ys all : List ℕ) : Type 0 where
  text : ys ≡ xs ++ drop (length xs) ys
  rest : all ≡ drop (length xs) ys ++ drop (length (drop (length xs) ys)) all

Written-prop : (xs ys all : List ℕ) → IsProp (Written xs ys all)
Written-prop xs ys all = hlevel props

written-prefix : (xs ys all : List ℕ) → AppendsPrefix (Some xs) (Some ys) all → Written xs ys all
written-prefix xs ys all (text, rest, whole, appended) =
    let text_is : drop (length xs) ys ≡ text = ap (drop (length xs)) appended ∙ drop-append_seam xs text in
    let rest_is : drop (length (drop (length xs) ys)) all ≡ rest =
    ap (λ t. drop (length t) all) text_is ∙ ap (drop (length text)) whole ∙ drop-append_seam text rest in
    record { text = appended ∙ ap (λ t. xs ++ t) (sym text_is); rest = whole ∙ (λ i. sym text_is i ++ sym rest_is i) }

prefix-certain : (old new : Option (List ℕ)) (all : List ℕ) → ∥ AppendsPrefix old new all ∥₁ → AppendsPrefix old new all
prefix-certain None new all appends = ([], all, refl, tt)
prefix-certain (Some xs) None all appends = absurd (∥∥₁_elim appends (λ a b. absurd a) (λ prefix. prefix.3))
prefix-certain (Some xs) (Some ys) all appends =
    let written = ∥∥₁_elim appends (Written-prop xs ys all) (λ prefix. written-prefix xs ys all prefix) in
    (drop (length xs) ys, drop (length (drop (length xs) ys)) all, written.rest, written.text)

-- what was read is what is in flight
pub in_flight-read : (fault : Option DaemonFault) (view : View) (cut : List Rec) → InFlight fault view cut
    → view.sending.read ≡ units_of cut
in_flight-read None view cut flight = flight.1 ∙ ap units_of (sym flight.0)
in_flight-read (Some DiskFault) view cut flight = flight
in_flight-read (Some WriteFault) view cut flight = flight.1 ∙ ap units_of (sym flight.0)

-- the first of some spellable records are
spellable-left : (xs ys : List Rec) → AllByRecursion IsSpellable (xs ++ ys) → AllByRecursion IsSpellable xs
spellable-left [] ys each = tt
spellable-left (x ∷ xs) ys each = (each.0, spellable-left xs ys each.1)

module _ {D : Type 0} {K : Type 0} (g : Ghosts D) (h : SinkGhosts K) (old new : Daemon D K g h) (made : IsMade old)
    (ran : Ran g h old new) where
  -- all that was sent since the daemon was made are the records of the turns
  sent-all : sent_of new.flusher ≡ units_of ran.more
  sent-all = ran.sent ∙ ap (λ us. us ++ units_of ran.more) made.unsent

  module _ (honest : g.honest old.flusher.disk.now) (opened : Log)
      (stood : LogStands old.flusher.tail opened (g.images old.flusher.disk.now)) where
    first-now : new.flusher.first.value ≡ old.flusher.disk.now
    first-now = ran.same.flusher.first ∙ made.disk

    held-now : (c : List ℕ) → g.images new.flusher.disk.now c
        → KeepsLog g new.flusher.first.value new.flusher.disk.now new.flusher.tail (sent_by new.flusher.seat) (read_by new.flusher.seat)
        → HoldsLogOrMore (with_units opened (units_of ran.more)) (units_of ran.cut) c
    held-now c image keeps =
        let read = g.reads new.flusher.first.value in
        let same : keeps.opened ≡ opened = one_reading-log read keeps.opened opened (keeps.began read keeps.shown)
        (stood read (subst (λ d. g.images d read) first-now keeps.shown)).held in
        subst (λ (log : Log). HoldsLogOrMore (with_units log (units_of ran.more)) (units_of ran.cut) c) same
        (subst (λ us. HoldsLogOrMore (with_units keeps.opened us) (units_of ran.cut) c) sent-all
        (subst (λ us. HoldsLogOrMore (with_units keeps.opened (sent_of new.flusher)) us c)
        (in_flight-read new.fault (view_of new.flusher.seat) ran.cut ran.in_flight) (keeps.now c image)))

    -- each image holds the log that stood and the records sent, or with them those in flight
    pub Ran-images_hold : (c : List ℕ) → g.images new.flusher.disk.now c
        → HoldsLogOrMore (with_units opened (units_of ran.more)) (units_of ran.cut) c
    Ran-images_hold c image = HoldsLogOrMore-certain (with_units opened (units_of ran.more)) (units_of ran.cut) c
        (∥∥₁_elim (new.flusher.keeps (ran.same.flusher.honest.0 honest)) squash₁ (λ keeps. ∣ held-now c image keeps ∣₁))

  same-records : (begun now : View) → (since : SentSince begun now) → begun.sending.sent ≡ [] → now.sending.sent ≡ units_of ran.more
      → since.more ≡ ran.more
  same-records begun now since none sent =
      units_of-injective since.more ran.more (All-from_recursion IsSpellable since.more since.spellable)
      (All-from_recursion IsSpellable ran.more (spellable-left ran.more ran.cut ran.spellable))
      (sym (since.sent ∙ ap (λ us. us ++ units_of since.more) none) ∙ sent)

  begun-unsent : (view_of new.begun.value).sending.sent ≡ []
  begun-unsent = ap (λ seat. (view_of seat).sending.sent) (ran.same.begun ∙ made.seat) ∙ made.unsent

  -- the lines of what was sent since it was made are those of the turns
  text-same : (since : SentSince (view_of new.begun.value) (view_of new.flusher.seat))
      → text_of new.voice (sent_to (view_of new.begun.value)) since.more ≡ text_of old.voice (durable old) ran.more
  text-same since =
      let more = same-records (view_of new.begun.value) (view_of new.flusher.seat) since begun-unsent sent-all in
      let start = ap (λ seat. sent_to (view_of seat)) (ran.same.begun ∙ made.seat) in
      λ i. text_of (ran.same.voice i) (start i) (more i)

  sink-first : new.first.value ≡ old.sink.now
  sink-first = ran.same.first ∙ made.sink

  told-prefix : HasTold h new.first.value new.sink.now new.voice (view_of new.begun.value) (view_of new.flusher.seat)
      → AppendsPrefix (h.held_bytes old.sink.now) (h.held_bytes new.sink.now) (text_of old.voice (durable old) ran.more)
  told-prefix has =
      subst (λ first. AppendsPrefix (h.held_bytes first) (h.held_bytes new.sink.now) (text_of old.voice (durable old) ran.more)) sink-first
      (subst (AppendsPrefix (h.held_bytes new.first.value) (h.held_bytes new.sink.now)) (text-same has.since) has.told)

  -- a prefix of the lines of what was sent was written
  pub Ran-appends_prefix : AppendsPrefix (h.held_bytes old.sink.now) (h.held_bytes new.sink.now) (text_of old.voice (durable old) ran.more)
  Ran-appends_prefix = prefix-certain (h.held_bytes old.sink.now) (h.held_bytes new.sink.now) (text_of old.voice (durable old) ran.more)
      (∥∥₁_elim new.told squash₁ (λ has. ∣ told-prefix has ∣₁))

  -- and all of them where the daemon has no fault
  pub Ran-appends_all : new.fault ≡ None
      → Appends (h.held_bytes old.sink.now) (h.held_bytes new.sink.now) (text_of old.voice (durable old) ran.more)
  Ran-appends_all fine =
      let has = (ran.may_turn fine).all_told in
      subst (λ first. Appends (h.held_bytes first) (h.held_bytes new.sink.now) (text_of old.voice (durable old) ran.more)) sink-first
      (subst (Appends (h.held_bytes new.first.value) (h.held_bytes new.sink.now)) (text-same has.since) has.told)
