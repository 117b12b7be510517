-- A log that is read batch by batch.
use Rattle.std.proofs.Common.{◌≡◌, ◌<◌, ◌≤◌, ◌∙◌, sym, ap, refl, subst, true, ℕ, ◌+◌, ◌*◌, List, [], ◌∷◌, ◌++◌, Option, length, drop, arith, length-append, length-drop, append_assoc, append-nil}
use Rattle.std.specs.List.{flat_map}
use Rattle.std.specs.Io.KnownBytes.{Consumes}
use Rattle.lsn_space.specs.declared.lsn.TheConstants.{LAST}
use Rattle.lsn_space.specs.Opening.{Opening}
use Rattle.segment_head.specs.Head.{head_magic, snapshot_bytes}
use Rattle.segment_head.proofs.HeadLemmas.{length-snapshot}
use Rattle.segment_file.specs.declared.layout.TheConstants.{OPEN}
use Rattle.segment_file.specs.declared.scan_result.ScanFault.TheVariants.{BadBatch}
use Rattle.segment_file.specs.File.{magic, batch, gated, BeginsOpen, HasNoBatch, IsCountedBatch}
use Rattle.segment_file.specs.Log.{Log, log_end, with_units, IsFront, first_format, second_format, ReadsTo, later_batch}
use Rattle.segment_file.specs.StandingLog.{tail_at}
use Rattle.segment_file.specs.Taking.{TakesFront}
use Rattle.segment_file.proofs.BatchLemmas.{length-batch}
use Rattle.segment_file.proofs.FileLemmas.{counted-more, gated-push}
use Rattle.segment_file.proofs.ScanLemmas.{read_units-push}
use Rattle.segment_file.proofs.StandingLemmas.{length-gated}
use Rattle.source_recovery.specs.Ahead.{TakesGated, TellsNext}
use Rattle.source_recovery.specs.Reading.{ReaderView, HasReadLog, EndsLog}
use Rattle.source_recovery.specs.ReadingFaults.{HasScanFault}
use Rattle.source_recovery.specs.Window.{WindowView, HasPassed, DropsRest}
use Rattle.source_recovery.proofs.AheadLemmas.{tells_next-closed, tells_next-no_batch}

-- ---- the bytes that are passed

-- a front
front-ReadsTo : (bytes units rest : List ℕ) (opening : Opening) (taken : TakesFront bytes opening units rest)
    → ReadsTo taken.front (record { opening = opening; units = units }) []
front-ReadsTo bytes units rest opening taken = record {
  front = taken.front;
  first = units;
  begins = taken.begins;
  batches = [];
  each = tt;
  units = sym (append-nil units);
  total = taken.total;
  whole = sym (append-nil (taken.front ++ []) ∙ append-nil taken.front);
}

-- a batch more
reads_to-batch_more : (passed units : List ℕ) (log : Log) → ReadsTo passed log [] → IsCountedBatch units
    → log_end log + length units ≤ LAST → ReadsTo (passed ++ gated units) (with_units log units) []
reads_to-batch_more passed units log reads counted fits = record {
  front = reads.front;
  first = reads.first;
  begins = reads.begins;
  batches = reads.batches ++ units ∷ [];
  each = counted-more reads.batches units reads.each counted;
  units = read_units-push reads.first reads.batches log.units units (log.units ++ units) reads.units refl;
  total = omega (arith, fits, length-append log.units units);
  whole =
      let recorded = reads.front ++ flat_map gated reads.batches in
      ap (λ list. list ++ gated units) (reads.whole ∙ append-nil recorded)
      ∙ append_assoc reads.front (flat_map gated reads.batches) (gated units) ∙ ap (λ list. reads.front ++ list) (sym (gated-push reads.batches units)) ∙ sym (append-nil _);
}

-- the bytes that follow
reads_to-rest : (passed rest : List ℕ) (log : Log) → ReadsTo passed log [] → ReadsTo (passed ++ rest) log rest
reads_to-rest passed rest log reads = record {
  front = reads.front;
  first = reads.first;
  begins = reads.begins;
  batches = reads.batches;
  each = reads.each;
  units = reads.units;
  total = reads.total;
  whole = ap (λ list. list ++ rest) (reads.whole ∙ append-nil (reads.front ++ flat_map gated reads.batches));
}

-- ---- how far they reach

front-length : (front units : List ℕ) (opening : Opening) → IsFront front opening units → length front ≤ 65536 + 8 * length units
front-length front units opening (first_format nothing counted is) =
    omega (
      arith,
      ap length is,
      length-append magic (batch units),
      length-batch (batch units ++ []) units [] refl,
      length-append (batch units) [],
    )
front-length front units opening (second_format held none is) =
    let most = held.most in omega (arith, most, ap length is, length-append head_magic (snapshot_bytes opening), length-snapshot opening)

-- a front that was taken, by how many bytes it has
taken_front-count : (bytes units : List ℕ) (opening : Opening) (count : ℕ) (taken : TakesFront bytes opening units (drop count bytes))
    → count ≤ length bytes → length taken.front ≡ count
taken_front-count bytes units opening count taken within =
    omega (arith, within, ap length taken.whole, length-append taken.front (drop count bytes), length-drop count bytes)

pub taken_front-bound : (bytes units : List ℕ) (opening : Opening) (count : ℕ) → TakesFront bytes opening units (drop count bytes)
    → count ≤ length bytes → count ≤ 65536 + 13 * (opening.lsn + length units)
taken_front-bound bytes units opening count taken within =
    omega (arith, taken_front-count bytes units opening count taken within, front-length taken.front units opening taken.begins)

-- a batch that was taken, with its gate
module _ (begin : ℕ) (old bytes new : List ℕ) (count : ℕ) (batch_taken : TakesGated begin old bytes new count) where
  gated-whole : bytes ≡ gated batch_taken.taken.units ++ drop count bytes
  gated-whole = batch_taken.gate ∙ ap (λ list. OPEN ∷ list) batch_taken.taken.front

  gated-count : length (gated batch_taken.taken.units) ≡ count
  gated-count =
      omega (
        arith,
        batch_taken.within,
        ap length gated-whole,
        length-append (gated batch_taken.taken.units) (drop count bytes),
        length-drop count bytes,
      )

  pub gated-end : begin + length new ≡ begin + length old + length batch_taken.taken.units
  gated-end = omega (arith, ap length batch_taken.taken.added, length-append old batch_taken.taken.units)

  pub taken_batch-bound : count ≤ 13 * length batch_taken.taken.units
  taken_batch-bound = omega (arith, gated-count, length-gated batch_taken.taken.units, batch_taken.taken.counted.some)

-- ---- readers

-- a part of the window is passed
part-passed : (first now : Option (List ℕ)) (old new : WindowView) (passed part rest : List ℕ) → HasPassed first now old passed
    → old.ahead ≡ part ++ rest → new ≡ record old { ahead = rest } → HasPassed first now new (passed ++ part)
part-passed first now old new passed part rest before whole left =
    let ahead : new.ahead ≡ rest = ap (λ (w : WindowView). w.ahead) left in record {
      given = subst (Consumes first now)
          (ap (λ list. passed ++ list) (whole ∙ ap (λ list. part ++ list) (sym ahead)) ∙ sym (append_assoc passed part new.ahead)) before.given;
      end = λ is. before.end (sym (ap (λ (w : WindowView). w.ended) left) ∙ is);
    }

-- behind a front
pub front-HasReadLog : (first now : Option (List ℕ)) (window : WindowView) (reader : ReaderView) (opening : Opening) (units : List ℕ)
    (count : ℕ) → HasPassed first now window [] → TakesFront window.ahead opening units (drop count window.ahead) → count ≤ length window.ahead
    → reader.window ≡ record window { ahead = drop count window.ahead } → reader.at ≡ count → reader.next ≡ opening.lsn + length units
    → HasReadLog first now reader (record { opening = opening; units = units })
front-HasReadLog first now window reader opening units count before taken within left at next = record {
  passed = taken.front;
  given = part-passed first now window reader.window [] taken.front (drop count window.ahead) before taken.whole left;
  reads = front-ReadsTo window.ahead units (drop count window.ahead) opening taken;
  at = at ∙ sym (taken_front-count window.ahead units opening count taken within);
  next = next;
}

-- more is read into the window
pub awaited-HasReadLog : (first before now : Option (List ℕ)) (window awaited : WindowView) (at next : ℕ) (old : ReaderView) (log : Log)
    → record { window = window; at = at; next = next } ≡ old
    → ((passed : List ℕ) → HasPassed first before window passed → HasPassed first now awaited passed) → HasReadLog first before old log
    → HasReadLog first now (record { window = awaited; at = at; next = next }) log
awaited-HasReadLog first before now window awaited at next old log same fills read =
    let was = subst (λ reader. HasReadLog first before reader log) (sym same) read in
    record { passed = was.passed; given = fills was.passed was.given; reads = was.reads; at = was.at; next = was.next }

-- a batch more
pub batch-HasReadLog : (first now : Option (List ℕ)) (old new : ReaderView) (log : Log) (begin : ℕ) (units units_new : List ℕ) (count : ℕ)
    (taken : TakesGated begin units old.window.ahead units_new count) → HasReadLog first now old log → old.next ≡ begin + length units
    → new.window ≡ record old.window { ahead = drop count old.window.ahead } → new.at ≡ old.at + count → new.next ≡ begin + length units_new
    → HasReadLog first now new (with_units log taken.taken.units)
batch-HasReadLog first now old new log begin units units_new count taken read start left at next =
    let more = taken.taken.units in
    let end = gated-end begin units old.window.ahead units_new count taken in
    record {
      passed = read.passed ++ gated more;
      given = part-passed first now old.window new.window read.passed (gated more) (drop count old.window.ahead) read.given
          (gated-whole begin units old.window.ahead units_new count taken) left;
      reads = reads_to-batch_more read.passed more log read.reads taken.taken.counted
          (omega (arith, taken.taken.total, end, start, read.next));
      at = omega (
        arith,
        at,
        read.at,
        length-append read.passed (gated more),
        gated-count begin units old.window.ahead units_new count taken,
      );
      next = omega (arith, next, end, start, read.next, length-append log.units more);
    }

-- ---- the end of the batches

module _ (first before now : Option (List ℕ)) (reader : ReaderView) (log : Log) (read : HasReadLog first before reader log)
    (dropped : DropsRest first now reader.window read.passed)
    (tells : (rest : List ℕ) → (reader.window.ended ≡ true → rest ≡ []) → TellsNext reader.window.ahead rest) where
  abbrev ahead : List ℕ
  ahead = reader.window.ahead

  told : TellsNext ahead dropped.rest
  told = tells dropped.rest dropped.none

  place-whole : reader.at + length (ahead ++ dropped.rest) ≡ length (read.passed ++ (ahead ++ dropped.rest))
  place-whole = omega (arith, read.at, length-append read.passed (ahead ++ dropped.rest))

  -- the gate isn't open
  pub closed-EndsLog : (BeginsOpen ahead → ⊥) → EndsLog first now (tail_at reader.at reader.next) log
  closed-EndsLog closed = record {
    bytes = read.passed ++ (ahead ++ dropped.rest);
    gave = dropped.gave;
    stands = record {
      held = record {
        rest = ahead ++ dropped.rest;
        reads = reads_to-rest read.passed (ahead ++ dropped.rest) log read.reads;
        closed = tells_next-closed ahead dropped.rest told closed;
      };
      place = place-whole;
      next = read.next;
    };
  }

  -- no batch follows the open gate
  pub no_batch-HasScanFault : (body : List ℕ) → ahead ≡ OPEN ∷ body → 0 < length body → HasNoBatch reader.next body
      → HasScanFault first now (BadBatch reader.at)
  no_batch-HasScanFault body gate some none =
      let follows : ahead ++ dropped.rest ≡ OPEN ∷ (body ++ dropped.rest) = ap (λ list. list ++ dropped.rest) gate in
      record {
        bytes = read.passed ++ (ahead ++ dropped.rest);
        gave = dropped.gave;
        is = later_batch log (record {
          body = body ++ dropped.rest;
          some = omega (arith, some, length-append body dropped.rest);
          reads = subst (ReadsTo _ log) follows (reads_to-rest read.passed (ahead ++ dropped.rest) log read.reads);
          place = omega (arith, place-whole, ap length follows);
          none = subst (λ end. HasNoBatch end (body ++ dropped.rest)) read.next
              (tells_next-no_batch ahead dropped.rest body reader.next told gate none);
        });
        no_want = λ same. cc;
      }
