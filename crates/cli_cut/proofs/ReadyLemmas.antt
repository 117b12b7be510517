-- A log that is written in batches: what is known before each record, at a call that fails, and once all batches are written.
use Rattle.std.proofs.Common.{◌≡◌, ◌≤◌, ◌<◌, ◌↔◌, ◌^◌, ◌∙◌, inl, refl, ap, sym, subst, Err, ℕ, ◌+◌, ◌*◌, true, false, if◌then◌else◌, nat_le, List, []}
use Rattle.std.proofs.Common.{◌∷◌, ◌++◌, append-nil, length, length-append, map, take, drop, arith}
use Rattle.std.specs.List.{AllByRecursion}
use Rattle.std.proofs.Math.Seq.{take-append_seam}
use Rattle.std.proofs.lemmas.List.{take-append-drop}
use Rattle.log_disk.specs.Costs.{Costs}
use Rattle.log_disk.specs.Disk.{Leaves}
use Rattle.log_disk.specs.Faults.{Rose}
use Rattle.log_disk.specs.Lengths.{GrowsAtMostTo}
use Rattle.log_disk.specs.declared.disk.LogDisk.{Ghosts}
use Rattle.log_disk.proofs.Moments.{Leaves-trans, Leaves-weaken}
use Rattle.lsn_space.specs.Opening.{Opening, IsSnapshot}
use Rattle.lsn_space.specs.declared.lsn.TheConstants.{LAST}
use Rattle.log_record.specs.declared.rec.Rec.{Rec}
use Rattle.log_record.specs.LogList.{AreUnitsOf, units_of, end_of, size_of}
use Rattle.log_record.specs.Spelling.{spelling, IsSpellable, BeginsWith}
use Rattle.log_record.proofs.BoundLemmas.{length-spelling}
use Rattle.log_recovery.specs.Opened.{OpenedList, log_of}
use Rattle.log_recovery.proofs.AnswerLemmas.{spelling_append-not_none}
use Rattle.segment_file.specs.declared.layout.TheConstants.{MOST_UNITS}
use Rattle.segment_file.specs.declared.scan_result.Tail.{Tail}
use Rattle.segment_file.specs.File.{BeginsAsLog, joined}
use Rattle.segment_file.specs.Log.{Log, cut_log, with_units}
use Rattle.segment_cut.specs.Underway.{HoldsNoneOrBatches, IsUnderway}
use Rattle.ship_stream.specs.Frames.{packed_behind}
use Rattle.cli_cut.specs.Batches.{batches_of}
use Rattle.cli_cut.specs.Writing.{WritesLog}
use Rattle.cli_cut.proofs.WritingLemmas.{IsWriting, writing-begun, writing-flushed, packed_behind-no_room, writing-taken}

-- before a record, whatever records the units spell
pub record IsReady {D : Type 0} (g : Ghosts D) (begun : D) (opening : Opening) (units : List ℕ) (now : D) (tail : Tail) (waiting : List ℕ) (room : ℕ)
    (rest : List ℕ) : Type 0 where
  pub writing : (records : List Rec) → AreUnitsOf units records → IsWriting g opening records begun now tail waiting rest
  pub room_is : room ≡ MOST_UNITS
  pub later : g.moment begun ≤ g.moment now
  pub honest : (g.honest begun → g.honest now) × (g.honest now → g.honest begun)
  pub attached : g.attached now ≡ g.attached begun
  pub faults : g.faults now ≡ g.faults begun

-- all batches are written, behind a first gate that is closed
pub record IsGathered {D : Type 0} (g : Ghosts D) (begun : D) (opening : Opening) (units : List ℕ) (now : D) : Type 0 where
  pub tail : Tail
  pub underway : g.honest begun → (records : List Rec) → AreUnitsOf units records
      → IsUnderway tail (record { opening = opening; units = units }) (batches_of records) (g.reads now) (g.images now)
  pub moments : g.honest begun → Leaves g.moment g.images_since (λ c. BeginsAsLog c → ⊥) begun now
  pub grows : g.honest begun → (records : List Rec) → AreUnitsOf units records
      → GrowsAtMostTo g (21 + 12 * length opening.accounts + 5 * length (batches_of records) + 8 * length units) begun now
  pub count : g.honest begun → (records : List Rec) → AreUnitsOf units records
      → Costs g (3 + length (batches_of records)) (4 + length (batches_of records)) begun now
  pub later : g.moment begun ≤ g.moment now
  pub honest : (g.honest begun → g.honest now) × (g.honest now → g.honest begun)
  pub attached : g.attached now ≡ g.attached begun
  pub faults : g.faults now ≡ g.faults begun

-- ---- records and units

-- units that begin with no record are of none
none-left : (rest : List ℕ) (left : List Rec) → AllByRecursion IsSpellable left → rest ≡ units_of left → ((rec : Rec) → BeginsWith rest rec → ⊥) → left ≡ []
none-left rest [] each is none = refl
none-left rest (rec ∷ left) each is none = absurd (none rec (each.0, units_of left, is))

-- no units are those of no record
none-waits : (waits : List Rec) → [] ≡ units_of waits → waits ≡ []
none-waits [] is = refl
none-waits (rec ∷ waits) is = absurd (spelling_append-not_none rec (units_of waits) (sym is))

-- records with units are the last batch
last-waits : (waiting : List ℕ) (waits : List Rec) → waiting ≡ units_of waits → 0 < length waiting → packed_behind MOST_UNITS waits [] ≡ waits ∷ packed_behind MOST_UNITS [] []
last-waits waiting [] is some = absurd (omega (arith, some, ap length is))
last-waits waiting (rec ∷ waits) is some = refl

-- records that wait are a batch or more, with those behind them
some-packed : (rec : Rec) (waits left : List Rec) → 0 < length (map units_of (packed_behind MOST_UNITS (rec ∷ waits) left))
some-packed rec waits [] = omega arith
some-packed rec waits (next ∷ left) =
    elim (nat_le (end_of (rec ∷ waits) + size_of next) MOST_UNITS)
    as (λ b. 0 < length (map units_of (if b then packed_behind MOST_UNITS ((rec ∷ waits) ++ next ∷ []) left else (rec ∷ waits) ∷ packed_behind MOST_UNITS (next ∷ []) left)))
    [ true ↦ some-packed rec (waits ++ next ∷ []) left | false ↦ omega arith ]

some-batch : (waiting : List ℕ) (waits left : List Rec) → waiting ≡ units_of waits → 0 < length waiting → 0 < length (map units_of (packed_behind MOST_UNITS waits left))
some-batch waiting [] left is some = absurd (omega (arith, some, ap length is))
some-batch waiting (rec ∷ waits) left is some = some-packed rec waits left

none-there : (waiting : List ℕ) → length waiting ≡ 0 → waiting ≡ []
none-there [] none = refl
none-there (unit ∷ waiting) none = absurd (omega (arith, none))

-- the units of the record that a rest begins with
own-units : (rest own : List ℕ) (rec : Rec) (size : ℕ) → BeginsWith rest rec → size ≡ size_of rec → own ≡ take size rest → own ≡ spelling rec
own-units rest own rec size begins size_is front =
    front ∙ ap (λ n. take n rest) size_is ∙ ap (take (size_of rec)) begins.2 ∙ take-append_seam (spelling rec) begins.1

-- before a record that doesn't fit some wait
pub no_room-some_waiting : (waiting : ℕ) (rec : Rec) → IsSpellable rec → MOST_UNITS < waiting + size_of rec → 0 < waiting
no_room-some_waiting waiting rec spellable full = omega (arith, full, length-spelling rec spellable)

module _ {D : Type 0} (g : Ghosts D) (begun : D) (opening : Opening) (units : List ℕ) where
  -- ---- before a record

  pub ready-begun : (now : D) (tail : Tail) (room : ℕ) → (g.honest begun → IsUnderway tail (cut_log opening) [] (g.reads now) (g.images now))
      → (g.honest begun → Leaves g.moment g.images_since (λ c. BeginsAsLog c → ⊥) begun now) → tail.at ≡ 20 + 12 * length opening.accounts
      → tail.next ≡ opening.lsn → (g.honest begun → GrowsAtMostTo g (21 + 12 * length opening.accounts) begun now)
      → (g.honest begun → Costs g 3 4 begun now) → room ≡ MOST_UNITS → g.moment begun ≤ g.moment now
      → (g.honest begun → g.honest now) × (g.honest now → g.honest begun) → g.attached now ≡ g.attached begun → g.faults now ≡ g.faults begun
      → IsReady g begun opening units now tail [] room units
  ready-begun now tail room underway moments at next grows count room_is later honest attached faults = record {
    writing = λ records are. writing-begun g opening records begun now tail units are underway moments at next grows count;
    room_is = room_is;
    later = later;
    honest = honest;
    attached = attached;
    faults = faults;
  }

  -- a call failed before the first gate was opened
  failed-log : {T E : Type 0} (error : E) (new : D)
      → (g.honest begun → (records : List Rec) → AreUnitsOf units records → Leaves g.moment g.images_since (λ c. BeginsAsLog c → ⊥) begun new)
      → (g.honest begun → (records : List Rec) → AreUnitsOf units records → Costs g (6 + length (batches_of records)) (7 + length (batches_of records)) begun new)
      → (g.honest begun → (records : List Rec) → AreUnitsOf units records
      → GrowsAtMostTo g (21 + 12 * length opening.accounts + 5 * length (batches_of records) + 8 * length units) begun new) → g.moment begun ≤ g.moment new
      → (g.honest begun ↔ g.honest new) → g.attached new ≡ g.attached begun → g.faults begun ≤ g.faults new → Rose (g.faults begun) (g.faults new)
      → WritesLog {T = T} g opening units begun new (Err error)
  failed-log error new moments count grows later honest attached more rose = record {
    moments = λ first made is are. Leaves-weaken g.moment g.images_since (λ c. BeginsAsLog c → ⊥)
        (HoldsNoneOrBatches (log_of made) (batches_of made.records)) begun new (λ c none. inl none) (moments first made.records are);
    made = λ first. tt;
    count = count;
    grows = grows;
    later = later;
    honest = honest;
    attached = attached;
    cause = record { later = more; fine = tt; failed = rose };
  }

  -- the head couldn't be written
  pub head_failed-writes_log : {T E : Type 0} (error : E) (new : D) → (g.honest begun → Leaves g.moment g.images_since (λ c. BeginsAsLog c → ⊥) begun new)
      → (g.honest begun → Costs g 3 4 begun new) → (g.honest begun → GrowsAtMostTo g (21 + 12 * length opening.accounts) begun new)
      → g.moment begun ≤ g.moment new → (g.honest begun ↔ g.honest new) → g.attached new ≡ g.attached begun → g.faults begun ≤ g.faults new
      → Rose (g.faults begun) (g.faults new) → WritesLog {T = T} g opening units begun new (Err error)
  head_failed-writes_log error new moments count grows = failed-log error new (λ first records are. moments first)
      (λ first records are. record { successes = omega (arith, (count first).successes); calls = omega (arith, (count first).calls) })
      (λ first records are. omega (arith, grows first))

  -- the same, of what is equal
  pub ready-same : (now new : D) (tail after : Tail) (waiting waits rest : List ℕ) (room rooms : ℕ) → new ≡ now → after ≡ tail → waits ≡ waiting
      → rooms ≡ room → IsReady g begun opening units now tail waiting room rest → IsReady g begun opening units new after waits rooms rest
  ready-same now new tail after waiting waits rest room rooms disk_is tail_is waits_is room_is =
      subst (λ (state : D × Tail × List ℕ × ℕ). IsReady g begun opening units state.0 state.1 state.2 state.3 rest)
      (λ i. (sym disk_is i, sym tail_is i, sym waits_is i, sym room_is i))

  module _ (now : D) (tail : Tail) (waiting rest : List ℕ) (room : ℕ) (ready : IsReady g begun opening units now tail waiting room rest) where
    -- a record that fits waits too
    pub ready-taken : (rec : Rec) (own behind : List ℕ) (size : ℕ) → BeginsWith rest rec → size ≡ size_of rec → length waiting + size ≤ MOST_UNITS
        → own ≡ take size rest → behind ≡ drop size rest → IsReady g begun opening units now tail (waiting ++ own) room behind
    ready-taken rec own behind size begins size_is fits front back = record {
      writing = λ records are. writing-taken g opening records begun now tail waiting rest rec own behind (ready.writing records are) begins
          (omega (arith, fits, size_is)) ((λ i. front i ++ back i) ∙ take-append-drop size rest) (own-units rest own rec size begins size_is front)
          (back ∙ ap (λ n. drop n rest) size_is);
      room_is = ready.room_is;
      later = ready.later;
      honest = ready.honest;
      attached = ready.attached;
      faults = ready.faults;
    }

    module _ (some : (records : List Rec) × AreUnitsOf units records) where
      abbrev pub writing : IsWriting g opening some.0 begun now tail waiting rest
      writing = ready.writing some.0 some.1

      -- as many units as are written, wait and are left
      pub units_length-split : length units ≡ length (joined writing.done) + length waiting + length rest
      units_length-split = omega (
        arith,
        ap length (some.1.units_are ∙ writing.whole),
        length-append (joined writing.done ++ waiting) rest,
        length-append (joined writing.done) waiting,
      )

      pub waiting-within_last : opening.lsn + length units ≤ LAST → tail.next + length waiting ≤ LAST
      waiting-within_last fits = omega (arith, fits, writing.next, units_length-split)

      pub tail_at-within_bound : IsSnapshot opening → tail.at ≤ 2 ^ 63 + 16 * tail.next
      tail_at-within_bound held = omega (arith, held.most, writing.at, writing.some, writing.next)

      pub ready-some_underway : g.honest now → (log : Log) × (batches : List (List ℕ)) × IsUnderway tail log batches (g.reads now) (g.images now)
      ready-some_underway honest = (with_units (cut_log opening) (joined writing.done), writing.done, writing.underway (ready.honest.1 honest))

      -- a call that fails
      failed-grows : (new : D) → 0 < length waiting → (g.honest now → GrowsAtMostTo g (tail.at + 6 + 8 * length waiting) now new) → g.honest begun
          → GrowsAtMostTo g (21 + 12 * length opening.accounts + 5 * length (batches_of some.0) + 8 * length units) begun new
      failed-grows new more grows honest =
          let packed : List (List ℕ) = map units_of (packed_behind MOST_UNITS writing.waits writing.left) in
          let batches : length writing.done + 1 ≤ length (batches_of some.0) = omega (
            arith,
            ap length writing.batches,
            length-append writing.done packed,
            some-batch waiting writing.waits writing.left writing.waiting_is more,
          ) in
          omega (arith, batches, writing.grows honest, grows (ready.honest.0 honest), writing.at, units_length-split)

    failed-count : (new : D) → (g.honest now → Costs g 1 1 now new) → g.honest begun → (records : List Rec) → AreUnitsOf units records
        → Costs g (6 + length (batches_of records)) (7 + length (batches_of records)) begun new
    failed-count new count honest records are =
        let written = ready.writing records are in
        let before = written.count honest in
        let behind = count (ready.honest.0 honest) in
        let more : length written.done ≤ length (batches_of records) =
        omega (arith, ap length written.batches, length-append written.done (map units_of (packed_behind MOST_UNITS written.waits written.left))) in
        record { successes = omega (arith, before.successes, behind.successes, more); calls = omega (arith, before.calls, behind.calls, more) }

    -- all that is known after it
    pub flush_failed-writes_log : {T E : Type 0} (error : E) (new : D) → 0 < length waiting → (g.honest now → Leaves g.moment g.images_since (λ c. BeginsAsLog c → ⊥) now new)
        → (g.honest now → Costs g 1 1 now new) → (g.honest now → GrowsAtMostTo g (tail.at + 6 + 8 * length waiting) now new) → g.moment now ≤ g.moment new
        → (g.honest now ↔ g.honest new) → g.attached new ≡ g.attached now → g.faults now ≤ g.faults new → Rose (g.faults now) (g.faults new)
        → WritesLog {T = T} g opening units begun new (Err error)
    flush_failed-writes_log error new some moments count grows later honest attached more rose = failed-log error new
        (λ first records are. Leaves-trans g.moment g.images_since (λ c. BeginsAsLog c → ⊥) begun now new ((ready.writing records are).moments first)
        (moments (ready.honest.0 first)))
        (failed-count new count) (λ first records are. failed-grows (records, are) new some grows first) (omega (arith, ready.later, later))
        (λ first. honest.0 (ready.honest.0 first), λ last. ready.honest.1 (honest.1 last)) (attached ∙ ready.attached) (omega (arith, ready.faults, more))
        (subst (λ before. Rose before (g.faults new)) ready.faults rose)

    -- ---- a batch is written

    module _ (new : D) (after : Tail)
        (added : g.honest now → (log : Log) (batches : List (List ℕ)) → IsUnderway tail log batches (g.reads now) (g.images now)
        → IsUnderway after (with_units log waiting) (batches ++ waiting ∷ []) (g.reads new) (g.images new))
        (moments : g.honest now → Leaves g.moment g.images_since (λ c. BeginsAsLog c → ⊥) now new) (at : after.at ≡ tail.at + 5 + 8 * length waiting)
        (next : after.next ≡ tail.next + length waiting) (grows : g.honest now → GrowsAtMostTo g (tail.at + 6 + 8 * length waiting) now new)
        (count : g.honest now → Costs g 1 1 now new) (later : g.moment now ≤ g.moment new)
        (honest : (g.honest now → g.honest new) × (g.honest new → g.honest now)) (attached : g.attached new ≡ g.attached now)
        (faults : g.faults new ≡ g.faults now) (more : 0 < length waiting) where
      flushed : ((records : List Rec) (are : AreUnitsOf units records)
          → packed_behind MOST_UNITS (ready.writing records are).waits (ready.writing records are).left ≡
          (ready.writing records are).waits ∷ packed_behind MOST_UNITS [] (ready.writing records are).left)
          → IsReady g begun opening units new after [] room rest
      flushed one = record {
        writing = λ records are. writing-flushed g opening records begun now new tail after waiting rest (ready.writing records are)
            (λ first. added (ready.honest.0 first)) (λ first. moments (ready.honest.0 first)) at next (λ first. grows (ready.honest.0 first))
            (λ first. count (ready.honest.0 first)) more (one records are);
        room_is = ready.room_is;
        later = omega (arith, ready.later, later);
        honest = (λ first. honest.0 (ready.honest.0 first), λ last. ready.honest.1 (honest.1 last));
        attached = attached ∙ ready.attached;
        faults = faults ∙ ready.faults;
      }

      -- before a record that doesn't fit
      pub ready-flushed : (rec : Rec) → BeginsWith rest rec → MOST_UNITS < length waiting + size_of rec → IsReady g begun opening units new after [] room rest
      ready-flushed rec begins full =
          flushed (λ records are. packed_behind-no_room g opening records begun now tail waiting rest rec (ready.writing records are) begins full)

      -- behind the last record
      pub ready-flushed_last : ((rec : Rec) → BeginsWith rest rec → ⊥) → IsReady g begun opening units new after [] room rest
      ready-flushed_last none = flushed (λ records are.
          let writing = ready.writing records are in
          let left = none-left rest writing.left writing.spellable writing.rest_is none in
          ap (packed_behind MOST_UNITS writing.waits) left ∙ last-waits waiting writing.waits writing.waiting_is more
          ∙ ap (λ left. writing.waits ∷ packed_behind MOST_UNITS [] left) (sym left))

  -- ---- all batches

  -- behind the last record nothing waits
  module _ (now : D) (tail : Tail) (rest : List ℕ) (room : ℕ) (ready : IsReady g begun opening units now tail [] room rest)
      (none : (rec : Rec) → BeginsWith rest rec → ⊥) (records : List Rec) (are : AreUnitsOf units records) where
    last : IsWriting g opening records begun now tail [] rest
    last = ready.writing records are

    left-none : last.left ≡ []
    left-none = none-left rest last.left last.spellable last.rest_is none

    all-batches : batches_of records ≡ last.done
    all-batches = last.batches
        ∙ (λ i. last.done ++ map units_of (packed_behind MOST_UNITS (none-waits last.waits last.waiting_is i) (left-none i))) ∙ append-nil last.done

    all-joined : units ≡ joined last.done
    all-joined = are.units_are ∙ last.whole
        ∙ (λ i. append-nil (joined last.done) i ++ (last.rest_is ∙ ap units_of left-none) i) ∙ append-nil (joined last.done)

    last-underway : g.honest begun → IsUnderway tail (record { opening = opening; units = units }) (batches_of records) (g.reads now) (g.images now)
    last-underway honest = subst
        (λ (log : List ℕ × List (List ℕ)). IsUnderway tail (record { opening = opening; units = log.0 }) log.1 (g.reads now) (g.images now))
        (λ i. (sym all-joined i, sym all-batches i)) (last.underway honest)

    last-grows : g.honest begun → GrowsAtMostTo g (21 + 12 * length opening.accounts + 5 * length (batches_of records) + 8 * length units) begun now
    last-grows honest = omega (arith, last.grows honest, ap length all-joined, ap length all-batches)

    last-count : g.honest begun → Costs g (3 + length (batches_of records)) (4 + length (batches_of records)) begun now
    last-count honest =
        let more = ap length all-batches in
        let first = last.count honest in
        record { successes = omega (arith, first.successes, more); calls = omega (arith, first.calls, more) }

  gathered-now : (now : D) (tail : Tail) (rest : List ℕ) (room : ℕ) → IsReady g begun opening units now tail [] room rest
      → ((rec : Rec) → BeginsWith rest rec → ⊥) → (records : List Rec) × AreUnitsOf units records → IsGathered g begun opening units now
  gathered-now now tail rest room ready none some = record {
    tail = tail;
    underway = λ honest records are. last-underway now tail rest room ready none records are honest;
    moments = λ honest. (ready.writing some.0 some.1).moments honest;
    grows = λ honest records are. last-grows now tail rest room ready none records are honest;
    count = λ honest records are. last-count now tail rest room ready none records are honest;
    later = ready.later;
    honest = ready.honest;
    attached = ready.attached;
    faults = ready.faults;
  }

  -- the same, of a disk that is equal
  pub ready-gathered : (now new : D) → new ≡ now → (tail : Tail) (rest : List ℕ) (room : ℕ) → IsReady g begun opening units now tail [] room rest
      → ((rec : Rec) → BeginsWith rest rec → ⊥) → (records : List Rec) × AreUnitsOf units records → IsGathered g begun opening units new
  ready-gathered now new same tail rest room ready none some =
      subst (IsGathered g begun opening units) (sym same) (gathered-now now tail rest room ready none some)

  -- the same, where it turns out that nothing waits
  pub ready-gathered_none_waiting : (now new : D) → new ≡ now → (tail : Tail) (waiting rest : List ℕ) (room : ℕ) → IsReady g begun opening units now tail waiting room rest
      → length waiting ≡ 0 → ((rec : Rec) → BeginsWith rest rec → ⊥) → (records : List Rec) × AreUnitsOf units records → IsGathered g begun opening units new
  ready-gathered_none_waiting now new same tail waiting rest room ready empty none some =
      ready-gathered now new same tail rest room
      (subst (λ waits. IsReady g begun opening units now tail waits room rest) (none-there waiting empty) ready) none some

  module _ (now : D) (all : IsGathered g begun opening units now) where
    pub gathered-underway : g.honest begun → (made : OpenedList) → made.opening ≡ opening → AreUnitsOf units made.records
        → IsUnderway all.tail (log_of made) (batches_of made.records) (g.reads now) (g.images now)
    gathered-underway honest made is are = subst (λ (log : Log). IsUnderway all.tail log (batches_of made.records) (g.reads now) (g.images now))
        (λ i. record { opening = sym is i; units = are.units_are i }) (all.underway honest made.records are)

    pub gathered-some_underway : (records : List Rec) × AreUnitsOf units records → g.honest now
        → (tail : Tail) × (log : Log) × (batches : List (List ℕ)) × IsUnderway tail log batches (g.reads now) (g.images now)
    gathered-some_underway some honest =
        (all.tail, record { opening = opening; units = units }, batches_of some.0, all.underway (all.honest.1 honest) some.0 some.1)

    module _ (new : D) where
      pub opened-leaves : (g.honest now → (tail : Tail) (log : Log) (batches : List (List ℕ)) → IsUnderway tail log batches (g.reads now) (g.images now)
          → Leaves g.moment g.images_since (HoldsNoneOrBatches log batches) now new) → g.honest begun → (made : OpenedList) → made.opening ≡ opening
          → AreUnitsOf units made.records → Leaves g.moment g.images_since (HoldsNoneOrBatches (log_of made) (batches_of made.records)) begun new
      opened-leaves moments honest made is are =
          let Q : List ℕ → Type 0 = HoldsNoneOrBatches (log_of made) (batches_of made.records) in
          Leaves-trans g.moment g.images_since Q begun now new
          (Leaves-weaken g.moment g.images_since (λ c. BeginsAsLog c → ⊥) Q begun now (λ c none. inl none) (all.moments honest))
          (moments (all.honest.0 honest) all.tail (log_of made) (batches_of made.records) (gathered-underway honest made is are))

      pub opened-costs : (g.honest now → Costs g 3 3 now new) → g.honest begun → (records : List Rec) → AreUnitsOf units records
          → Costs g (6 + length (batches_of records)) (7 + length (batches_of records)) begun new
      opened-costs count honest records are =
          let before = all.count honest records are in
          let behind = count (all.honest.0 honest) in
          record { successes = omega (arith, before.successes, behind.successes); calls = omega (arith, before.calls, behind.calls) }

      -- the byte of the first gate is written within what there is
      pub opened-grows : (g.honest now → GrowsAtMostTo g 1 now new) → g.honest begun → (records : List Rec) → AreUnitsOf units records
          → GrowsAtMostTo g (21 + 12 * length opening.accounts + 5 * length (batches_of records) + 8 * length units) begun new
      opened-grows grows honest records are = omega (arith, all.grows honest records are, grows (all.honest.0 honest))
