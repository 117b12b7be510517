-- How what is read of a stream goes on, stage by stage.
use Rattle.std.proofs.Common.{◌≡◌, ◌<◌, ◌≤◌, ◌∙◌, sym, ap, subst, refl, ℕ, ◌+◌, ◌*◌, ◌^◌, List, [], ◌∷◌, ◌++◌, length, take, arith, length-append, append_assoc, append-nil}
use Rattle.std.specs.List.{flat_map, AllByRecursion}
use Rattle.std.specs.Int.{w32, to_be_bytes}
use Rattle.std.proofs.Math.Seq.{take-append_seam}
use Rattle.std.proofs.lemmas.List.Concat.{flat_map-append}
use Rattle.std.proofs.lemmas.List.Elements.{All-from_recursion}
use Rattle.lsn_space.specs.Unit.{unit_bytes}
use Rattle.lsn_space.specs.declared.lsn.TheConstants.{LAST}
use Rattle.lsn_space.proofs.TilingLemmas.{all-push}
use Rattle.lsn_space.proofs.UnitLemmas.{length-unit_bytes}
use Rattle.log_record.specs.declared.rec.Rec.{Rec}
use Rattle.log_record.specs.LogList.{units_of, end_of, AreUnitsOf}
use Rattle.log_record.proofs.LogListLemmas.{end_of-append}
use Rattle.ship_stream.specs.Came.{Came, HasCome, IsBegun, count_begun, units_begun, IsBadBehind}
use Rattle.ship_stream.specs.Came.Came.{NoHead, Open, Whole}
use Rattle.ship_stream.specs.Stream.{stream_magic, head_bytes, counted_bytes, frame_bytes, records_of, frames_end, IsFrame, HasFrames, HasNoFrame}
use Rattle.ship_stream.specs.declared.layout.TheConstants.{MOST_FRAME_UNITS}
use Rattle.ship_stream.proofs.FrameLemmas.{same_number, same_units, units_of-below_64_bits, length-head, length-frame}
use Rattle.ship_stream.proofs.StreamLemmas.{begun-no_frame, begun-no_end}
use Rattle.segment_file.specs.File.{AreUnits}
use Rattle.stream_reader.specs.Reader.{units_bytes, part_bytes, IsAtStage, ReadsAt}
use Rattle.stream_reader.specs.declared.reader.Stage.{Stage}
use Rattle.stream_reader.specs.declared.reader.Stage.TheVariants.{Head, Count, Units, End}

abbrev IsUnit : ℕ → Type 0
IsUnit unit = unit < 2 ^ 64

-- ---- frames in front of more

pub has_frames-more : (bytes : List ℕ) (first : ℕ) (frames : List (List Rec)) (rest more : List ℕ) → HasFrames bytes first frames rest
    → HasFrames (bytes ++ more) first frames (rest ++ more)
has_frames-more bytes first frames rest more reads = record {
  each = reads.each;
  total = reads.total;
  whole = ap (λ list. list ++ more) reads.whole ∙ append_assoc (head_bytes first ++ flat_map frame_bytes frames) rest more;
}

pub frames-same : (bytes : List ℕ) (first : ℕ) (frames : List (List Rec)) (rest other : List ℕ) → rest ≡ other
    → HasFrames bytes first frames rest
    → HasFrames bytes first frames other
frames-same bytes first frames rest other same reads = subst (HasFrames bytes first frames) same reads

-- the end with one frame more
pub frames_end-push : (first : ℕ) (frames : List (List Rec)) (records : List Rec)
    → frames_end first (frames ++ records ∷ []) ≡ frames_end first frames + end_of records
frames_end-push first frames records =
    omega (
      arith,
      ap end_of (flat_map-append (λ (list : List Rec). list) frames (records ∷ [])),
      end_of-append (records_of frames) (records ++ []),
      ap end_of (append-nil records),
    )

-- one frame more
pub frames-push : (bytes : List ℕ) (first : ℕ) (frames : List (List Rec)) (records : List Rec)
    → HasFrames bytes first frames (frame_bytes records)
    → IsFrame records → frames_end first frames + end_of records ≤ LAST → HasFrames bytes first (frames ++ records ∷ []) []
frames-push bytes first frames records reads frame fits = record {
  each = all-push IsFrame frames records reads.each frame;
  total = omega (arith, fits, frames_end-push first frames records);
  whole = reads.whole ∙ append_assoc (head_bytes first) (flat_map frame_bytes frames) (frame_bytes records)
      ∙ ap (λ list. head_bytes first ++ list) (ap (λ list. flat_map frame_bytes frames ++ list) (sym (append-nil (frame_bytes records)))
      ∙ sym (flat_map-append frame_bytes frames (records ∷ [])))
      ∙ sym (append-nil (head_bytes first ++ flat_map frame_bytes (frames ++ records ∷ [])));
}

-- frames have 12 bytes at most for each unit
frames-small : (frames : List (List Rec)) → AllByRecursion IsFrame frames
    → length (flat_map frame_bytes frames) ≤ 12 * end_of (records_of frames)
frames-small [] each = omega arith
frames-small (records ∷ frames) each =
    omega (
      arith,
      frames-small frames each.1,
      each.0.some,
      length-frame records (flat_map frame_bytes frames),
      end_of-append records (records_of frames),
    )

-- the place of what is behind the frames
frames-place : (bytes : List ℕ) (first : ℕ) (frames : List (List Rec)) (rest : List ℕ) → HasFrames bytes first frames rest
    → length bytes ≡ 11 + length (flat_map frame_bytes frames) + length rest
frames-place bytes first frames rest reads =
    omega (
      arith,
      ap length reads.whole,
      length-append (head_bytes first ++ flat_map frame_bytes frames) rest,
      length-head first (flat_map frame_bytes frames),
    )

small-at : (bytes : List ℕ) (first at : ℕ) (frames : List (List Rec)) (rest : List ℕ) → HasFrames bytes first frames rest
    → at + length rest ≡ length bytes
    → at ≤ 11 + 12 * LAST
small-at bytes first at frames rest reads place =
    omega (arith, place, frames-place bytes first frames rest reads, frames-small frames reads.each, reads.total)

-- ---- what is begun

pub length-units_bytes : (units begun : List ℕ) → length (units_bytes units begun) ≡ 8 * length units + length begun
length-units_bytes units begun = omega (arith, length-append (flat_map unit_bytes units) begun, length-unit_bytes units)

is-begun : (stage : Stage) (first next : ℕ) (frames : List (List Rec)) (units begun : List ℕ)
    → IsAtStage stage (Open first frames) next units begun
    → IsBegun (frames_end first frames) (part_bytes stage units begun)
is-begun Head first next frames units begun is = absurd is
is-begun Count first next frames units begun is = count_begun is.1
is-begun (Units count) first next frames units begun is =
    units_begun count (units_bytes units begun) (omega (arith, is.1.under)) is.1.most (omega (arith, is.0, is.1.fits)) refl
    (omega (arith, is.1.under, is.1.short, length-units_bytes units begun))
is-begun End first next frames units begun is = absurd is

module _ (at next room : ℕ) (units begun past : List ℕ) where
  pub has-come : (stage : Stage) (came : Came) → ReadsAt stage at next room units begun past came → HasCome past came
  has-come Head NoHead r = omega (arith, ap length r.reads, r.stage_is)
  has-come Count NoHead r = absurd r.stage_is
  has-come (Units count) NoHead r = absurd r.stage_is
  has-come End NoHead r = absurd r.stage_is
  has-come stage (Open first frames) r = (part_bytes stage units begun, r.reads, is-begun stage first next frames units begun r.stage_is)
  has-come Head (Whole first frames) r = absurd r.stage_is
  has-come Count (Whole first frames) r = absurd r.stage_is
  has-come (Units count) (Whole first frames) r = absurd r.stage_is
  has-come End (Whole first frames) r = r.reads

  pub ReadsAt-place_bound : (stage : Stage) (came : Came) → ReadsAt stage at next room units begun past came → at ≤ 11 + 12 * LAST
  ReadsAt-place_bound Head NoHead r = omega (arith, r.place, ap length r.reads)
  ReadsAt-place_bound Count NoHead r = absurd r.stage_is
  ReadsAt-place_bound (Units count) NoHead r = absurd r.stage_is
  ReadsAt-place_bound End NoHead r = absurd r.stage_is
  ReadsAt-place_bound stage (Open first frames) r = small-at past first at frames (part_bytes stage units begun) r.reads r.place
  ReadsAt-place_bound stage (Whole first frames) r = small-at past first at frames (part_bytes stage units begun) r.reads r.place

  -- where nothing more comes, the part under way is bad, unless the end has come
  pub unfinished-bad_behind : (stage : Stage) (came : Came) → (stage ≡ End → ⊥) → ReadsAt stage at next room units begun past came
      → IsBadBehind came past at
  unfinished-bad_behind Head NoHead going r = (
    (λ first rest fits is. omega (arith, ap length r.reads, r.stage_is, ap length is, length-head first rest)),
    omega (arith, r.place, ap length r.reads),
  )
  unfinished-bad_behind Count NoHead going r = absurd r.stage_is
  unfinished-bad_behind (Units count) NoHead going r = absurd r.stage_is
  unfinished-bad_behind End NoHead going r = absurd r.stage_is
  unfinished-bad_behind stage (Open first frames) going r =
      let begun_is = is-begun stage first next frames units begun r.stage_is in
      (part_bytes stage units begun, r.reads, begun-no_frame _ _ begun_is, begun-no_end _ _ begun_is, r.place)
  unfinished-bad_behind Head (Whole first frames) going r = absurd r.stage_is
  unfinished-bad_behind Count (Whole first frames) going r = absurd r.stage_is
  unfinished-bad_behind (Units count) (Whole first frames) going r = absurd r.stage_is
  unfinished-bad_behind End (Whole first frames) going r = absurd (going refl)

-- ---- more bytes

-- a head alone
head-read : (bytes : List ℕ) (first : ℕ) → bytes ≡ head_bytes first → first ≤ LAST → HasFrames bytes first [] []
head-read bytes first is fits = record {
  each = tt;
  total = omega (arith, fits);
  whole = is ∙ sym (append-nil (head_bytes first)) ∙ sym (append-nil (head_bytes first ++ []));
}

-- behind whole frames stands a count, and this tail
module _ (past : List ℕ) (first at : ℕ) (frames : List (List Rec)) (part piece after tail : List ℕ) (count : ℕ)
    (reads : HasFrames past first frames part) (place : at + length part ≡ length past)
    (behind : part ++ (piece ++ after) ≡ to_be_bytes w32 count ++ tail) where
  counted-read : HasFrames (past ++ piece ++ after) first frames (to_be_bytes w32 count ++ tail)
  counted-read = subst (λ list. HasFrames list first frames (to_be_bytes w32 count ++ tail)) (sym (append_assoc past piece after))
      (frames-same (past ++ (piece ++ after)) first frames (part ++ (piece ++ after)) _ behind
      (has_frames-more past first frames part (piece ++ after) reads))

  counted-place : at + length (to_be_bytes w32 count ++ tail) ≡ length (past ++ piece ++ after)
  counted-place = omega (
    arith,
    place,
    ap length behind,
    length-append part (piece ++ after),
    length-append past (piece ++ after),
    ap length (append_assoc past piece after),
  )

  -- it is bad, where it is no frame
  pub no_frame-bad_behind : 0 < count → count < 4294967296 → HasNoFrame (frames_end first frames) (to_be_bytes w32 count ++ tail)
      → IsBadBehind (Open first frames) (past ++ piece ++ after) at
  no_frame-bad_behind some fits none = (
    to_be_bytes w32 count ++ tail,
    counted-read,
    none,
    (λ other whole. let number = same_number count 0 tail other fits (omega arith) whole in omega (arith, some, number.0)),
    counted-place,
  )

-- a count that no frame has here
count-none : (lsn count : ℕ) (tail : List ℕ) → count < 4294967296 → (count ≤ MOST_FRAME_UNITS → lsn + count ≤ LAST → ⊥)
    → HasNoFrame lsn (to_be_bytes w32 count ++ tail)
unfolding counted_bytes
count-none lsn count tail fits none records other frame room whole =
    let number = same_number count (end_of records) tail (flat_map unit_bytes (units_of records) ++ other) fits
    (omega (arith, frame.most)) whole in
    none (omega (arith, frame.most, number.0)) (omega (arith, room, number.0))

module _ (at next room : ℕ) (units begun past more : List ℕ) where
  pub head-whole : (came : Came) (first : ℕ) → ReadsAt Head at next room units begun past came → first ≤ LAST
      → begun ++ more ≡ stream_magic ++ to_be_bytes w32 first
      → (came ≡ NoHead) × ReadsAt Count 11 first room units [] (past ++ more) (Open first [])
  unfolding head_bytes
  head-whole NoHead first r fits is =
      let bytes : past ++ more ≡ head_bytes first = ap (λ list. list ++ more) r.reads ∙ is in (
        refl,
        record {
          stage_is = (omega arith, omega arith);
          reads = head-read (past ++ more) first bytes fits;
          place = omega (arith, ap length bytes);
          room_is = r.room_is;
        },
      )
  head-whole (Open one frames) first r fits is = absurd r.stage_is
  head-whole (Whole one frames) first r fits is = absurd r.stage_is

  pub head-bad : (came : Came) (piece rest after : List ℕ) → ReadsAt Head at next room units begun past came → length (begun ++ more) ≡ 11
      → ((first : ℕ) → begun ++ more ≡ stream_magic ++ to_be_bytes w32 first → ⊥) → piece ≡ more ++ rest
      → IsBadBehind came (past ++ piece ++ after) 0
  unfolding head_bytes
  head-bad NoHead piece rest after r long none split = (
    (λ first behind fits is.
        let whole : past ++ piece ++ after ≡ (begun ++ more) ++ (rest ++ after) =
        ap (λ list. list ++ after) ((λ i. r.reads i ++ split i) ∙ sym (append_assoc begun more rest))
        ∙ append_assoc (begun ++ more) rest after in
        none first (sym (take-append_seam (begun ++ more) (rest ++ after)) ∙ ap (λ n. take n ((begun ++ more) ++ (rest ++ after))) long
        ∙ ap (take 11) (sym whole ∙ is))),
    refl,
  )
  head-bad (Open one frames) piece rest after r long none split = absurd r.stage_is
  head-bad (Whole one frames) piece rest after r long none split = absurd r.stage_is

  pub head-begun_short : (came : Came) → ReadsAt Head at next room units begun past came → length begun < 11
  head-begun_short NoHead r = r.stage_is
  head-begun_short (Open first frames) r = absurd r.stage_is
  head-begun_short (Whole first frames) r = absurd r.stage_is

  -- the count of a frame has come
  pub count-reads_at_units : (came : Came) (count : ℕ) → ReadsAt Count at next room units begun past came → begun ++ more ≡ to_be_bytes w32 count
      → 0 < count
      → count ≤ MOST_FRAME_UNITS → next + count ≤ LAST → ReadsAt (Units count) at next room [] [] (past ++ more) came
  count-reads_at_units NoHead count r is some most fits = absurd r.stage_is
  count-reads_at_units (Open first frames) count r is some most fits = record {
    stage_is = (r.stage_is.0, record { under = some; most = most; fits = fits; short = omega arith; each = tt });
    reads = frames-same (past ++ more) first frames (begun ++ more) (to_be_bytes w32 count ++ units_bytes [] [])
        (is ∙ sym (append-nil (to_be_bytes w32 count))) (has_frames-more past first frames begun more r.reads);
    place = omega (arith, r.place, ap length is, length-append begun more, length-append past more);
    room_is = r.room_is;
  }
  count-reads_at_units (Whole first frames) count r is some most fits = absurd r.stage_is

  -- a count that no frame has here
  pub count-bad : (came : Came) (count : ℕ) (piece rest after : List ℕ) → ReadsAt Count at next room units begun past came
      → begun ++ more ≡ to_be_bytes w32 count
      → 0 < count → count < 4294967296 → (count ≤ MOST_FRAME_UNITS → next + count ≤ LAST → ⊥) → piece ≡ more ++ rest
      → IsBadBehind came (past ++ piece ++ after) at
  count-bad NoHead count piece rest after r is some fits none split = absurd r.stage_is
  count-bad (Open first frames) count piece rest after r is some fits none split =
      no_frame-bad_behind past first at frames begun piece after (rest ++ after) count r.reads r.place
      (ap (λ list. begun ++ (list ++ after)) split ∙ ap (λ list. begun ++ list) (append_assoc more rest after)
      ∙ sym (append_assoc begun more (rest ++ after)) ∙ ap (λ list. list ++ (rest ++ after)) is) some fits
      (count-none (frames_end first frames) count (rest ++ after) fits (λ most room. none most (omega (arith, room, r.stage_is.0))))
  count-bad (Whole first frames) count piece rest after r is some fits none split = absurd r.stage_is

  pub units_stage-AreUnits : (came : Came) (count : ℕ) → ReadsAt (Units count) at next room units begun past came → AreUnits units
  units_stage-AreUnits NoHead count r = absurd r.stage_is
  units_stage-AreUnits (Open first frames) count r = r.stage_is.1.each
  units_stage-AreUnits (Whole first frames) count r = absurd r.stage_is

  -- a count, and more of the units behind it
  units-read : (first : ℕ) (frames : List (List Rec)) (count : ℕ) (new left : List ℕ)
      → units_bytes new left ≡ units_bytes units begun ++ more
      → HasFrames past first frames (to_be_bytes w32 count ++ units_bytes units begun)
      → HasFrames (past ++ more) first frames (to_be_bytes w32 count ++ units_bytes new left)
  units-read first frames count new left is reads =
      frames-same (past ++ more) first frames _ (to_be_bytes w32 count ++ units_bytes new left)
      (ap (λ list. to_be_bytes w32 count ++ list) (sym is))
      (has_frames-more past first frames (to_be_bytes w32 count ++ units_bytes units begun) more reads)

  -- units have come, and not yet all
  pub units-more : (came : Came) (count : ℕ) (new left : List ℕ) → ReadsAt (Units count) at next room units begun past came
      → units_bytes new left ≡ units_bytes units begun ++ more → length new < count → length left < 8 → AreUnits new
      → ReadsAt (Units count) at next room new left (past ++ more) came
  units-more NoHead count new left r is under short fit = absurd r.stage_is
  units-more (Open first frames) count new left r is under short fit = record {
    stage_is = (r.stage_is.0, record { under = under; most = r.stage_is.1.most; fits = r.stage_is.1.fits; short = short; each = fit });
    reads = units-read first frames count new left is r.reads;
    place = omega (arith, r.place, ap length is, length-append (units_bytes units begun) more, length-append past more);
    room_is = r.room_is;
  }
  units-more (Whole first frames) count new left r is under short fit = absurd r.stage_is

  module _ (count : ℕ) (new : List ℕ) (is : units_bytes new [] ≡ units_bytes units begun ++ more) (all : length new ≡ count) where
    -- what follows the count
    spelled : to_be_bytes w32 count ++ units_bytes units begun ++ more ≡ counted_bytes count new
    unfolding counted_bytes
    spelled = ap (λ list. to_be_bytes w32 count ++ list) (sym is ∙ append-nil (flat_map unit_bytes new))

    -- some bytes were taken
    pub units-some_bytes_taken : (came : Came) → ReadsAt (Units count) at next room units begun past came → 0 < length more
    units-some_bytes_taken NoHead r = absurd r.stage_is
    units-some_bytes_taken (Open first frames) r =
        omega (
          arith,
          ap length is,
          length-append (units_bytes units begun) more,
          length-units_bytes units begun,
          length-units_bytes new [],
          all,
          r.stage_is.1.under,
          r.stage_is.1.short,
        )
    units-some_bytes_taken (Whole first frames) r = absurd r.stage_is

    -- the frame is whole
    pub units-reads_at_count : (came : Came) (records : List Rec) → ReadsAt (Units count) at next room units begun past came → AreUnitsOf new records
        → (first : ℕ) × (frames : List (List Rec)) × (came ≡ Open first frames) × IsFrame records
        × ReadsAt Count (at + 4 + 8 * count) (next + count) room new [] (past ++ more) (Open first (frames ++ records ∷ []))
    units-reads_at_count NoHead records r are = absurd r.stage_is
    units-reads_at_count (Open first frames) records r are =
        let count_is : count ≡ end_of records = sym all ∙ ap length are.units_are in
        let frame : IsFrame records =
        record {
          some = omega (arith, count_is, r.stage_is.1.under);
          most = omega (arith, count_is, r.stage_is.1.most);
          spellable =
              are.spellable;
        } in
        let bytes : counted_bytes count new ≡ frame_bytes records = (λ i. counted_bytes (count_is i) (are.units_are i)) in
        let reads = frames-same (past ++ more) first frames _ (frame_bytes records) (spelled ∙ bytes)
        (has_frames-more past first frames (to_be_bytes w32 count ++ units_bytes units begun) more r.reads) in (
          first,
          frames,
          refl,
          frame,
          record {
            stage_is = (omega (arith, r.stage_is.0, count_is, frames_end-push first frames records), omega arith);
            reads = frames-push (past ++ more) first frames records reads frame (omega (arith, r.stage_is.0, r.stage_is.1.fits, count_is));
            place = omega (
              arith,
              r.place,
              ap length is,
              length-append (units_bytes units begun) more,
              length-append past more,
              length-units_bytes new [],
              all,
            );
            room_is = r.room_is;
          },
        )
    units-reads_at_count (Whole first frames) records r are = absurd r.stage_is

    -- a count and units that are no whole spellings
    units-none : (lsn : ℕ) (tail : List ℕ) → count ≤ MOST_FRAME_UNITS → ((records : List Rec) → AreUnitsOf new records → ⊥)
        → AreUnits new → HasNoFrame lsn (to_be_bytes w32 count ++ (flat_map unit_bytes new ++ tail))
    unfolding counted_bytes
    units-none lsn tail most none fit records other frame room whole =
        let number = same_number count (end_of records) _ (flat_map unit_bytes (units_of records) ++ other) (omega (arith, most))
        (omega (arith, frame.most)) whole in
        none records record {
          spellable = frame.spellable;
          units_are = same_units new (units_of records) tail other (All-from_recursion IsUnit new fit)
              (units_of-below_64_bits records frame.spellable) (omega (arith, all, number.0)) number.1;
        }

    pub units-bad : (came : Came) (piece rest after : List ℕ) → ReadsAt (Units count) at next room units begun past came
        → ((records : List Rec) → AreUnitsOf new records → ⊥) → AreUnits new → piece ≡ more ++ rest
        → IsBadBehind came (past ++ piece ++ after) at
    units-bad NoHead piece rest after r none fit split = absurd r.stage_is
    units-bad (Open first frames) piece rest after r none fit split =
        let count_bytes = to_be_bytes w32 count in
        let body : List ℕ = units_bytes units begun in
        let behind : (count_bytes ++ body) ++ (piece ++ after) ≡ count_bytes ++ (flat_map unit_bytes new ++ (rest ++ after)) =
        ap (λ list. count_bytes ++ (body ++ (list ++ after))) split
        ∙ ap (λ list. count_bytes ++ (body ++ list)) (append_assoc more rest after)
        ∙ ap (λ list. count_bytes ++ list) (sym (append_assoc body more (rest ++ after))
        ∙ ap (λ list. list ++ (rest ++ after)) (sym is ∙ append-nil (flat_map unit_bytes new))) in
        no_frame-bad_behind past first at frames (count_bytes ++ body) piece after (flat_map unit_bytes new ++ (rest ++ after)) count r.reads r.place
        behind (omega (arith, r.stage_is.1.under)) (omega (arith, r.stage_is.1.most))
        (units-none (frames_end first frames) (rest ++ after) r.stage_is.1.most none fit)
    units-bad (Whole first frames) piece rest after r none fit split = absurd r.stage_is
