-- How a list is shipped, record by record and frame by frame.
use Rattle.std.proofs.Common.{◌≡◌, ◌<◌, ◌≤◌, ◌∙◌, sym, ap, subst, refl, ℕ, ◌+◌, List, [], ◌∷◌, ◌++◌, Option, length, drop, arith, length-append, append_assoc, append-nil, take, get_or}
use Rattle.std.specs.List.{flat_map, AllByRecursion}
use Rattle.std.proofs.lemmas.List.{flat_map_more, take_more, take-append-drop}
use Rattle.std.proofs.lemmas.List.Concat.{flat_map-append}
use Rattle.lsn_space.specs.Unit.{unit_bytes}
use Rattle.std.proofs.Math.Seq.{take-append_seam, drop-append_seam}
use Rattle.lsn_space.proofs.TilingLemmas.{all-push, all-append}
use Rattle.log_disk.specs.Streams.{AppendsPart, AppendsBut}
use Rattle.log_disk.proofs.Blocks.{AppendsBut-trans, AppendsBut-trans_part_of_piece, AppendsPart-append}
use Rattle.log_record.specs.declared.rec.Rec.{Rec}
use Rattle.log_record.specs.LogList.{units_of, end_of, size_of, AreUnitsOf}
use Rattle.log_record.specs.Spelling.{spelling, IsSpellable}
use Rattle.log_record.proofs.BoundLemmas.{length-spelling}
use Rattle.log_record.proofs.SpellingLemmas.{size_of-positive, AreUnitsOf-injective}
use Rattle.log_record.proofs.LogListLemmas.{units_of-append, end_of-append}
use Rattle.ship_stream.specs.Frames.{packed_behind, frames_of, stream_of}
use Rattle.ship_stream.specs.Shipping.{BeginsFrame}
use Rattle.ship_stream.specs.Stream.{head_bytes, counted_bytes, frame_bytes, end_bytes}
use Rattle.ship_stream.specs.declared.layout.TheConstants.{SHIPPED_UNITS}
use Rattle.ship_stream.proofs.PackingLemmas.{packed_behind-fits, packed_behind-full_from_none}

spellable-split : (xs ys : List Rec) → AllByRecursion IsSpellable (xs ++ ys) → AllByRecursion IsSpellable xs × AllByRecursion IsSpellable ys
spellable-split [] ys all = (tt, all)
spellable-split (x ∷ xs) ys all = let rest = spellable-split xs ys all.1 in ((all.0, rest.0), rest.1)

-- ---- the first frame

-- these records fit into the frame so far, and of those that are left the units are the rest
pub record IsGathering (units : List ℕ) (len : ℕ) (rest : List ℕ) : Type 0 where
  pub waits : List Rec
  pub left : List Rec
  pub waiting : AllByRecursion IsSpellable waits
  pub each : AllByRecursion IsSpellable left
  pub whole : units ≡ units_of (waits ++ left)
  pub rest_is : rest ≡ units_of left
  pub count : len ≡ end_of waits
  pub most : len ≤ SHIPPED_UNITS
  pub packed : frames_of (waits ++ left) ≡ packed_behind SHIPPED_UNITS waits left

pub gathering-none : (units : List ℕ) (records : List Rec) → AreUnitsOf units records → IsGathering units 0 units
gathering-none units records are = record {
  waits = [];
  left = records;
  waiting = tt;
  each = are.spellable;
  whole = are.units_are;
  rest_is = are.units_are;
  count = refl;
  most = omega arith;
  packed = refl;
}

module _ (units : List ℕ) (len : ℕ) (rest : List ℕ) (gathering : IsGathering units len rest) where
  -- the lengths of what waits and what is left
  pub gathering-length : len + length rest ≡ length units
  gathering-length =
      omega (arith, gathering.count, ap length gathering.whole, ap length gathering.rest_is, end_of-append gathering.waits gathering.left)

  -- a rest that isn't empty begins with a record
  begins : (left : List Rec) → gathering.left ≡ left → (first : ℕ) (behind : List ℕ) → rest ≡ first ∷ behind
      → (rec : Rec) × (later : List Rec) × (left ≡ rec ∷ later)
  begins [] is first behind some = absurd (omega (arith, ap length some, ap length gathering.rest_is, ap end_of is))
  begins (rec ∷ later) is first behind some = (rec, later, refl)

  module _ (first : ℕ) (behind : List ℕ) (some : rest ≡ first ∷ behind) (size : ℕ)
      (sized : (rec : Rec) (own more : List ℕ) → IsSpellable rec → first ∷ own ≡ spelling rec ++ more → size ≡ size_of rec) where
    pub gathering_left-first_record : (rec : Rec) × (later : List Rec) × (gathering.left ≡ rec ∷ later)
    gathering_left-first_record = begins gathering.left refl first behind some

    spellable : IsSpellable gathering_left-first_record.0 × AllByRecursion IsSpellable gathering_left-first_record.1
    spellable = subst (AllByRecursion IsSpellable) gathering_left-first_record.2 gathering.each

    rest-split : rest ≡ spelling gathering_left-first_record.0 ++ units_of gathering_left-first_record.1
    rest-split = gathering.rest_is ∙ ap units_of gathering_left-first_record.2

    pub size-size_of_first_record : size ≡ size_of gathering_left-first_record.0
    size-size_of_first_record = sized gathering_left-first_record.0 behind (units_of gathering_left-first_record.1) spellable.0 (sym some ∙ rest-split)

    pub size-within_26_and_rest : (0 < size) × (size ≤ 26) × (size ≤ length rest)
    size-within_26_and_rest = (
      omega (arith, size-size_of_first_record, size_of-positive gathering_left-first_record.0),
      omega (arith, size-size_of_first_record, length-spelling gathering_left-first_record.0 spellable.0),
      omega (arith, size-size_of_first_record, ap length rest-split, length-append (spelling gathering_left-first_record.0) (units_of gathering_left-first_record.1)),
    )

    -- one record more
    pub gathering-more : (after : List ℕ) → after ≡ drop size rest → len + size ≤ SHIPPED_UNITS → IsGathering units (len + size) after
    gathering-more after dropped fits =
        let regrouped : gathering.waits ++ gathering.left ≡ (gathering.waits ++ gathering_left-first_record.0 ∷ []) ++ gathering_left-first_record.1 =
        ap (λ left. gathering.waits ++ left) gathering_left-first_record.2 ∙ sym (append_assoc gathering.waits (gathering_left-first_record.0 ∷ []) gathering_left-first_record.1) in
        record {
          waits = gathering.waits ++ gathering_left-first_record.0 ∷ [];
          left = gathering_left-first_record.1;
          waiting = all-push IsSpellable gathering.waits gathering_left-first_record.0 gathering.waiting spellable.0;
          each = spellable.1;
          whole = gathering.whole ∙ ap units_of regrouped;
          rest_is = dropped ∙ ap (λ n. drop n rest) size-size_of_first_record ∙ ap (drop (size_of gathering_left-first_record.0)) rest-split
              ∙ drop-append_seam (spelling gathering_left-first_record.0) (units_of gathering_left-first_record.1);
          count = omega (
            arith,
            size-size_of_first_record,
            gathering.count,
            end_of-append gathering.waits (gathering_left-first_record.0 ∷ []),
            ap length (append-nil (spelling gathering_left-first_record.0)),
          );
          most = fits;
          packed = ap frames_of (sym regrouped) ∙ gathering.packed ∙ ap (packed_behind SHIPPED_UNITS gathering.waits) gathering_left-first_record.2
              ∙ packed_behind-fits SHIPPED_UNITS gathering.waits gathering_left-first_record.0 gathering_left-first_record.1 (omega (arith, fits, size-size_of_first_record, gathering.count));
        }

    -- the next record doesn't fit
    pub gathering_full-begins_frame : SHIPPED_UNITS < len + size → BeginsFrame units len
    gathering_full-begins_frame full = record {
      frame = gathering.waits;
      left = gathering.left;
      list = record { spellable = all-append IsSpellable gathering.waits gathering.left gathering.waiting gathering.each; units_are = gathering.whole };
      first = gathering.packed ∙ ap (packed_behind SHIPPED_UNITS gathering.waits) gathering_left-first_record.2
          ∙ packed_behind-full_from_none SHIPPED_UNITS gathering.waits gathering_left-first_record.0 gathering_left-first_record.1 (omega (
            arith,
            length-spelling gathering_left-first_record.0 spellable.0,
          ))
          (omega (arith, full, size-size_of_first_record, gathering.count))
          ∙ ap (λ left. gathering.waits ∷ frames_of left) (sym gathering_left-first_record.2);
      count = gathering.count;
      some = omega (arith, full, size-within_26_and_rest.1);
      short = gathering.most;
      within = omega (arith, gathering-length);
    }

  -- no record is left
  none-left : (left : List Rec) → gathering.left ≡ left → length rest ≡ 0 → left ≡ []
  none-left [] is empty = refl
  none-left (rec ∷ later) is empty =
      absurd (omega (
        arith,
        empty,
        ap length gathering.rest_is,
        ap end_of is,
        size_of-positive rec,
        length-append (spelling rec) (units_of later),
      ))

  last-one : (waits : List Rec) → gathering.waits ≡ waits → 0 < length units → length rest ≡ 0
      → packed_behind SHIPPED_UNITS waits [] ≡ waits ∷ []
  last-one [] is some empty = absurd (omega (arith, some, empty, gathering-length, gathering.count, ap end_of is))
  last-one (rec ∷ waits) is some empty = refl

  pub gathering_last-begins_frame : 0 < length units → length rest ≡ 0 → BeginsFrame units len
  gathering_last-begins_frame some empty =
      let none = none-left gathering.left refl empty in
      record {
        frame = gathering.waits;
        left = gathering.left;
        list = record {
          spellable = all-append IsSpellable gathering.waits gathering.left gathering.waiting gathering.each;
          units_are =
              gathering.whole;
        };
        first = gathering.packed ∙ ap (packed_behind SHIPPED_UNITS gathering.waits) none ∙ last-one gathering.waits refl some empty
            ∙ ap (λ left. gathering.waits ∷ frames_of left) (sym none);
        count = gathering.count;
        some = omega (arith, some, empty, gathering-length);
        short = gathering.most;
        within = omega (arith, gathering-length);
      }

-- ---- the frames

-- The head and these frames are written, but for the bytes that wait; of the records that are left the units are the rest.
pub record IsShipping (from : ℕ) (units rest waiting : List ℕ) (old new : Option (List ℕ)) : Type 0 where
  pub records : List Rec
  pub list : AreUnitsOf units records
  pub done : List (List Rec)
  pub left : List Rec
  pub rest_is : AreUnitsOf rest left
  pub frames : frames_of records ≡ done ++ frames_of left
  pub written : AppendsBut old new (head_bytes from ++ flat_map frame_bytes done) waiting

pub shipping-none : (from : ℕ) (units waiting : List ℕ) (records : List Rec) (old new : Option (List ℕ)) → AreUnitsOf units records
    → AppendsBut old new (head_bytes from) waiting → IsShipping from units units waiting old new
shipping-none from units waiting records old new are written = record {
  records = records;
  list = are;
  done = [];
  left = records;
  rest_is = are;
  frames = refl;
  written = subst (λ bytes. AppendsBut old new bytes waiting) (sym (append-nil (head_bytes from))) written;
}

module _ (from : ℕ) (units rest waiting : List ℕ) (old mid : Option (List ℕ)) (before : IsShipping from units rest waiting old mid) where
  same-frames : (records : List Rec) → AreUnitsOf units records → frames_of records ≡ before.done ++ frames_of before.left
  same-frames records are = ap frames_of (AreUnitsOf-injective units records before.records are before.list) ∙ before.frames

  abbrev written-to : List ℕ
  written-to = head_bytes from ++ flat_map frame_bytes before.done

  module _ (len : ℕ) (first : BeginsFrame rest len) (own : List ℕ) (own_is : own ≡ take len rest) where
    left-is : before.left ≡ first.frame ++ first.left
    left-is = AreUnitsOf-injective rest before.left (first.frame ++ first.left) before.rest_is first.list

    rest-frames : rest ≡ units_of first.frame ++ units_of first.left
    rest-frames = first.list.units_are ∙ units_of-append first.frame first.left

    frame-units : own ≡ units_of first.frame
    frame-units = own_is ∙ ap (λ n. take n rest) first.count ∙ ap (take (end_of first.frame)) rest-frames
        ∙ take-append_seam (units_of first.frame) (units_of first.left)

    frame-is : counted_bytes (length own) own ≡ frame_bytes first.frame
    frame-is = ap (λ us. counted_bytes (length us) us) frame-units

    frames-is : before.done ++ frames_of before.left ≡ before.done ++ (first.frame ∷ frames_of first.left)
    frames-is = ap (λ list. before.done ++ frames_of list) left-is ∙ ap (λ list. before.done ++ list) first.first

    -- one frame more is written
    pub shipping-more : (new : Option (List ℕ)) (behind waiting' : List ℕ) → behind ≡ drop len rest
        → AppendsBut mid new (waiting ++ counted_bytes (length own) own) waiting' → IsShipping from units behind waiting' old new
    shipping-more new behind waiting' dropped put =
        let parts = spellable-split first.frame first.left first.list.spellable in
        let bytes : written-to ++ counted_bytes (length own) own
        ≡ head_bytes from ++ flat_map frame_bytes (before.done ++ first.frame ∷ []) =
        ap (λ list. written-to ++ list) frame-is ∙ flat_map_more frame_bytes (head_bytes from) before.done first.frame in
        record {
          records = before.records;
          list = before.list;
          done = before.done ++ first.frame ∷ [];
          left = first.left;
          rest_is = record {
            spellable = parts.1;
            units_are = dropped ∙ ap (λ n. drop n rest) first.count ∙ ap (drop (end_of first.frame)) rest-frames
                ∙ drop-append_seam (units_of first.frame) (units_of first.left);
          };
          frames = before.frames ∙ frames-is ∙ sym (append_assoc before.done (first.frame ∷ []) (frames_of first.left));
          written = subst (λ list. AppendsBut old new list waiting') bytes
              (AppendsBut-trans old mid new written-to waiting before.written (counted_bytes (length own) own) waiting' put);
        }

    whole-stream : (records : List Rec) → AreUnitsOf units records
        → stream_of from records ≡ (written-to ++ counted_bytes (length own) own) ++
        (flat_map frame_bytes (frames_of first.left) ++ end_bytes)
    whole-stream records are =
        let later : List ℕ = flat_map frame_bytes (frames_of first.left) in
        let done : List ℕ = flat_map frame_bytes before.done in
        let frames = same-frames records are ∙ frames-is in
        ap (λ bytes. bytes ++ end_bytes) (ap (λ list. head_bytes from ++ flat_map frame_bytes list) frames
        ∙ ap (λ bytes. head_bytes from ++ bytes) (flat_map-append frame_bytes before.done (first.frame ∷ frames_of first.left))
        ∙ sym (append_assoc (head_bytes from) done (frame_bytes first.frame ++ later))
        ∙ sym (append_assoc written-to (frame_bytes first.frame) later))
        ∙ append_assoc (written-to ++ frame_bytes first.frame) later end_bytes
        ∙ ap (λ list. (written-to ++ list) ++ (later ++ end_bytes)) (sym frame-is)

    -- of the stream with one frame more a part is written
    pub shipping-cut : (new : Option (List ℕ)) (records : List Rec) → AreUnitsOf units records
        → AppendsPart mid new (waiting ++ counted_bytes (length own) own)
        → AppendsPart old new (stream_of from records)
    shipping-cut new records are cut =
        AppendsPart-append old new _ _ _ (AppendsBut-trans_part_of_piece old mid new written-to waiting before.written (counted_bytes (length own) own)
        cut) (whole-stream records are)

  -- all frames are written
  module _ (empty : length rest ≡ 0) (records : List Rec) (are : AreUnitsOf units records) where
    none-shipped : (left : List Rec) → before.left ≡ left → left ≡ []
    none-shipped [] is = refl
    none-shipped (rec ∷ later) is =
        absurd (omega (
          arith,
          empty,
          ap length before.rest_is.units_are,
          ap end_of is,
          size_of-positive rec,
          length-append (spelling rec) (units_of later),
        ))

    ended-stream : stream_of from records ≡ written-to ++ end_bytes
    ended-stream = ap (λ list. head_bytes from ++ flat_map frame_bytes list ++ end_bytes)
        (same-frames records are ∙ ap (λ left. before.done ++ frames_of left) (none-shipped before.left refl) ∙ append-nil before.done)

    pub shipping-end : (new : Option (List ℕ)) (waiting' : List ℕ) → AppendsBut mid new (waiting ++ end_bytes) waiting'
        → AppendsBut old new (stream_of from records) waiting'
    shipping-end new waiting' put = subst (λ list. AppendsBut old new list waiting') (sym ended-stream)
        (AppendsBut-trans old mid new written-to waiting before.written end_bytes waiting' put)

    pub shipping-end_cut : (new : Option (List ℕ)) → AppendsPart mid new (waiting ++ end_bytes)
        → AppendsPart old new (stream_of from records)
    shipping-end_cut new cut =
        subst (AppendsPart old new) (sym ended-stream) (AppendsBut-trans_part_of_piece old mid new written-to waiting before.written end_bytes cut)

-- ---- the units of a frame

module _ (block units waiting : List ℕ) (i unit : ℕ) (old mid : Option (List ℕ)) (within : i < length units) (is : unit ≡ get_or units i 0)
    (before : AppendsBut old mid (block ++ flat_map unit_bytes (take i units)) waiting) where
  one-more : (block ++ flat_map unit_bytes (take i units)) ++ unit_bytes unit ≡ block ++ flat_map unit_bytes (take (i + 1) units)
  one-more = flat_map_more unit_bytes block (take i units) unit
      ∙ ap (λ list. block ++ flat_map unit_bytes list) (ap (λ u. take i units ++ u ∷ []) is ∙ sym (take_more units i 0 within))

  pub appends_unit_bytes-push : (new : Option (List ℕ)) (waiting' : List ℕ) → AppendsBut mid new (waiting ++ unit_bytes unit) waiting'
      → AppendsBut old new (block ++ flat_map unit_bytes (take (i + 1) units)) waiting'
  appends_unit_bytes-push new waiting' put =
      subst (λ list. AppendsBut old new list waiting') one-more
      (AppendsBut-trans old mid new _ waiting before (unit_bytes unit) waiting' put)

  pub appends_unit_bytes-cut : (new : Option (List ℕ)) → AppendsPart mid new (waiting ++ unit_bytes unit)
      → AppendsPart old new (block ++ flat_map unit_bytes units)
  appends_unit_bytes-cut new cut =
      let rest : List ℕ = flat_map unit_bytes (drop (i + 1) units) in
      let whole : flat_map unit_bytes units ≡ flat_map unit_bytes (take (i + 1) units) ++ rest =
      ap (flat_map unit_bytes) (sym (take-append-drop (i + 1) units))
      ∙ flat_map-append unit_bytes (take (i + 1) units) (drop (i + 1) units) in
      AppendsPart-append old new _ _ rest (AppendsBut-trans_part_of_piece old mid new _ waiting before (unit_bytes unit) cut)
      (ap (λ list. block ++ list) whole ∙ sym (append_assoc block (flat_map unit_bytes (take (i + 1) units)) rest)
      ∙ ap (λ list. list ++ rest) (sym one-more))
