-- Bytes have one reading as a stream.
use Rattle.std.proofs.Common.{◌≡◌, ◌<◌, ◌≤◌, ◌∙◌, sym, ap, subst, refl, ℕ, ◌+◌, List, [], ◌∷◌, ◌++◌, length, arith, length-append, append_assoc, append-nil}
use Rattle.std.specs.List.{flat_map, AllByRecursion}
use Rattle.std.specs.Int.{w32, to_be_bytes}
use Rattle.std.proofs.lemmas.List.Concat.{flat_map-append}
use Rattle.std.proofs.lemmas.List.{append_cancel_left}
use Rattle.lsn_space.specs.Unit.{unit_bytes}
use Rattle.lsn_space.specs.declared.lsn.TheConstants.{LAST}
use Rattle.lsn_space.proofs.UnitLemmas.{length-unit_bytes}
use Rattle.log_record.specs.declared.rec.Rec.{Rec}
use Rattle.log_record.specs.LogList.{units_of, end_of}
use Rattle.log_record.proofs.LogListLemmas.{end_of-append}
use Rattle.ship_stream.specs.Came.{Came, HasCome, IsBegun, count_begun, units_begun, IsBadBehind, IsBadStream}
use Rattle.ship_stream.specs.Came.Came.{NoHead, Open, Whole}
use Rattle.ship_stream.specs.Stream.{head_bytes, counted_bytes, frame_bytes, end_bytes, records_of, frames_end, IsFrame, HasFrames, IsStream, HasNoFrame, HasNoEnd}
use Rattle.ship_stream.proofs.FrameLemmas.{same_number, same_head, length-head, length-frame, end-no_frame, Aligned, same, longer, shorter, aligned_frames}

-- ---- what may follow the frames

-- a frame that follows, and has room
record Next (lsn : ℕ) (rest : List ℕ) : Type 0 where
  records : List Rec
  frame : IsFrame records
  fits : lsn + end_of records ≤ LAST
  more : List ℕ
  is : rest ≡ frame_bytes records ++ more

next-none : (lsn : ℕ) (rest : List ℕ) → Next lsn rest → HasNoFrame lsn rest → ⊥
next-none lsn rest next none = none next.records next.more next.frame next.fits next.is

-- a number in front of the bytes
units_begun-number : (lsn count other : ℕ) (rest body more : List ℕ) → count < 4294967296 → other < 4294967296
    → rest ≡ to_be_bytes w32 count ++ body
    → rest ≡ to_be_bytes w32 other ++ more → (count ≡ other) × (body ≡ more)
units_begun-number lsn count other rest body more fits also is are = same_number count other body more fits also (sym is ∙ are)

pub begun-no_frame : (lsn : ℕ) (rest : List ℕ) → IsBegun lsn rest → HasNoFrame lsn rest
unfolding counted_bytes
begun-no_frame lsn rest (count_begun short) = λ records more frame fits is. omega (arith, ap length is, length-frame records more)
begun-no_frame lsn rest (units_begun count body some most fits is short) = λ records more frame room are.
    let number =
    units_begun-number lsn count (end_of records) rest body (flat_map unit_bytes (units_of records) ++ more) (omega arith)
    (omega (arith, frame.most)) is are in
    omega (
      arith,
      number.0,
      ap length number.1,
      length-append (flat_map unit_bytes (units_of records)) more,
      length-unit_bytes (units_of records),
    )

pub begun-no_end : (lsn : ℕ) (rest : List ℕ) → IsBegun lsn rest → HasNoEnd rest
begun-no_end lsn rest (count_begun short) = λ more is. omega (arith, ap length is)
begun-no_end lsn rest (units_begun count body some most fits is short) = λ more are.
    let number = units_begun-number lsn count 0 rest body more (omega arith) (omega arith) is are in omega (arith, number.0)

pub end-has_no_frame : (lsn : ℕ) (rest : List ℕ) → HasNoFrame lsn (end_bytes ++ rest)
end-has_no_frame lsn rest = λ records more frame fits is. end-no_frame records rest more frame is

-- ---- two readings of the same bytes

each-first : (fs : List (List Rec)) (c : List Rec) (later : List (List Rec)) → AllByRecursion IsFrame (fs ++ c ∷ later) → IsFrame c
each-first [] c later each = each.0
each-first (a ∷ fs) c later each = each-first fs c later each.1

pub records_of-append : (fs gs : List (List Rec)) → records_of (fs ++ gs) ≡ records_of fs ++ records_of gs
records_of-append fs gs = flat_map-append (λ records. records) fs gs

-- the frame that the longer reading has next
rest-next : (fs gs later : List (List Rec)) (c : List Rec) (x y : List ℕ) → gs ≡ fs ++ c ∷ later
    → flat_map frame_bytes fs ++ x ≡ flat_map frame_bytes gs ++ y → x ≡ frame_bytes c ++ (flat_map frame_bytes later ++ y)
rest-next fs gs later c x y is whole =
    let split : flat_map frame_bytes (fs ++ c ∷ later) ++ y
    ≡ flat_map frame_bytes fs ++ (frame_bytes c ++ (flat_map frame_bytes later ++ y)) =
    ap (λ bytes. bytes ++ y) (flat_map-append frame_bytes fs (c ∷ later))
    ∙ append_assoc (flat_map frame_bytes fs) (frame_bytes c ++ flat_map frame_bytes later) y
    ∙ ap (λ bytes. flat_map frame_bytes fs ++ bytes) (append_assoc (frame_bytes c) (flat_map frame_bytes later) y) in
    append_cancel_left (flat_map frame_bytes fs) _ _ (whole ∙ ap (λ list. flat_map frame_bytes list ++ y) is ∙ split)

behind-head : (bytes : List ℕ) (first : ℕ) (frames : List (List Rec)) (rest : List ℕ) → HasFrames bytes first frames rest
    → bytes ≡ head_bytes first ++ (flat_map frame_bytes frames ++ rest)
behind-head bytes first frames rest reads = reads.whole ∙ append_assoc (head_bytes first) (flat_map frame_bytes frames) rest

first-fits : (bytes : List ℕ) (first : ℕ) (frames : List (List Rec)) (rest : List ℕ) → HasFrames bytes first frames rest → first ≤ LAST
first-fits bytes first frames rest reads = omega (arith, reads.total)

module _ (bytes : List ℕ) (a b : ℕ) (fs gs : List (List Rec)) (x y : List ℕ) (r : HasFrames bytes a fs x) (s : HasFrames bytes b gs y) where
  heads : (a ≡ b) × (flat_map frame_bytes fs ++ x ≡ flat_map frame_bytes gs ++ y)
  heads = same_head a b _ _ (omega (arith, first-fits bytes a fs x r)) (omega (arith, first-fits bytes b gs y s))
      (sym (behind-head bytes a fs x r) ∙ behind-head bytes b gs y s)

  sides : Aligned fs gs x y
  sides = aligned_frames fs gs x y r.each s.each heads.1

  longer-next : (c : List Rec) (later : List (List Rec)) → gs ≡ fs ++ c ∷ later → Next (frames_end a fs) x
  longer-next c later is =
      let ends = ap (λ frames. end_of (records_of frames)) is ∙ ap end_of (records_of-append fs (c ∷ later))
      ∙ end_of-append (records_of fs) (c ++ records_of later) in
      record {
        records = c;
        frame = each-first fs c later (subst (AllByRecursion IsFrame) is s.each);
        fits = omega (arith, s.total, heads.0, ends, end_of-append c (records_of later));
        more = flat_map frame_bytes later ++ y;
        is = rest-next fs gs later c x y is heads.1;
      }

-- where no frame follows, two readings are the same
record Same (a b : ℕ) (fs gs : List (List Rec)) (x y : List ℕ) : Type 0 where
  first : a ≡ b
  frames : fs ≡ gs
  rest : x ≡ y

one-reading : (bytes : List ℕ) (a b : ℕ) (fs gs : List (List Rec)) (x y : List ℕ) → HasFrames bytes a fs x → HasFrames bytes b gs y
    → HasNoFrame (frames_end a fs) x → HasNoFrame (frames_end b gs) y → Same a b fs gs x y
one-reading bytes a b fs gs x y r s none also = by_sides (sides bytes a b fs gs x y r s)
  where
    by_sides : Aligned fs gs x y → Same a b fs gs x y
    by_sides (same frames rest) = record { first = (heads bytes a b fs gs x y r s).0; frames = frames; rest = rest }
    by_sides (longer c later is) = absurd (next-none _ x (longer-next bytes a b fs gs x y r s c later is) none)
    by_sides (shorter c later is) = absurd (next-none _ y (longer-next bytes b a gs fs y x s r c later is) also)

-- ---- the law

too-short : (bytes : List ℕ) (first : ℕ) (frames : List (List Rec)) (rest : List ℕ) → HasFrames bytes first frames rest
    → length bytes < 11 → ⊥
too-short bytes first frames rest reads short =
    omega (arith, short, ap length (behind-head bytes first frames rest reads), length-head first (flat_map frame_bytes frames ++ rest))

pub one_stream-come : (bytes : List ℕ) (a b : Came) → HasCome bytes a → HasCome bytes b → a ≡ b
one_stream-come bytes NoHead NoHead has also = refl
one_stream-come bytes NoHead (Open b gs) has also = absurd (too-short bytes b gs also.0 also.1 has)
one_stream-come bytes NoHead (Whole b gs) has also = absurd (too-short bytes b gs end_bytes also has)
one_stream-come bytes (Open a fs) NoHead has also = absurd (too-short bytes a fs has.0 has.1 also)
one_stream-come bytes (Whole a fs) NoHead has also = absurd (too-short bytes a fs end_bytes has also)
one_stream-come bytes (Open a fs) (Open b gs) has also =
    let one = one-reading bytes a b fs gs has.0 also.0 has.1 also.1 (begun-no_frame _ has.0 has.2) (begun-no_frame _ also.0 also.2) in
    λ i. Open (one.first i) (one.frames i)
one_stream-come bytes (Open a fs) (Whole b gs) has also =
    let one = one-reading bytes a b fs gs has.0 end_bytes has.1 also (begun-no_frame _ has.0 has.2) (end-has_no_frame _ []) in
    absurd (begun-no_end _ has.0 has.2 [] one.rest)
one_stream-come bytes (Whole a fs) (Open b gs) has also =
    let one = one-reading bytes a b fs gs end_bytes also.0 has also.1 (end-has_no_frame _ []) (begun-no_frame _ also.0 also.2) in
    absurd (begun-no_end _ also.0 also.2 [] (sym one.rest))
one_stream-come bytes (Whole a fs) (Whole b gs) has also =
    let one = one-reading bytes a b fs gs end_bytes end_bytes has also (end-has_no_frame _ []) (end-has_no_frame _ []) in
    λ i. Whole (one.first i) (one.frames i)

pub one_stream-front : (bytes : List ℕ) (first other : ℕ) (frames begun : List (List Rec)) (rest : List ℕ) → IsStream bytes first frames
    → HasFrames bytes other begun rest → (other ≡ first) × (later : List (List Rec)) × (frames ≡ begun ++ later)
one_stream-front bytes first other frames begun rest stream reads =
    by_sides (sides bytes other first begun frames rest end_bytes reads stream)
  where
    by_sides : Aligned begun frames rest end_bytes → (other ≡ first) × (later : List (List Rec)) × (frames ≡ begun ++ later)
    by_sides (same frames behind) = ((heads bytes other first _ _ _ _ reads stream).0, [], sym frames ∙ sym (append-nil begun))
    by_sides (longer c later is) = ((heads bytes other first _ _ _ _ reads stream).0, c ∷ later, is)
    by_sides (shorter c later is) =
        absurd (next-none _ end_bytes (longer-next bytes first other _ _ _ _ stream reads c later is) (end-has_no_frame _ []))

-- a bad part has no frame in front of it that has room
bad-none : (bytes : List ℕ) (first : ℕ) (frames : List (List Rec)) (came : Came) (offset : ℕ) → HasFrames bytes first frames end_bytes
    → IsBadBehind came bytes offset → ⊥
bad-none bytes first frames NoHead offset stream bad =
    bad.0 first (flat_map frame_bytes frames ++ end_bytes) (first-fits bytes first frames end_bytes stream)
    (behind-head bytes first frames end_bytes stream)
bad-none bytes first frames (Open b gs) offset stream bad =
    let one = one-reading bytes first b frames gs end_bytes bad.0 stream bad.1 (end-has_no_frame _ []) bad.2 in
    bad.3 [] (sym one.rest)
bad-none bytes first frames (Whole b gs) offset stream bad =
    let one = one-reading bytes first b frames gs end_bytes (end_bytes ++ bad.0) stream bad.1 (end-has_no_frame _ [])
    (end-has_no_frame _ bad.0) in
    omega (arith, bad.2, ap length one.rest)

pub is_stream-not_bad_stream : (bytes : List ℕ) (first : ℕ) (frames : List (List Rec)) (offset : ℕ) → IsStream bytes first frames
    → IsBadStream bytes offset → ⊥
is_stream-not_bad_stream bytes first frames offset stream bad = bad-none bytes first frames bad.0 offset stream bad.1

one-bad : (bytes : List ℕ) (c d : Came) (a b : ℕ) → IsBadBehind c bytes a → IsBadBehind d bytes b → a ≡ b
one-bad bytes NoHead NoHead a b bad also = bad.1 ∙ sym also.1
one-bad bytes NoHead (Open m ms) a b bad also =
    absurd (bad.0 m (flat_map frame_bytes ms ++ also.0) (first-fits bytes m ms also.0 also.1) (behind-head bytes m ms also.0 also.1))
one-bad bytes NoHead (Whole m ms) a b bad also =
    absurd (bad.0 m (flat_map frame_bytes ms ++ (end_bytes ++ also.0)) (first-fits bytes m ms _ also.1) (behind-head bytes m ms _ also.1))
one-bad bytes (Open l ls) NoHead a b bad also =
    absurd (also.0 l (flat_map frame_bytes ls ++ bad.0) (first-fits bytes l ls bad.0 bad.1) (behind-head bytes l ls bad.0 bad.1))
one-bad bytes (Whole l ls) NoHead a b bad also =
    absurd (also.0 l (flat_map frame_bytes ls ++ (end_bytes ++ bad.0)) (first-fits bytes l ls _ bad.1) (behind-head bytes l ls _ bad.1))
one-bad bytes (Open l ls) (Open m ms) a b bad also =
    let one = one-reading bytes l m ls ms bad.0 also.0 bad.1 also.1 bad.2 also.2 in omega (arith, ap length one.rest, bad.4, also.4)
one-bad bytes (Open l ls) (Whole m ms) a b bad also =
    let one = one-reading bytes l m ls ms bad.0 (end_bytes ++ also.0) bad.1 also.1 bad.2 (end-has_no_frame _ also.0) in
    absurd (bad.3 also.0 one.rest)
one-bad bytes (Whole l ls) (Open m ms) a b bad also =
    let one = one-reading bytes l m ls ms (end_bytes ++ bad.0) also.0 bad.1 also.1 (end-has_no_frame _ bad.0) also.2 in
    absurd (also.3 bad.0 (sym one.rest))
one-bad bytes (Whole l ls) (Whole m ms) a b bad also =
    let one = one-reading bytes l m ls ms (end_bytes ++ bad.0) (end_bytes ++ also.0) bad.1 also.1 (end-has_no_frame _ bad.0)
    (end-has_no_frame _ also.0) in
    omega (arith, ap length one.rest, bad.3, also.3)

pub bad_stream_offset-unique : (bytes : List ℕ) (a b : ℕ) → IsBadStream bytes a → IsBadStream bytes b → a ≡ b
bad_stream_offset-unique bytes a b bad also = one-bad bytes bad.0 also.0 a b bad.1 also.1
