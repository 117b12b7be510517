-- Bytes hold one log at most, or have one fault.
use Rattle.std.proofs.Common.{◌≡◌, ◌≤◌, inl, inr, ◌∙◌, sym, ap, refl, ℕ, ◌+◌, List, [], ◌∷◌, ◌++◌, length, get_or, take, drop, arith, append_assoc, length-append, subst}
use Rattle.std.specs.List.{flat_map, AllByRecursion}
use Rattle.std.proofs.Props.{props}
use mathlib.Core.HLevel.{is_prop→PathP, ×_prop}
use Rattle.std.proofs.lemmas.List.Concat.{flat_map-append}
use Rattle.std.proofs.lemmas.Nat.{from_be_bytes-to_be_bytes_8}
use Rattle.std.proofs.lemmas.List.{append_cancel_left}
use Rattle.lsn_space.specs.declared.lsn.TheConstants.{LAST}
use Rattle.lsn_space.specs.Opening.{Opening, no_opening, IsSnapshot}
use Rattle.lsn_space.specs.Unit.{unit_bytes, unit_value}
use Rattle.segment_head.specs.Head.{head_magic}
use Rattle.segment_head.proofs.HeadLemmas.{snapshot_bytes-append_injective}
use Rattle.segment_file.specs.declared.layout.TheConstants.{OPEN}
use Rattle.segment_file.specs.File.{magic, batch, gated, joined, IsCountedBatch, AreUnits, BeginsOpen, BeginsAsLog, HasNoBatch}
use Rattle.segment_file.specs.Log.{Log, log_end, IsFront, first_format, second_format, ReadsTo, HoldsLog, IsBadSnapshot, IsBadBatchBehind, IsBadBatch, first_batch, later_batch}
use Rattle.segment_file.proofs.BatchLemmas.{count_at-batch}
use Rattle.segment_file.proofs.FileLemmas.{open_byte-begins_open}

-- units that stand at the same place are the same
same_units : (us vs x y : List ℕ) → AreUnits us → AreUnits vs → length us ≡ length vs
    → flat_map unit_bytes us ++ x ≡ flat_map unit_bytes vs ++ y → us ≡ vs
same_units [] [] x y is_us is_vs long same = refl
same_units [] (v ∷ vs) x y is_us is_vs long same = absurd (omega arith)
same_units (u ∷ us) [] x y is_us is_vs long same = absurd (omega arith)
same_units (u ∷ us) (v ∷ vs) x y is_us is_vs long same =
    let front : unit_bytes u ≡ unit_bytes v = ap (take 8) same in
    let back : flat_map unit_bytes us ++ x ≡ flat_map unit_bytes vs ++ y = ap (drop 8) same in
    let head : u ≡ v = sym (from_be_bytes-to_be_bytes_8 u is_us.0) ∙ ap unit_value front ∙ from_be_bytes-to_be_bytes_8 v is_vs.0 in
    let tail = same_units us vs x y is_us.1 is_vs.1 (omega arith) back in
    rw (head, tail) refl

-- batches that stand at the same place are the same
same_batch : (us vs x y : List ℕ) → IsCountedBatch us → IsCountedBatch vs → batch us ++ x ≡ batch vs ++ y → (us ≡ vs) × (x ≡ y)
unfolding batch
same_batch us vs x y is_us is_vs same =
    let long : length us ≡ length vs = sym (count_at-batch (batch us ++ x) us x is_us.most refl) ∙ count_at-batch (batch us ++ x) vs y is_vs.most same in
    let units : us ≡ vs = same_units us vs x y is_us.each is_vs.each long (ap (drop 4) same) in
    (units, append_cancel_left (batch vs) x y (subst (λ ws. batch ws ++ x ≡ batch vs ++ y) units same))

-- two lists of batches in front of the same bytes: they are the same, or one begins with the other
data Aligned (bs cs : List (List ℕ)) (x y : List ℕ) : Type 0 where
  same : bs ≡ cs → x ≡ y → Aligned bs cs x y
  longer : (c : List ℕ) (later : List (List ℕ)) → cs ≡ bs ++ c ∷ later → Aligned bs cs x y
  shorter : (b : List ℕ) (later : List (List ℕ)) → bs ≡ cs ++ b ∷ later → Aligned bs cs x y

Aligned-cons : (b c : List ℕ) (bs cs : List (List ℕ)) (x y : List ℕ) → b ≡ c → Aligned bs cs x y → Aligned (b ∷ bs) (c ∷ cs) x y
Aligned-cons b c bs cs x y first (same batches rest) = same (rw (first, batches) refl) rest
Aligned-cons b c bs cs x y first (longer d later is) = longer d later (rw (first, is) refl)
Aligned-cons b c bs cs x y first (shorter d later is) = shorter d later (rw (first, is) refl)

aligned_gated : (bs cs : List (List ℕ)) (x y : List ℕ) → AllByRecursion IsCountedBatch bs → AllByRecursion IsCountedBatch cs
    → flat_map gated bs ++ x ≡ flat_map gated cs ++ y → Aligned bs cs x y
aligned_gated [] [] x y is_bs is_cs whole = same refl whole
aligned_gated [] (c ∷ cs) x y is_bs is_cs whole = longer c cs refl
aligned_gated (b ∷ bs) [] x y is_bs is_cs whole = shorter b bs refl
aligned_gated (b ∷ bs) (c ∷ cs) x y is_bs is_cs whole =
    let apart : batch b ++ (flat_map gated bs ++ x) ≡ batch c ++ (flat_map gated cs ++ y) =
    ap (drop 1) (sym (append_assoc (gated b) (flat_map gated bs) x) ∙ whole ∙ append_assoc (gated c) (flat_map gated cs) y) in
    let first = same_batch b c _ _ is_bs.0 is_cs.0 apart in
    Aligned-cons b c bs cs x y first.0 (aligned_gated bs cs x y is_bs.1 is_cs.1 first.1)

-- ---- fronts

-- the seventh byte behind the first gate tells the formats apart
magics-apart : (x y : List ℕ) → OPEN ∷ magic ++ x ≡ OPEN ∷ head_magic ++ y → ⊥
magics-apart x y whole = let seventh : ◌≡◌ {A = ℕ} 49 50 = ap (λ list. get_or list 7 0) whole in absurd (omega (arith, seventh))

record SameFront (a b : Opening) (us vs x y : List ℕ) : Type 0 where
  opening : a ≡ b
  units : us ≡ vs
  rest : x ≡ y

-- fronts that stand at the same place are the same
same_front : (f g : List ℕ) (a b : Opening) (us vs x y : List ℕ) → IsFront f a us → IsFront g b vs → f ++ x ≡ g ++ y → SameFront a b us vs x y
same_front f g a b us vs x y (first_format nothing counted is) (first_format none also are) whole =
    let level : OPEN ∷ magic ++ batch us ++ x ≡ OPEN ∷ magic ++ batch vs ++ y = ap (λ list. list ++ x) (sym is) ∙ whole ∙ ap (λ list. list ++ y) are in
    let both = same_batch us vs x y counted also (ap (drop 8) level) in
    record { opening = nothing ∙ sym none; units = both.0; rest = both.1 }
same_front f g a b us vs x y (first_format nothing counted is) (second_format held none are) whole =
    absurd (magics-apart _ _ (ap (λ list. list ++ x) (sym is) ∙ whole ∙ ap (λ list. list ++ y) are))
same_front f g a b us vs x y (second_format held none is) (first_format nothing counted are) whole =
    absurd (magics-apart _ _ (ap (λ list. list ++ y) (sym are) ∙ sym whole ∙ ap (λ list. list ++ x) is))
same_front f g a b us vs x y (second_format held none is) (second_format also nothing are) whole =
    let both = snapshot_bytes-append_injective a b x y held also (ap (drop 8) (ap (λ list. list ++ x) (sym is) ∙ whole ∙ ap (λ list. list ++ y) are)) in
    record { opening = both.0; units = none ∙ sym nothing; rest = both.1 }

-- ---- two readings of the same bytes

-- a batch that follows, for which the log has room
record Next (log : Log) (rest : List ℕ) : Type 0 where
  units : List ℕ
  counted : IsCountedBatch units
  more : List ℕ
  is : rest ≡ gated units ++ more
  fits : log_end log + length units ≤ LAST

next-open : (log : Log) (rest : List ℕ) → Next log rest → BeginsOpen rest
unfolding batch
next-open log rest next = subst BeginsOpen (sym next.is) refl

next-none : (log : Log) (body : List ℕ) → Next log (OPEN ∷ body) → HasNoBatch (log_end log) body → ⊥
next-none log body next none = none next.units next.more next.counted (ap (drop 1) next.is) next.fits

counted-next : (bs : List (List ℕ)) (c : List ℕ) (later : List (List ℕ)) → AllByRecursion IsCountedBatch (bs ++ c ∷ later) → IsCountedBatch c
counted-next [] c later each = each.0
counted-next (first ∷ bs) c later each = counted-next bs c later each.1

-- an open gate behind the batches that both have
rest-next : (bs cs later : List (List ℕ)) (c x y : List ℕ) → cs ≡ bs ++ c ∷ later → flat_map gated bs ++ x ≡ flat_map gated cs ++ y
    → x ≡ gated c ++ (flat_map gated later ++ y)
rest-next bs cs later c x y is whole =
    let split : flat_map gated (bs ++ c ∷ later) ++ y ≡ flat_map gated bs ++ (gated c ++ (flat_map gated later ++ y)) =
    ap (λ bytes. bytes ++ y) (flat_map-append gated bs (c ∷ later)) ∙ append_assoc (flat_map gated bs) (gated c ++ flat_map gated later) y
    ∙ ap (λ bytes. flat_map gated bs ++ bytes) (append_assoc (gated c) (flat_map gated later) y) in
    append_cancel_left (flat_map gated bs) _ _ (whole ∙ ap (λ list. flat_map gated list ++ y) is ∙ split)

-- what follows the front
behind-front : (bytes : List ℕ) (log : Log) (rest : List ℕ) (reads : ReadsTo bytes log rest) → bytes ≡ reads.front ++ (flat_map gated reads.batches ++ rest)
behind-front bytes log rest reads = reads.whole ∙ append_assoc reads.front (flat_map gated reads.batches) rest

module _ (bytes : List ℕ) (a b : Log) (x y : List ℕ) (r : ReadsTo bytes a x) (s : ReadsTo bytes b y) where
  fronts : SameFront a.opening b.opening r.first s.first (flat_map gated r.batches ++ x) (flat_map gated s.batches ++ y)
  fronts = same_front r.front s.front a.opening b.opening r.first s.first _ _ r.begins s.begins (sym (behind-front bytes a x r) ∙ behind-front bytes b y s)

  sides : Aligned r.batches s.batches x y
  sides = aligned_gated r.batches s.batches x y r.each s.each fronts.rest

  -- the batch that the longer reading has next
  longer-next : (c : List ℕ) (later : List (List ℕ)) → s.batches ≡ r.batches ++ c ∷ later → Next a x
  longer-next c later is =
      let joined_is : joined s.batches ≡ joined r.batches ++ (c ++ joined later) = ap joined is ∙ flat_map-append (λ units. units) r.batches (c ∷ later) in
      record {
        units = c;
        counted = counted-next r.batches c later (subst (λ list. AllByRecursion IsCountedBatch list) is s.each);
        more = flat_map gated later ++ y;
        is = rest-next r.batches s.batches later c x y is fronts.rest;
        fits = omega (
          arith,
          s.total,
          ap (λ (opening : Opening). opening.lsn) fronts.opening,
          ap length fronts.units,
          ap length r.units,
          ap length s.units,
          ap length joined_is,
          length-append r.first (joined r.batches),
          length-append s.first (joined s.batches),
          length-append (joined r.batches) (c ++ joined later),
          length-append c (joined later),
        );
      }

  same-log : r.batches ≡ s.batches → a ≡ b
  same-log batches =
      let units : a.units ≡ b.units = r.units ∙ (λ i. fronts.units i ++ joined (batches i)) ∙ sym s.units in
      λ i. record { opening = fronts.opening i; units = units i }

-- ---- the law

pub one_reading-log : (bytes : List ℕ) (a b : Log) → HoldsLog bytes a → HoldsLog bytes b → a ≡ b
one_reading-log bytes a b held also = by_sides (sides bytes a b held.rest also.rest held.reads also.reads)
  where
    by_sides : Aligned held.reads.batches also.reads.batches held.rest also.rest → a ≡ b
    by_sides (same batches rest) = same-log bytes a b held.rest also.rest held.reads also.reads batches
    by_sides (longer c later is) = absurd (held.closed (next-open a held.rest (longer-next bytes a b held.rest also.rest held.reads also.reads c later is)))
    by_sides (shorter c later is) = absurd (also.closed (next-open b also.rest (longer-next bytes b a also.rest held.rest also.reads held.reads c later is)))

-- what is read begins as a log
reads-begins : (bytes : List ℕ) (log : Log) (rest : List ℕ) (reads : ReadsTo bytes log rest) → IsFront reads.front log.opening reads.first → BeginsAsLog bytes
reads-begins bytes log rest reads (first_format nothing counted is) =
    inl (batch reads.first ++ (flat_map gated reads.batches ++ rest), behind-front bytes log rest reads ∙ ap (λ list. list ++ (flat_map gated reads.batches ++ rest)) is)
reads-begins bytes log rest reads (second_format held none is) =
    inr (_, behind-front bytes log rest reads ∙ ap (λ list. list ++ (flat_map gated reads.batches ++ rest)) is)

pub HoldsLog-begins_as_log : (bytes : List ℕ) (log : Log) → HoldsLog bytes log → BeginsAsLog bytes
HoldsLog-begins_as_log bytes log held = reads-begins bytes log held.rest held.reads held.reads.begins

-- a bad batch stands in a log
pub bad_batch-begins_as_log : (bytes : List ℕ) (offset : ℕ) → IsBadBatch bytes offset → BeginsAsLog bytes
bad_batch-begins_as_log bytes offset (first_batch body begins none place) = inl (body, begins)
bad_batch-begins_as_log bytes offset (later_batch log bad) = reads-begins bytes log (OPEN ∷ bad.body) bad.reads bad.reads.begins

-- what is read has no bad snapshot
reads-snapshot : (bytes : List ℕ) (log : Log) (rest : List ℕ) (reads : ReadsTo bytes log rest) → IsFront reads.front log.opening reads.first → IsBadSnapshot bytes → ⊥
reads-snapshot bytes log rest reads (first_format nothing counted is) bad =
    magics-apart _ _ (ap (λ list. list ++ (flat_map gated reads.batches ++ rest)) (sym is) ∙ sym (behind-front bytes log rest reads) ∙ bad.second.1)
reads-snapshot bytes log rest reads (second_format held none is) bad =
    bad.none log.opening (flat_map gated reads.batches ++ rest) held (behind-front bytes log rest reads ∙ ap (λ list. list ++ (flat_map gated reads.batches ++ rest)) is)

pub HoldsLog-no_bad_snapshot : (bytes : List ℕ) (log : Log) → HoldsLog bytes log → IsBadSnapshot bytes → ⊥
HoldsLog-no_bad_snapshot bytes log held bad = reads-snapshot bytes log held.rest held.reads held.reads.begins bad

-- what is read has a first batch, or a head
reads-first : (bytes : List ℕ) (log : Log) (rest : List ℕ) (reads : ReadsTo bytes log rest) → IsFront reads.front log.opening reads.first
    → (body : List ℕ) → bytes ≡ OPEN ∷ magic ++ body → HasNoBatch 0 body → ⊥
reads-first bytes log rest reads (first_format nothing counted is) body begins none =
    let level : OPEN ∷ magic ++ body ≡ OPEN ∷ magic ++ batch reads.first ++ (flat_map gated reads.batches ++ rest) =
    sym begins ∙ behind-front bytes log rest reads ∙ ap (λ list. list ++ (flat_map gated reads.batches ++ rest)) is in
    none reads.first (flat_map gated reads.batches ++ rest) counted (ap (drop 8) level) (let most = counted.most in omega arith)
reads-first bytes log rest reads (second_format held no_units is) body begins none =
    magics-apart _ _ (sym begins ∙ behind-front bytes log rest reads ∙ ap (λ list. list ++ (flat_map gated reads.batches ++ rest)) is)

held-not_bad : (bytes : List ℕ) (log other : Log) (offset : ℕ) → HoldsLog bytes log → IsBadBatchBehind bytes other offset → ⊥
held-not_bad bytes log other offset held bad = by_sides (sides bytes log other held.rest (OPEN ∷ bad.body) held.reads bad.reads)
  where
    by_sides : Aligned held.reads.batches bad.reads.batches held.rest (OPEN ∷ bad.body) → ⊥
    by_sides (same batches rest) = held.closed (open_byte-begins_open held.rest bad.body rest bad.some)
    by_sides (longer c later is) = held.closed (next-open log held.rest (longer-next bytes log other held.rest (OPEN ∷ bad.body) held.reads bad.reads c later is))
    by_sides (shorter c later is) = next-none other bad.body (longer-next bytes other log (OPEN ∷ bad.body) held.rest bad.reads held.reads c later is) bad.none

pub HoldsLog-no_bad_batch : (bytes : List ℕ) (log : Log) (offset : ℕ) → HoldsLog bytes log → IsBadBatch bytes offset → ⊥
HoldsLog-no_bad_batch bytes log offset held (first_batch body begins none place) = reads-first bytes log held.rest held.reads held.reads.begins body begins none
HoldsLog-no_bad_batch bytes log offset held (later_batch other bad) = held-not_bad bytes log other offset held bad

pub bad_snapshot-no_bad_batch : (bytes : List ℕ) (offset : ℕ) → IsBadSnapshot bytes → IsBadBatch bytes offset → ⊥
bad_snapshot-no_bad_batch bytes offset snapshot (first_batch body begins none place) = magics-apart _ _ (sym begins ∙ snapshot.second.1)
bad_snapshot-no_bad_batch bytes offset snapshot (later_batch log bad) = reads-snapshot bytes log (OPEN ∷ bad.body) bad.reads bad.reads.begins snapshot

-- a bad batch is the first one
later-place : (bytes : List ℕ) (p q : Log) (a b : ℕ) → IsBadBatchBehind bytes p a → IsBadBatchBehind bytes q b → a ≡ b
later-place bytes p q a b bad also = by_sides (sides bytes p q (OPEN ∷ bad.body) (OPEN ∷ also.body) bad.reads also.reads)
  where
    by_sides : Aligned bad.reads.batches also.reads.batches (OPEN ∷ bad.body) (OPEN ∷ also.body) → a ≡ b
    by_sides (same batches rest) = omega (arith, bad.place, also.place, ap length rest)
    by_sides (longer c later is) =
        absurd (next-none p bad.body (longer-next bytes p q (OPEN ∷ bad.body) (OPEN ∷ also.body) bad.reads also.reads c later is) bad.none)
    by_sides (shorter c later is) =
        absurd (next-none q also.body (longer-next bytes q p (OPEN ∷ also.body) (OPEN ∷ bad.body) also.reads bad.reads c later is) also.none)

pub bad_batch-unique : (bytes : List ℕ) (a b : ℕ) → IsBadBatch bytes a → IsBadBatch bytes b → a ≡ b
bad_batch-unique bytes a b (first_batch body begins none place) (first_batch other also nothing there) = place ∙ sym there
bad_batch-unique bytes a b (first_batch body begins none place) (later_batch q also) =
    absurd (reads-first bytes q (OPEN ∷ also.body) also.reads also.reads.begins body begins none)
bad_batch-unique bytes a b (later_batch p bad) (first_batch body begins none place) =
    absurd (reads-first bytes p (OPEN ∷ bad.body) bad.reads bad.reads.begins body begins none)
bad_batch-unique bytes a b (later_batch p bad) (later_batch q also) = later-place bytes p q a b bad also

-- ---- that bytes hold a log is one fact

list-set : IsSet (List ℕ)
list-set = hlevel props

units-prop : (units : List ℕ) → IsProp (AreUnits units)
units-prop units = hlevel props

counted-prop : (units : List ℕ) → IsProp (IsCountedBatch units)
counted-prop units = hlevel (props, units-prop)

all_counted-prop : (batches : List (List ℕ)) → IsProp (AllByRecursion IsCountedBatch batches)
all_counted-prop [] = hlevel props
all_counted-prop (units ∷ batches) = ×_prop (counted-prop units) (all_counted-prop batches)

opening-set : IsSet Opening
opening-set = hlevel props

snapshot-prop : (opening : Opening) → IsProp (IsSnapshot opening)
snapshot-prop opening = hlevel props

-- an opening that has accounts is some opening
no-snapshot : (opening : Opening) → opening ≡ no_opening → IsSnapshot opening → ⊥
no-snapshot opening none held = omega (arith, held.some, ap (λ (o : Opening). length o.accounts) none)

front-prop : (front : List ℕ) (opening : Opening) (units : List ℕ) → IsProp (IsFront front opening units)
front-prop front opening units (first_format none counted is) (first_format also held are) =
    λ i. first_format (opening-set _ _ none also i) (counted-prop units counted held i) (list-set _ _ is are i)
front-prop front opening units (second_format held none is) (second_format also nothing are) =
    λ i. second_format (snapshot-prop opening held also i) (list-set _ _ none nothing i) (list-set _ _ is are i)
front-prop front opening units (first_format none counted is) (second_format held nothing are) = absurd (no-snapshot opening none held)
front-prop front opening units (second_format held nothing is) (first_format none counted are) = absurd (no-snapshot opening none held)

one-front : (f g : List ℕ) (opening : Opening) (us vs : List ℕ) → IsFront f opening us → IsFront g opening vs → us ≡ vs → f ≡ g
one-front f g opening us vs (first_format none counted is) (first_format also held are) level = is ∙ ap (λ ws. OPEN ∷ magic ++ batch ws) level ∙ sym are
one-front f g opening us vs (second_format held none is) (second_format also nothing are) level = is ∙ sym are
one-front f g opening us vs (first_format none counted is) (second_format held nothing are) level = absurd (no-snapshot opening none held)
one-front f g opening us vs (second_format held nothing is) (first_format none counted are) level = absurd (no-snapshot opening none held)

module _ (bytes : List ℕ) (log : Log) (a b : HoldsLog bytes log) where
  same-batches : (a.reads.batches ≡ b.reads.batches) × (a.rest ≡ b.rest)
  same-batches = by_sides (sides bytes log log a.rest b.rest a.reads b.reads)
    where
      by_sides : Aligned a.reads.batches b.reads.batches a.rest b.rest → (a.reads.batches ≡ b.reads.batches) × (a.rest ≡ b.rest)
      by_sides (same batches rest) = (batches, rest)
      by_sides (longer c later is) = absurd (a.closed (next-open log a.rest (longer-next bytes log log a.rest b.rest a.reads b.reads c later is)))
      by_sides (shorter c later is) = absurd (b.closed (next-open log b.rest (longer-next bytes log log b.rest a.rest b.reads a.reads c later is)))

  pub HoldsLog-prop : a ≡ b
  HoldsLog-prop =
      let batches = same-batches.0 in
      let rest = same-batches.1 in
      let first = (fronts bytes log log a.rest b.rest a.reads b.reads).units in
      let front = one-front a.reads.front b.reads.front log.opening a.reads.first b.reads.first a.reads.begins b.reads.begins first in
      λ i. record {
        rest = rest i;
        reads = record {
          front = front i;
          first = first i;
          begins = is_prop→PathP (λ j. IsFront (front j) log.opening (first j)) (λ j. front-prop (front j) log.opening (first j)) a.reads.begins b.reads.begins i;
          batches = batches i;
          each = is_prop→PathP (λ j. AllByRecursion IsCountedBatch (batches j)) (λ j. all_counted-prop (batches j)) a.reads.each b.reads.each i;
          units = is_prop→PathP (λ j. log.units ≡ first j ++ joined (batches j)) (λ j. list-set _ _) a.reads.units b.reads.units i;
          total = total-prop a.reads.total b.reads.total i;
          whole = is_prop→PathP (λ j. bytes ≡ front j ++ flat_map gated (batches j) ++ rest j) (λ j. list-set _ _) a.reads.whole b.reads.whole i;
        };
        closed = is_prop→PathP (λ j. BeginsOpen (rest j) → ⊥) (λ j. closed-prop (rest j)) a.closed b.closed i;
      }
    where
      total-prop : IsProp (log_end log ≤ LAST)
      total-prop = hlevel props

      closed-prop : (rest : List ℕ) → IsProp (BeginsOpen rest → ⊥)
      closed-prop rest = hlevel
