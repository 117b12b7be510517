-- How the units of a frame are taken from bytes.
use Rattle.std.proofs.Common.{◌≡◌, ◌<◌, ◌≤◌, ◌∙◌, sym, ap, subst, ℕ, ◌+◌, ◌-◌, ◌^◌, List, [], ◌∷◌, ◌++◌, length, take, drop, arith, length-append, append_assoc, append-nil}
use Rattle.std.specs.List.{flat_map}
use Rattle.std.proofs.lemmas.List.{length-drop}
use Rattle.std.proofs.Math.Seq.{take-add, take-append_seam}
use Rattle.std.proofs.lemmas.List.Concat.{flat_map-append}
use Rattle.lsn_space.specs.Unit.{unit_bytes}
use Rattle.lsn_space.proofs.TilingLemmas.{all-push}
use Rattle.segment_file.specs.File.{AreUnits}
use Rattle.segment_file.specs.PackedBatch.{BatchState}
use Rattle.stream_reader.specs.Pushing.{PushesBytes}
use Rattle.stream_reader.specs.Reader.{units_bytes}

-- what was taken of a piece of which this rest is left
pub take_minus_rest-taken : (piece taken rest : List ℕ) → piece ≡ taken ++ rest → take (length piece - length rest) piece ≡ taken
take_minus_rest-taken piece taken rest is =
    let count : length piece - length rest ≡ length taken = omega (arith, ap length is, length-append taken rest) in
    ap (λ n. take n piece) count ∙ ap (take (length taken)) is ∙ take-append_seam taken rest

-- one unit more
pub unit_bytes-push : (units : List ℕ) (unit : ℕ) → flat_map unit_bytes (units ++ unit ∷ []) ≡ flat_map unit_bytes units ++ unit_bytes unit
unit_bytes-push units unit = flat_map-append unit_bytes units (unit ∷ [])
    ∙ ap (λ list. flat_map unit_bytes units ++ list) (append-nil (unit_bytes unit))

-- units of a front of the piece were pushed behind the old ones
pub record IsPushing (old new piece rest : List ℕ) : Type 0 where
  pub taken : List ℕ
  pub split : piece ≡ taken ++ rest
  pub bytes : flat_map unit_bytes new ≡ flat_map unit_bytes old ++ taken
  pub fit : AreUnits old → AreUnits new

pub pushing-more : (old new piece rest after after_units : List ℕ) (unit : ℕ) → IsPushing old new piece rest → unit < 2 ^ 64
    → rest ≡ unit_bytes unit ++ after
    → after_units ≡ new ++ unit ∷ [] → IsPushing old after_units piece after
pushing-more old new piece rest after after_units unit before fits front pushed = record {
  taken = before.taken ++ unit_bytes unit;
  split = before.split ∙ ap (λ list. before.taken ++ list) front ∙ sym (append_assoc before.taken (unit_bytes unit) after);
  bytes = ap (flat_map unit_bytes) pushed ∙ unit_bytes-push new unit ∙ ap (λ list. list ++ unit_bytes unit) before.bytes
      ∙ append_assoc (flat_map unit_bytes old) before.taken (unit_bytes unit);
  fit = λ fit. subst AreUnits (sym pushed) (all-push (λ unit. unit < 2 ^ 64) new unit (before.fit fit) fits);
}

pushing-bytes : (old new piece rest : List ℕ) → IsPushing old new piece rest
    → units_bytes new [] ≡ units_bytes old [] ++ take (length piece - length rest) piece
pushing-bytes old new piece rest pushing =
    append-nil (flat_map unit_bytes new) ∙ pushing.bytes
    ∙ ap (λ list. flat_map unit_bytes old ++ list) (sym (take_minus_rest-taken piece pushing.taken rest pushing.split))
    ∙ ap (λ list. list ++ take (length piece - length rest) piece) (sym (append-nil (flat_map unit_bytes old)))

pub IsPushing-PushesBytes : (old new : BatchState) (piece rest : List ℕ) → IsPushing old.units new.units piece rest → new.room ≡ old.room
    → PushesBytes old new [] [] piece (length piece - length rest)
IsPushing-PushesBytes old new piece rest pushing room = record {
  within = omega arith;
  bytes = pushing-bytes old.units new.units piece rest pushing;
  fit = pushing.fit;
  room = room;
}

-- two fronts, one behind the other
pub append_take-trans : (x y z piece : List ℕ) (a b : ℕ) → y ≡ x ++ take a piece → z ≡ y ++ take b (drop a piece) → z ≡ x ++ take (a + b) piece
append_take-trans x y z piece a b first second =
    second ∙ ap (λ list. list ++ take b (drop a piece)) first ∙ append_assoc x (take a piece) (take b (drop a piece))
    ∙ ap (λ list. x ++ list) (sym (take-add a b piece))

-- first the unit under way, and then whole ones
module _ (old begun mid after new piece rest : List ℕ) (a b : ℕ) (rest_is : rest ≡ drop a piece) (empty : after ≡ [])
    (first : units_bytes mid after ≡ units_bytes old begun ++ take a piece)
    (second : units_bytes new [] ≡ units_bytes mid [] ++ take b rest) where
  pushed : units_bytes new [] ≡ units_bytes old begun ++ take (a + b) piece
  pushed = append_take-trans (units_bytes old begun) (units_bytes mid []) (units_bytes new []) piece a b
      (subst (λ list. units_bytes mid list ≡ units_bytes old begun ++ take a piece) empty first) (second
      ∙ ap (λ list. units_bytes mid [] ++ take b list) rest_is)

  bytes-pushed : units_bytes new after ≡ units_bytes old begun ++ take (a + b) piece
  bytes-pushed = ap (λ list. units_bytes new list) empty ∙ pushed

  -- and the bytes of one that isn't whole
  bytes-left : (left behind : List ℕ) (c : ℕ) → behind ≡ drop (a + b) piece → left ≡ after ++ take c behind
      → units_bytes new left ≡ units_bytes old begun ++ take (a + b + c) piece
  bytes-left left behind c behind_is left_is =
      append_take-trans (units_bytes old begun) (units_bytes new []) (units_bytes new left) piece (a + b) c pushed
      (ap (λ list. units_bytes new list) (left_is ∙ ap (λ list. list ++ take c behind) empty ∙ ap (take c) behind_is)
      ∙ ap (λ list. list ++ take c (drop (a + b) piece)) (sym (append-nil (flat_map unit_bytes new))))

module _ {old mid new : BatchState} {begun after piece rest : List ℕ} {a b : ℕ} (rest_is : rest ≡ drop a piece) (empty : after ≡ [])
    (first : PushesBytes old mid begun after piece a) (second : PushesBytes mid new [] [] rest b) where
  pub pushes-trans : PushesBytes old new begun after piece (a + b)
  pushes-trans = record {
    within = omega (arith, first.within, second.within, ap length rest_is, length-drop a piece);
    bytes = bytes-pushed old.units begun mid.units after new.units piece rest a b rest_is empty first.bytes second.bytes;
    fit = λ fit. second.fit (first.fit fit);
    room = second.room ∙ first.room;
  }

  pub pushes-rest_waits : (left behind : List ℕ) (c : ℕ) → behind ≡ drop (a + b) piece → c ≤ length behind → left ≡ after ++ take c behind
      → PushesBytes old new begun left piece (a + b + c)
  pushes-rest_waits left behind c behind_is within left_is = record {
    within = omega (arith, pushes-trans.within, within, ap length behind_is, length-drop (a + b) piece);
    bytes = bytes-left old.units begun mid.units after new.units piece rest a b rest_is empty first.bytes second.bytes
        left behind c behind_is left_is;
    fit = pushes-trans.fit;
    room = pushes-trans.room;
  }
