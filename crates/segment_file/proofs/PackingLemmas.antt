-- Units in the bytes of a batch.
use Rattle.std.proofs.Common.{◌≡◌, ◌≤◌, ◌<◌, ◌∙◌, sym, ap, ap₂, refl, ℕ, zero, suc, slice_index, ◌+◌, ◌*◌, ◌^◌, List, [], ◌∷◌, ◌++◌, length, take, drop, arith, append_assoc, length-append, subst}
use Rattle.std.specs.List.{flat_map}
use Rattle.std.specs.Int.{w32, w64, to_be_bytes, from_be_bytes}
use Rattle.std.proofs.Math.Seq.{take-append_seam}
use Rattle.std.proofs.lemmas.Nat.{from_be_bytes-to_be_bytes_8}
use Rattle.std.proofs.lemmas.List.Concat.{flat_map-append}
use Rattle.lsn_space.specs.Unit.{unit_bytes}
use Rattle.lsn_space.proofs.UnitLemmas.{length-unit_bytes}
use Rattle.segment_file.specs.declared.layout.TheConstants.{OPEN, CLOSED, MOST_UNITS}
use Rattle.segment_file.specs.File.{magic, batch, AreUnits, IsCountedBatch}
use Rattle.segment_file.specs.Gates.{sealed}
use Rattle.segment_file.specs.PackedBatch.{BatchState, units_in, IsPacked}

units_in-unit_bytes : (units : List ℕ) → AreUnits units → units_in (flat_map unit_bytes units) ≡ units
unfolding units_in
units_in-unit_bytes [] each = refl
units_in-unit_bytes (unit ∷ units) each = rw (from_be_bytes-to_be_bytes_8 unit each.0, units_in-unit_bytes units each.1) refl

-- the unit at an index stands at eight times its place
unit-at_index : (units : List ℕ) (index unit : ℕ) (rest : List ℕ) → AreUnits units → index < length units → unit < 2 ^ 64
    → drop (8 * index) (flat_map unit_bytes units) ≡ unit_bytes unit ++ rest → unit ≡ slice_index units index
unit-at_index [] index unit rest each within small is = absurd (omega (arith, within))
unit-at_index (first ∷ units) zero unit rest each within small is =
    sym (from_be_bytes-to_be_bytes_8 unit small) ∙ sym (ap (λ bytes. from_be_bytes w64 (take 8 bytes)) is) ∙ from_be_bytes-to_be_bytes_8 first each.0
unit-at_index (first ∷ units) (suc index) unit rest each within small is =
    let longer : 8 * suc index ≡ suc (suc (suc (suc (suc (suc (suc (suc (8 * index)))))))) = omega arith in
    unit-at_index units index unit rest each.1 (omega (arith, within)) small (sym (ap (λ n. drop n (flat_map unit_bytes (first ∷ units))) longer) ∙ is)

AreUnits-more : (units : List ℕ) (unit : ℕ) → AreUnits units → unit < 2 ^ 64 → AreUnits (units ++ unit ∷ [])
AreUnits-more [] unit each small = (small, tt)
AreUnits-more (first ∷ units) unit each small = (each.0, AreUnits-more units unit each.1 small)

pub length-sealed : (units : List ℕ) → length (sealed units) ≡ 5 + 8 * length units
unfolding batch
length-sealed units = omega (arith, length-append (batch units) (CLOSED ∷ []), length-unit_bytes units)

-- the view of a batch whose bytes hold these units
abbrev pub state : List ℕ → ℕ → BatchState
state units room = record { units = units; room = room }

-- the invariant, said of the view
pub packed-state : (bytes units : List ℕ) (room capacity : ℕ) (now : BatchState) → IsPacked bytes units room capacity → state units room ≡ now
    → IsPacked bytes now.units now.room capacity
packed-state bytes units room capacity now packed view = subst (λ s. IsPacked bytes s.units s.room capacity) view packed

-- so many bytes has a batch of the units that are seen
pub length-packed_state : (bytes units : List ℕ) (room capacity : ℕ) (now : BatchState) → IsPacked bytes units room capacity → state units room ≡ now
    → length bytes ≡ 11 + 8 * length now.units
length-packed_state bytes units room capacity now packed view =
    omega (arith, ap length packed.whole, length-unit_bytes units, ap (λ (s : BatchState). length s.units) view)

-- where the view has room for another unit, so have its parts
pub state-units_below_room : (units : List ℕ) (room : ℕ) (now : BatchState) → state units room ≡ now → length now.units < now.room → length units < room
state-units_below_room units room now view has = subst (λ (s : BatchState). length s.units < s.room) (sym view) has

-- the view of a batch whose units were had by this change
pub state-changed_units : (change : List ℕ → List ℕ) (units more : List ℕ) (room : ℕ) (now : BatchState) → state units room ≡ now → more ≡ change units
    → state more room ≡ state (change now.units) now.room
state-changed_units change units more room now view same = ap (λ us. state us room) same ∙ ap (λ (s : BatchState). state (change s.units) s.room) view

module _ (bytes units : List ℕ) (room capacity : ℕ) (packed : IsPacked bytes units room capacity) where
  pub length-packed : length bytes ≡ 11 + 8 * length units
  length-packed = omega (arith, ap length packed.whole, length-unit_bytes units)

  pub units_in-packed : units_in (drop 11 bytes) ≡ units
  units_in-packed = ap (λ bs. units_in (drop 11 bs)) packed.whole ∙ units_in-unit_bytes units packed.each

  -- the invariant of a batch, in which the units are read from the bytes
  pub packed-units_in : IsPacked bytes (units_in (drop 11 bytes)) room capacity
  packed-units_in = subst (λ us. IsPacked bytes us room capacity) (sym units_in-packed) packed

  pub packed-counted_batch : 0 < length units → length units ≤ MOST_UNITS → IsCountedBatch units
  packed-counted_batch some most = record { some = some; most = most; each = packed.each }

  pub packed_unit-at : (index unit : ℕ) (rest : List ℕ) → index < length units → unit < 2 ^ 64 → drop (11 + 8 * index) bytes ≡ unit_bytes unit ++ rest
      → unit ≡ slice_index units index
  packed_unit-at index unit rest within small is =
      let longer : 11 + 8 * index ≡ suc (suc (suc (suc (suc (suc (suc (suc (suc (suc (suc (8 * index))))))))))) = omega arith in
      unit-at_index units index unit rest packed.each within small
      (sym (ap (λ n. drop n (magic ++ to_be_bytes w32 packed.number ++ flat_map unit_bytes units)) longer) ∙ sym (ap (drop (11 + 8 * index)) packed.whole) ∙ is)

  pub packed-push : (unit now : ℕ) (new : List ℕ) → unit < 2 ^ 64 → length units < room → capacity ≤ now → new ≡ bytes ++ unit_bytes unit
      → IsPacked new (units ++ unit ∷ []) room now
  packed-push unit now new small few grown is = record {
    each = AreUnits-more units unit packed.each small;
    number = packed.number;
    whole = rw (is, packed.whole, flat_map-append unit_bytes units (unit ∷ [])) refl;
    few = omega (arith, length-append units (unit ∷ []));
    small = packed.small;
    fits = omega (arith, packed.fits, grown);
  }

  pub packed-clear : (now : ℕ) (new : List ℕ) → capacity ≤ now → new ≡ take 11 bytes → IsPacked new [] room now
  packed-clear now new grown is = record {
    each = tt;
    number = packed.number;
    whole = rw (is, packed.whole) refl;
    few = omega arith;
    small = packed.small;
    fits = omega (arith, packed.fits, grown);
  }

  -- with a number put in front of its units
  module _ (count : ℕ) (new : List ℕ) (is : new ≡ take 7 bytes ++ to_be_bytes w32 count ++ drop 11 bytes) where
    numbered : new ≡ magic ++ to_be_bytes w32 count ++ flat_map unit_bytes units
    numbered = rw (is, packed.whole) refl

    pub length-numbered : length new ≡ 11 + 8 * length units
    length-numbered = omega (arith, ap length numbered, length-unit_bytes units)

    -- there is room for the next gate and one byte more
    pub numbered-within_capacity : length new + 2 ≤ capacity
    numbered-within_capacity = omega (arith, length-numbered, packed.few, packed.fits)

    packed-numbered : (now : ℕ) → capacity ≤ now → IsPacked new units room now
    packed-numbered now grown = record {
      each = packed.each;
      number = count;
      whole = numbered;
      few = packed.few;
      small = packed.small;
      fits = omega (arith, packed.fits, grown);
    }

    -- with a byte in place of the last magic byte
    module _ (gate : ℕ) (opened : List ℕ) (opened_is : opened ≡ take 6 new ++ (gate ∷ []) ++ drop 7 new) where
      opened-bytes : opened ≡ take 6 magic ++ (gate ∷ to_be_bytes w32 count ++ flat_map unit_bytes units)
      opened-bytes = opened_is ∙ ap (λ bs. take 6 bs ++ (gate ∷ []) ++ drop 7 bs) numbered

      pub length-opened : length opened ≡ 11 + 8 * length units
      length-opened = omega (arith, ap length opened-bytes, length-unit_bytes units)

      -- and that byte, 49, put back behind a cut, which leaves the next gate out
      module _ (cut restored full : List ℕ) (n : ℕ) (n_is : n ≡ length opened) (full_is : full ≡ opened ++ CLOSED ∷ []) (cut_is : cut ≡ take n full)
          (restored_is : restored ≡ take 6 cut ++ (49 ∷ []) ++ drop 7 cut) where
        restored-numbered : restored ≡ new
        restored-numbered =
            let same : cut ≡ opened = cut_is ∙ ap₂ take n_is full_is ∙ take-append_seam opened (CLOSED ∷ []) in
            restored_is ∙ ap (λ bs. take 6 bs ++ (49 ∷ []) ++ drop 7 bs) (same ∙ opened-bytes) ∙ sym numbered

        -- so it is a batch as before
        pub packed-restored : (now : ℕ) → capacity ≤ now → IsPacked restored units room now
        packed-restored now grown = subst (λ bs. IsPacked bs units room now) (sym restored-numbered) (packed-numbered now grown)

        pub units_in-restored : units_in (drop 11 restored) ≡ units
        units_in-restored = ap (λ bs. units_in (drop 11 bs)) (restored-numbered ∙ numbered) ∙ units_in-unit_bytes units packed.each

    -- with the number of units in front of them it is a batch
    module _ (count_is : count ≡ length units) where
      counted-batch : new ≡ magic ++ batch units
      unfolding batch
      counted-batch = rw (numbered, count_is) refl

      -- and with the next gate behind
      pub counted_closed-magic_sealed : new ++ CLOSED ∷ [] ≡ magic ++ sealed units
      counted_closed-magic_sealed = ap (λ bs. bs ++ CLOSED ∷ []) counted-batch ∙ append_assoc magic (batch units) (CLOSED ∷ [])

      pub counted_body-sealed : (full body : List ℕ) → full ≡ new ++ CLOSED ∷ [] → body ≡ drop 7 full → body ≡ sealed units
      counted_body-sealed full body full_is back = back ∙ ap (drop 7) (full_is ∙ counted_closed-magic_sealed)

      -- and with an open gate in place of the last magic byte
      pub opened_body-open_sealed : (opened full body : List ℕ) → opened ≡ take 6 new ++ (OPEN ∷ []) ++ drop 7 new → full ≡ opened ++ CLOSED ∷ []
          → body ≡ drop 6 full → body ≡ OPEN ∷ sealed units
      opened_body-open_sealed opened full body opened_is full_is back =
          let opened_batch : opened ≡ take 6 magic ++ (OPEN ∷ batch units) = opened_is ∙ ap (λ bs. take 6 bs ++ (OPEN ∷ []) ++ drop 7 bs) counted-batch in
          back ∙ ap (drop 6) (full_is ∙ ap (λ bs. bs ++ CLOSED ∷ []) opened_batch)

pub packed-none : (room capacity : ℕ) (bytes : List ℕ) → bytes ≡ magic ++ to_be_bytes w32 0 → room < 2 ^ 32 → 13 + 8 * room ≤ capacity → IsPacked bytes [] room capacity
packed-none room capacity bytes is small fits = record { each = tt; number = 0; whole = is; few = omega arith; small = small; fits = fits }
