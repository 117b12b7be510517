-- A leader has closed its group, and places it.
use Rattle.std.proofs.Common.{arith, inl, inr, ◌≡◌, ◌∙◌, ℕ, ◌+◌, ◌*◌, ◌^◌, ◌<◌, ap, sym, subst, refl}
use Rattle.slot_word.specs.declared.slot_word.SlotWord.{SlotWord}
use Rattle.slot_word.specs.SlotWord.{word_of}
use Rattle.log_rule.specs.declared.group_view.MemberStep.TheVariants.{Places, Stores}
use Rattle.log_rule.specs.declared.group_view.Piece.{Piece}
use Rattle.log_table.specs.declared.table.LogTable.{LogTable}
use Rattle.log_table.specs.declared.table.Seat.{Seat}
use Rattle.log_rule.specs.declared.view.Seen.{Seen}
use Rattle.log_rule.specs.declared.view.View.{View}
use Rattle.log_rule.specs.Groups.{Granted, Refused}
use Rattle.log_rule.specs.May.{MayPlaceGroup, MayStoreGranted, MayStoreRefused}
use Rattle.log_rule.specs.Members.{LacksRoom}
use Rattle.log_table.specs.Seats.{IsOf, Becomes, view_of}
use Rattle.log_rule.specs.Slots.{told_word}
use Rattle.log_rule.specs.SlotViews.{call_reserved, call_stored, reserved_group, stored_base}
use Rattle.log_rule.specs.Views.{counted, seen_tail}
use Rattle.ring_buffer.specs.Calls.{HasOnlySeen, HasRoom, Refuses, looked}
use Rattle.ring_buffer.specs.declared.refused.Refused.TheVariants as why
use Rattle.ring_buffer.specs.declared.refused.Refused.{Refused as Why}
use Rattle.consol_array.specs.Leading.{HasClosed, HasPlacedGroup}
use Rattle.consol_array.specs.Members.{IsAtStep}

-- what is refused has no room
pub LacksRoom-refused : (ring tail durable total : ℕ) (refused : Why) → Refuses ring tail durable total refused → LacksRoom ring total tail durable
LacksRoom-refused ring tail durable total (why.LogEnd told units) refuses = inl refuses.2
LacksRoom-refused ring tail durable total (why.RingFull told stood units) refuses = inr refuses.4

-- the leader has closed its group, and looked
module _ (table : LogTable) (old mid : Seat) (slot total tail durable : ℕ) (of : IsOf table old) (closed : HasClosed table slot total (view_of old))
    (looks : Becomes old mid (looked tail durable (view_of old)))
  where
    mid-is : view_of mid ≡ looked tail durable (view_of old)
    mid-is = ap (λ me. me.0) looks.me

    call-looked : (view_of mid).call ≡ (view_of old).call
    call-looked = ap (λ (v : View). v.call) mid-is

    pub MayStoreRefused-looked : LacksRoom table.ring total tail durable → MayStoreRefused slot (tail * 2 ^ 32 + durable) (view_of mid)
    MayStoreRefused-looked lacks = subst (MayStoreRefused slot (tail * 2 ^ 32 + durable)) (sym mid-is) record {
      piece = closed.piece;
      total = total;
      closed = closed.closed;
      places = closed.call;
      tail_loaded = omega (arith, closed.earlier);
      durable_loaded = omega (arith, closed.earlier);
      no_room = subst (λ ring. LacksRoom ring total tail durable) (sym of.ring) lacks;
      word_is = refl;
    }

    -- and stored that there is no room
    module _ (new : Seat) (lacks : LacksRoom table.ring total tail durable) (stores : Becomes mid new (stored_base (view_of mid))) where
      new-is : view_of new ≡ stored_base (view_of mid)
      new-is = ap (λ me. me.0) stores.me

      pub HasPlacedGroup-refused : (state : SlotWord) → word_of state ≡ told_word (Refused tail durable) total total
          → HasPlacedGroup table.ring slot total (view_of old) (view_of new) state
      HasPlacedGroup-refused state told = record {
        outcome = Refused tail durable;
        by_sight = (
          sym (ap (λ (v : View). v.seen.tail) new-is ∙ ap (λ (v : View). v.seen.tail) mid-is),
          sym (ap (λ (v : View). v.seen.durable) new-is ∙ ap (λ (v : View). v.seen.durable) mid-is),
          lacks,
        );
        now = omega (arith, ap (λ (v : View). v.seen.tail_step) new-is, ap (λ (v : View). v.seen.tail_step) mid-is);
        tells = λ piece before here. ap (λ (v : View). v.call) new-is
            ∙ ((λ i. call_stored (mid-is i).seen.tail (mid-is i).seen.durable (call-looked i)) ∙ ap (call_stored tail durable) here);
        state_is = told;
      }

    pub MayPlaceGroup-looked : (to : ℕ) → to ≡ tail + total → HasRoom table.ring tail durable total → MayPlaceGroup tail to (view_of mid)
    MayPlaceGroup-looked to is room = subst (MayPlaceGroup tail to) (sym mid-is) record {
      slot = slot;
      piece = closed.piece;
      total = total;
      closed = closed.closed;
      there = subst (λ slots. slot < slots) (sym of.slots) closed.slot_below;
      places = closed.call;
      tail_loaded = omega (arith, closed.earlier);
      durable_loaded = omega (arith, closed.earlier);
      tail = refl;
      size = is;
      within_log = omega (arith, is, room.in_log);
      within_ring = omega (arith, is, room.in_ring, of.ring);
    }

    -- and reserved the range that begins there
    module _ (placed : Seat) (to : ℕ) (is : to ≡ tail + total) (places : Becomes mid placed (reserved_group tail to (view_of mid))) where
      placed-is : view_of placed ≡ reserved_group tail to (view_of mid)
      placed-is = ap (λ me. me.0) places.me

      call-placed : (piece : Piece) (before : ℕ) → IsAtStep slot piece (Places total before) (view_of old) → IsAtStep slot piece (Stores total tail) (view_of placed)
      call-placed piece before here = ap (λ (v : View). v.call) placed-is ∙ ap (call_reserved tail) (call-looked ∙ here)

      pub MayStoreGranted-placed : MayStoreGranted slot tail (view_of placed)
      MayStoreGranted-placed = record { piece = closed.piece; total = total; stores = call-placed closed.piece closed.closed closed.call }

      -- and stored that
      module _ (new : Seat) (room : HasRoom table.ring tail durable total) (stores : Becomes placed new (stored_base (view_of placed))) where
        seen-granted : (view_of new).seen ≡ counted (seen_tail to (view_of mid).seen)
        seen-granted = ap (λ me. me.0.seen) stores.me ∙ ap (λ (v : View). counted v.seen) placed-is

        pub HasPlacedGroup-granted : (state : SlotWord) → word_of state ≡ told_word (Granted tail) total total
            → HasPlacedGroup table.ring slot total (view_of old) (view_of new) state
        HasPlacedGroup-granted state told = record {
          outcome = Granted tail;
          by_sight = (
            subst (λ n. HasRoom table.ring tail n total) (sym (ap (λ (s : Seen). s.durable) seen-granted ∙ ap (λ (v : View). v.seen.durable) mid-is)) room,
            ap (λ (s : Seen). s.tail) seen-granted ∙ is,
          );
          now = omega (arith, ap (λ (s : Seen). s.tail_step) seen-granted, ap (λ (v : View). v.seen.steps) mid-is);
          tells = λ piece before here. ap (λ me. me.0.call) stores.me
              ∙ ap (call_stored (view_of placed).seen.tail (view_of placed).seen.durable) (call-placed piece before here);
          state_is = told;
        }

-- a call that stays is the same leader's
pub HasClosed-since : (table : LogTable) (slot total : ℕ) (first seat : Seat) → HasOnlySeen first seat → (view_of seat).call ≡ (view_of first).call
    → HasClosed table slot total (view_of first) → HasClosed table slot total (view_of seat)
HasClosed-since table slot total first seat stays same closed = record {
  slot_below = closed.slot_below;
  few = closed.few;
  some = closed.some;
  piece = closed.piece;
  closed = closed.closed;
  call = same ∙ closed.call;
  earlier = omega (arith, stays.same.steps, closed.earlier);
}
