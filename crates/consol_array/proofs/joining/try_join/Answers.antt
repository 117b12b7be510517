use Rattle.std.proofs.Common.{rules, arith, inl, inr, ◌≡◌, ◌∙◌, ℕ, ◌%◌, ◌<◌, mod-lt, sym, refl, subst}
use Rattle.slot_word.specs.SlotWord.{word_of}
use Rattle.log_table.specs.Seats.{Becomes, view_of}
use Rattle.log_table.proofs.Stepping.{Becomes-trans}
use Rattle.log_rule.specs.SlotViews.{own_slot_of, saw_slot, lost_join}
use Rattle.consol_array.specs.Joining.{HasSlotRoom, IsStateJoined, LacksSlotRoom}
use Rattle.consol_array.proofs.Joins.{MayJoinSlot-looked, Becomes-looked_and_joined, LacksSlotRoom-uncontended}
use Rattle.consol_array.proofs.joining.try_join.Goals as goal

pub returns-in_default : goal.returns-in_default
returns-in_default c =
    let slot : ℕ = c.worker.result % c.slots.result in
    let own : slot ≡ own_slot_of (view_of c.args.seat.now) = (λ i. c.worker.ensures.view i % (c.slots.ensures ∙ sym c.requires.seat.slots) i) in
    let loaded = c.load_slot-loaded.result in
    let full = subst (λ ring. LacksSlotRoom ring c.args.n loaded) c.ring.ensures c.in_default.ensures.full in record {
      joined = tt;
      not_joined = inl record {
        full = full;
        same = refl;
        becomes = subst (λ slot. Becomes c.args.seat.now c.load_slot-loaded.new.seat (saw_slot slot (word_of loaded) (view_of c.args.seat.now))) own
            c.load_slot-loaded.ensures.view;
      };
      back = search rules steps 1200000;
      alone = LacksSlotRoom-uncontended c.args.table.now c.args.seat.now c.load_slot-loaded.new.seat c.args.n slot loaded c.requires.seat
          c.load_slot-loaded.ensures.view own c.requires.next full;
      stop = search rules steps 1200000;
    }

pub join_slot-requires-clause-next : goal.join_slot-requires-clause-next
join_slot-requires-clause-next c =
    MayJoinSlot-looked c.args.table.now c.args.seat.now c.load_slot-loaded.new.seat c.args.n (c.worker.result % c.slots.result) c.load_slot-loaded.result
    c.requires.seat c.load_slot-loaded.ensures.view c.in-Some.joined (λ i. c.worker.ensures.view i % (c.slots.ensures ∙ sym c.requires.seat.slots) i)
    c.requires.rests c.requires.next
    (subst (λ ring. IsStateJoined ring c.args.n c.load_slot-loaded.result c.in-Some.joined) c.ring.ensures c.in-Some.ensures.room)

pub returns-in-Ok : goal.returns-in-Ok
returns-in-Ok c =
    let slot : ℕ = c.worker.result % c.slots.result in
    let below : slot < c.slots.result = mod-lt c.worker.result (omega (arith, c.slots.ensures, c.requires.slots)) in record {
      joined = record {
        slot_is = λ i. c.worker.ensures.view i % (c.slots.ensures ∙ sym c.requires.seat.slots) i;
        slot_below = subst (λ slots. slot < slots) c.slots.ensures below;
        size_is = refl;
        loaded = c.load_slot-loaded.result;
        room = subst (λ ring. HasSlotRoom ring c.args.n c.load_slot-loaded.result) c.ring.ensures c.in-Some.ensures.room.room;
        offset_is = c.total.ensures.total;
        becomes = Becomes-looked_and_joined c.args.table.now c.args.seat.now c.load_slot-loaded.new.seat c.args.n slot c.load_slot-loaded.result c.requires.seat
            c.load_slot-loaded.ensures.view c.join_slot.new.seat c.total.result c.total.ensures.total c.in-Ok.ensures.ok;
      };
      not_joined = tt;
      back = tt;
      alone = search rules steps 1200000;
      stop = search rules steps 1200000;
    }

pub returns-in-Err : goal.returns-in-Err
returns-in-Err c =
    let slot : ℕ = c.worker.result % c.slots.result in
    let own : slot ≡ own_slot_of (view_of c.args.seat.now) = (λ i. c.worker.ensures.view i % (c.slots.ensures ∙ sym c.requires.seat.slots) i) in
    let old = c.args.seat.now in
    let new = c.join_slot.new.seat in
    let loaded : ℕ = word_of c.load_slot-loaded.result in
    let found : ℕ = word_of c.in-Err.found in record {
      joined = tt;
      not_joined = inr record {
        room = subst (λ ring. HasSlotRoom ring c.args.n c.load_slot-loaded.result) c.ring.ensures c.in-Some.ensures.room.room;
        other = c.in-Err.ensures.err.0;
        becomes = subst (λ (own : ℕ). Becomes old new (lost_join own found (saw_slot own loaded (view_of old)))) own
            (Becomes-trans old c.load_slot-loaded.new.seat new (saw_slot slot loaded (view_of old)) (lost_join slot found) c.load_slot-loaded.ensures.view
            c.in-Err.ensures.err.1);
      };
      back = search rules steps 1200000;
      alone = search rules steps 1200000;
      stop = search rules steps 1200000;
    }
