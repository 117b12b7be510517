use Rattle.std.proofs.Common.{inl, inr, sym, subst}
use Rattle.slot_word.specs.SlotWord.{packed}
use Rattle.log_rule.specs.May.{MayStoreGranted, MayStoreRefused}
use Rattle.log_table.specs.Seats.{view_of}
use Rattle.ring_buffer.specs.Calls.{HasRoom, Refuses}
use Rattle.consol_array.proofs.Places.{LacksRoom-refused, MayPlaceGroup-looked, MayStoreRefused-looked, HasPlacedGroup-refused, MayStoreGranted-placed, HasPlacedGroup-granted}
use Rattle.consol_array.proofs.leading.try_place_group.Goals as goal

pub store_base-requires-clause-next : goal.store_base-requires-clause-next
store_base-requires-clause-next c =
    let seen = c.look-seen.result in
    inr (subst (λ word. MayStoreRefused c.args.slot word (view_of c.look-seen.new.seat)) (sym c.refusal_word.ensures)
    (MayStoreRefused-looked c.args.table.now c.args.seat.now c.look-seen.new.seat c.args.slot c.args.total seen.tail seen.durable c.requires.seat
    c.requires.closed c.look-seen.ensures.becomes
    (LacksRoom-refused c.args.table.now.ring seen.tail seen.durable c.args.total c.in_default.field-0
    (subst (λ ring. Refuses ring seen.tail seen.durable c.args.total c.in_default.field-0) c.ring.ensures c.in_default.ensures.refused))))

pub returns-in_default-clause-placed : goal.returns-in_default-clause-placed
returns-in_default-clause-placed c =
    let seen = c.look-seen.result in
    HasPlacedGroup-refused c.args.table.now c.args.seat.now c.look-seen.new.seat c.args.slot c.args.total seen.tail seen.durable c.requires.seat
    c.requires.closed c.look-seen.ensures.becomes c.store_base.new.seat
    (LacksRoom-refused c.args.table.now.ring seen.tail seen.durable c.args.total c.in_default.field-0
    (subst (λ ring. Refuses ring seen.tail seen.durable c.args.total c.in_default.field-0) c.ring.ensures c.in_default.ensures.refused))
    c.store_base.ensures.view c.refused.result (λ i. packed (c.refused.ensures.phase i) (c.refused.ensures.total i) (c.refused.ensures.remaining i))

pub store_base-requires-in-Ok-exchange_tail-clause-next : goal.store_base-requires-in-Ok-exchange_tail-clause-next
store_base-requires-in-Ok-exchange_tail-clause-next c =
    let seen = c.look-seen.result in
    let room = subst (λ ring. HasRoom ring seen.tail seen.durable c.args.total) c.ring.ensures c.in-Ok.ensures.end.1 in
    let places = c.in-Ok-exchange_tail.ensures.group
    (MayPlaceGroup-looked c.args.table.now c.args.seat.now c.look-seen.new.seat c.args.slot c.args.total seen.tail seen.durable c.requires.seat
    c.requires.closed c.look-seen.ensures.becomes c.in-Ok.to c.in-Ok.ensures.end.0 room) in
    inl (subst (λ word. MayStoreGranted c.args.slot word (view_of c.exchange_tail.new.seat)) (sym c.units.ensures)
    (MayStoreGranted-placed c.args.table.now c.args.seat.now c.look-seen.new.seat c.args.slot c.args.total seen.tail seen.durable c.requires.seat
    c.requires.closed c.look-seen.ensures.becomes c.exchange_tail.new.seat c.in-Ok.to c.in-Ok.ensures.end.0 places))

pub returns-in-Ok-exchange_tail-clause-placed : goal.returns-in-Ok-exchange_tail-clause-placed
returns-in-Ok-exchange_tail-clause-placed c =
    let seen = c.look-seen.result in
    let room = subst (λ ring. HasRoom ring seen.tail seen.durable c.args.total) c.ring.ensures c.in-Ok.ensures.end.1 in
    let places = c.in-Ok-exchange_tail.ensures.group
    (MayPlaceGroup-looked c.args.table.now c.args.seat.now c.look-seen.new.seat c.args.slot c.args.total seen.tail seen.durable c.requires.seat
    c.requires.closed c.look-seen.ensures.becomes c.in-Ok.to c.in-Ok.ensures.end.0 room) in
    HasPlacedGroup-granted c.args.table.now c.args.seat.now c.look-seen.new.seat c.args.slot c.args.total seen.tail seen.durable c.requires.seat
    c.requires.closed c.look-seen.ensures.becomes c.exchange_tail.new.seat c.in-Ok.to c.in-Ok.ensures.end.0 places c.store_base-in-Ok-exchange_tail.new.seat
    room c.store_base-in-Ok-exchange_tail.ensures.view c.published.result
    (λ i. packed (c.published.ensures.phase i) (c.published.ensures.total i) (c.published.ensures.remaining i))
