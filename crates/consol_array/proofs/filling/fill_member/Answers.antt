use Rattle.std.proofs.Common.{arith, inr, ◌≡◌, ◌∙◌, ℕ, List, take, length, get_or, ap, sym, length-take-le}
use Rattle.std.proofs.lemmas.Grind.{common_steps}
use Rattle.log_record.specs.Spelling.{spelling}
use Rattle.ring_buffer.specs.Calls.{filled_with}
use Rattle.consol_array.proofs.filling.fill_member.Goals as goal

pub store_ring-requires-clause-next : goal.store_ring-requires-clause-next
store_ring-requires-clause-next c =
    let invariant = c.loop-i.invariant in
    let test = c.loop-i-test.true in
    let has = c.requires.piece in
    let list : List ℕ = c.as_slice-list.result.now in
    let len : length (take c.loop-i.i list) ≡ c.loop-i.i = length-take-le c.loop-i.i list (omega arith) in
    let whole : length list ≡ length c.args.units.now = ap length c.as_slice-list.ensures.units in inr record {
      slot = c.args.member.slot;
      slot_below = has.slot_below;
      piece = has.piece;
      base = has.base;
      units = take c.loop-i.i list;
      filling = ap (λ m. m.0.call) invariant.me ∙ ap (filled_with (take c.loop-i.i list)) has.call;
      next = omega (arith, len, c.new-at.ensures, c.units.ensures, has.at_is);
      unfilled = omega (arith, len, whole, has.whole, ap length has.units_are);
      unit_is = ap (λ l. get_or l c.loop-i.i 0) (c.as_slice-list.ensures.units ∙ has.units_are) ∙ ap (λ n. get_or (spelling has.piece.rec) n 0) (sym len);
    }

pub returns-clause-becomes : goal.returns-clause-becomes
returns-clause-becomes c = let has = c.requires.piece in let size = has.size_is in let whole = has.whole in let units = ap length has.units_are in
    grind (arith, common_steps) steps 750000
