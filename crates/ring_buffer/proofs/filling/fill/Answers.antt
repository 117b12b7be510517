use Rattle.std.proofs.Common.{arith, inl, ◌≡◌, ◌∙◌, ℕ, List, take, length, get_or, ap, sym, length-take-le}
use Rattle.std.proofs.lemmas.Grind.{common_steps}
use Rattle.log_record.specs.Spelling.{spelling}
use Rattle.log_rule.specs.declared.view.Entry.{Entry}
use Rattle.ring_buffer.specs.Calls.{filled_with}
use Rattle.ring_buffer.proofs.filling.fill.Goals as goal

pub store_ring-requires-clause-next : goal.store_ring-requires-clause-next
store_ring-requires-clause-next c =
    let invariant = c.loop-i.invariant in
    let test = c.loop-i-test.true in
    let range = c.requires.range in
    let list : List ℕ = c.as_slice-list.result.now in
    let len : length (take c.loop-i.i list) ≡ c.loop-i.i = length-take-le c.loop-i.i list (omega arith) in
    let whole : length list ≡ length c.args.units.now = ap length c.as_slice-list.ensures.units in
    let entry : Entry = record { start = c.args.range.start; size = c.args.range.size; units = take c.loop-i.i list; rec = range.rec } in inl record {
      entry = entry;
      filling = ap (λ m. m.0.call) invariant.me ∙ ap (filled_with (take c.loop-i.i list)) range.call;
      next = omega (arith, len, c.new-at.ensures, c.units.ensures, c.start.ensures);
      unfilled = omega (arith, len, whole, range.size, ap length range.units_are);
      unit_is = ap (λ l. get_or l c.loop-i.i 0) (c.as_slice-list.ensures.units ∙ range.units_are) ∙ ap (λ n. get_or (spelling range.rec) n 0) (sym len);
    }

pub returns-clause-becomes : goal.returns-clause-becomes
returns-clause-becomes c = grind (arith, common_steps) steps 750000
