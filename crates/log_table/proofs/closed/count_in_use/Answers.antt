use Rattle.std.proofs.Common.{◌≡◌, ◌∙◌, ◌+◌, ℕ, List, get_or, min, sym, ap, arith}
use Rattle.std.specs.Slots.{slots_items}
use Rattle.table_layout.specs.Layout.{Slot, index_of}
use Rattle.table_layout.proofs.Rows.{get_elem-get_or}
use Rattle.log_rule.proofs.Vacancy.{in_use-more}
use Rattle.log_table.proofs.closed.count_in_use.Goals as goal

pub loop-slot-preserved : goal.loop-slot-preserved
loop-slot-preserved c =
    let words : List ℕ = slots_items c.args.closed.now.words in
    let word-is : c.word-word.result ≡ get_or words (index_of c.args.ring 0 (Slot c.loop-slot.slot)) 0 =
    sym (get_elem-get_or words c.slot_place.result c.word-word.result c.word-word.ensures)
    ∙ ap (λ place. get_or words place 0) c.slot_place.ensures in
    let one : c.min-count.result ≡ min c.word-word.result 1 = c.min-count.ensures in record {
      count = ap (λ n. c.loop-slot.count + n) one
          ∙ in_use-more c.args.ring c.loop-slot.slot c.loop-slot.count c.word-word.result words word-is c.loop-slot.invariant.count;
      few = omega (arith, c.loop-slot.invariant.few, one);
    }
