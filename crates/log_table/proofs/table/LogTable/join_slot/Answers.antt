use Rattle.std.proofs.Common.{arith, ◌≡◌, cond, refl, sym, ap, ◌∙◌, eq-eqb, ne_eqb}
use Rattle.slot_word.specs.SlotWord.{packed, word_of, total_in}
use Rattle.slot_word.proofs.SlotWordLemmas.{total_back, word_back}
use Rattle.log_table.specs.Seats.{view_of, number_of, key_of}
use Rattle.log_rule.specs.SlotViews.{own_slot_of, joined_slot, lost_join}
use Rattle.log_rule.proofs.SlotAllowing.{join_slot-allowed}
use Rattle.log_rule.proofs.SlotJoining.{join-won}
use Rattle.log_rule.proofs.SlotLooks.{saw_slot_contended-step}
use Rattle.log_table.proofs.table.LogTable.join_slot.Goals as goal

pub compare_exchange-found-requires : goal.compare_exchange-found-requires
compare_exchange-found-requires c = (
  c.requires.seat.table_is,
  omega (arith, c.args.self.now.sized, c.slot_place-place.ensures, c.requires.slot),
  join_slot-allowed (key_of c.args.self.now) _ (number_of c.args.seat.now) c.args.seat.now.base.me _ _ _ _ c.slot_place-place.ensures
      c.args.self.now.keyed c.args.self.now.slotted c.requires.slot c.args.from c.args.to _ _ c.pack-free.ensures.word c.pack-joined.ensures.word
      c.requires.next,
)

pub returns-then-found-free-clause-ok : goal.returns-then-found-free-clause-ok
returns-then-found-free-clause-ok c =
    let step = c.compare_exchange-found.ensures in
    let view = view_of c.args.seat.now in
    let free = c.pack-free.result in
    let found = c.compare_exchange-found.result in
    let is : free ≡ word_of c.args.from = c.pack-free.ensures.word in
    let total : total_in free ≡ c.args.from.total =
    ap total_in is ∙ total_back c.args.from.phase c.args.from.total c.args.from.remaining c.args.from.total_fits c.args.from.remaining_fits in record {
      table_is = step.0;
      number = step.1;
      me = step.2.0
          ∙ ap (λ b. (
            cond b (joined_slot (own_slot_of view) (total_in free) free view) (lost_join (own_slot_of view) found view),
            c.args.seat.now.base.me.1,
          )) (eq-eqb found free c.if-found-free.true)
          ∙ (λ i. (joined_slot (sym c.requires.next.own_slot i) (total i) (is i) view, c.args.seat.now.base.me.1));
      worker = refl;
    }

pub returns-then-found-free-clause-ok_event : goal.returns-then-found-free-clause-ok_event
returns-then-found-free-clause-ok_event c = join-won _ _ _ _ _ _ _ c.args.self.now.slotted c.requires.slot c.requires.next

pub returns-else-found-free-clause-err : goal.returns-else-found-free-clause-err
returns-else-found-free-clause-err c =
    let step = c.compare_exchange-found.ensures in
    let view = view_of c.args.seat.now in
    let free = c.pack-free.result in
    let found = c.compare_exchange-found.result in
    let is : found ≡ word_of c.unpack.result =
    sym (word_back found c.compare_exchange-found.type_inv)
    ∙ (λ i. packed (sym c.unpack.ensures.phase i) (sym c.unpack.ensures.total i) (sym c.unpack.ensures.remaining i)) in (
      λ same. c.if-found-free.false (is ∙ ap word_of same ∙ sym c.pack-free.ensures.word),
      record {
        table_is = step.0;
        number = step.1;
        me = step.2.0
            ∙ ap (λ b. (
              cond b (joined_slot (own_slot_of view) (total_in free) free view) (lost_join (own_slot_of view) found view),
              c.args.seat.now.base.me.1,
            )) (ne_eqb found free c.if-found-free.false)
            ∙ (λ i. (lost_join (sym c.requires.next.own_slot i) (is i) view, c.args.seat.now.base.me.1));
        worker = refl;
      },
    )

pub returns-else-found-free-clause-err_event : goal.returns-else-found-free-clause-err_event
returns-else-found-free-clause-err_event c = saw_slot_contended-step _ _ _ _ _ _
