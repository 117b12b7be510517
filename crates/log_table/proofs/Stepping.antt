-- What one step makes of a seat.
use Rattle.std.proofs.Common.{◌≡◌, ◌≢◌, ◌∙◌, ◌<◌, ◌^◌, ℕ, cond, sym, refl, ap, subst, ne_eqb}
use Rattle.atomic_table.specs.declared.shared.Seat.{Seat as Base}
use Rattle.slot_word.specs.declared.slot_word.SlotWord.{SlotWord}
use Rattle.slot_word.specs.SlotWord.{packed, phase_in, total_in, remaining_in, word_of}
use Rattle.slot_word.proofs.SlotWordLemmas.{word_back}
use Rattle.log_rule.specs.declared.start.Start.{Start}
use Rattle.log_rule.specs.declared.view.View.{View}
use Rattle.log_rule.specs.Moments.{HoldsAtOnce}
use Rattle.log_rule.specs.SlotViews.{after_exchange, exchanged, lost_exchange}
use Rattle.log_table.specs.declared.table.Seat.{Seat}
use Rattle.log_table.specs.Seats.{Becomes, view_of, number_of}

-- what a step tells of the base of the seat that makes it
abbrev pub MovesBase : Seat → Base (Unit {0}) View → View → Type 0 → Type 0
MovesBase old base view Told = (base.table_id ≡ old.base.table_id) × (base.id ≡ old.base.id)
    × ((base.me ≡ (view, old.base.me.1)) × Told)

-- the seat becomes then this one
pub MovesBase-becomes : {old : Seat} {base : Base (Unit {0}) View} {named : old.worker ≡ base.me.0.standing.worker} {view : View}
    {Told : Type 0} → MovesBase old base view Told → Becomes old (record { base = base; worker = old.worker; named = named }) view
MovesBase-becomes step = record { table_is = step.0; number = step.1; me = step.2.0; worker = refl }

-- the same, where the view is called otherwise
pub MovesBase-becomes_called : {old : Seat} {base : Base (Unit {0}) View} {named : old.worker ≡ base.me.0.standing.worker} {view : View}
    {Told : Type 0} (called : View) → view ≡ called → MovesBase old base view Told
    → Becomes old (record { base = base; worker = old.worker; named = named }) called
MovesBase-becomes_called {old} called is step =
    record { table_is = step.0; number = step.1; me = step.2.0 ∙ ap (λ view. (view, old.base.me.1)) is; worker = refl }

-- a word is that of the slot's state which is read from it
pub word-of_state : (word : ℕ) (state : SlotWord) → word < 2 ^ 64 → state.phase ≡ phase_in word → state.total ≡ total_in word
    → state.remaining ≡ remaining_in word → word ≡ word_of state
word-of_state word state small phase total remaining =
    sym (word_back word small) ∙ (λ i. packed (sym phase i) (sym total i) (sym remaining i))

-- an exchange of the tail that is lost leaves this view
pub exchange-lost : (from to found : ℕ) (view : View) → found ≢ from → after_exchange from to found view ≡ lost_exchange found view
exchange-lost from to found view differs =
    ap (λ b. cond b (exchanged from to view view.call) (lost_exchange found view)) (ne_eqb found from differs)

-- what held at once of a seat holds of it still, where it has the number and the view of then
pub at_once-becomes : (key : Start) (old new : Seat) (view : View) → Becomes old new view → HoldsAtOnce key (number_of old) view
    → HoldsAtOnce key (number_of new) (view_of new)
at_once-becomes key old new view becomes = subst (λ (who : ℕ × View). HoldsAtOnce key who.0 who.1)
    (λ i. (sym becomes.number i, sym (ap (λ m. m.0) becomes.me) i))

-- one step after another
pub Becomes-trans : (a b c : Seat) (view : View) (f : View → View) → Becomes a b view → Becomes b c (f (view_of b)) → Becomes a c (f view)
Becomes-trans a b c view f first second = record {
  table_is = second.table_is ∙ first.table_is;
  number = second.number ∙ first.number;
  me = second.me ∙ ap (λ m. (f m.0, m.1)) first.me;
  worker = second.worker ∙ first.worker;
}
