-- What makes a seat contended, and by what it is so no more.
use Rattle.std.proofs.Common.{◌≡◌, ℕ, ◌+◌, ◌/◌, ◌^◌, ◌<◌, ◌==◌, ◌&&◌, nat_eq, nat_le, cond, Bool, true, false, length, refl, ap, ◌∙◌, arith, eq-eqb, leb-true}
use Rattle.std.proofs.Math.Bool.{and-false}
use Rattle.slot_word.specs.declared.phase.Phase.{Phase}
use Rattle.slot_word.specs.declared.phase.Phase.TheVariants.{Gathering}
use Rattle.slot_word.specs.SlotWord.{phase_in, total_in}
use Rattle.log_record.specs.Spelling.{spelling}
use Rattle.log_rule.specs.declared.view.View.{View}
use Rattle.log_rule.specs.Books.{next_of}
use Rattle.log_rule.specs.SlotViews.{own_slot_of, is_joinable, contended_seeing}

-- a seat that isn't contended becomes so by no look at a slot
pub contended_seeing-uncontended : (slot word : ℕ) (view : View) → view.contended ≡ false → contended_seeing slot word view ≡ false
contended_seeing-uncontended slot word view alone = ap (λ b. b && cond (slot == own_slot_of view) (is_joinable word view) true) alone

-- where its own slot has a state by which it couldn't join, a seat isn't contended after the look
module _ (word : ℕ) (view : View) where
  unjoinable-clears : is_joinable word view ≡ false → contended_seeing (own_slot_of view) word view ≡ false
  unjoinable-clears is = ap (λ b. view.contended && cond b (is_joinable word view) true) (eq-eqb (own_slot_of view) (own_slot_of view) refl)
      ∙ (ap (λ b. view.contended && b) is ∙ and-false view.contended)

  abbrev fits : Bool
  fits = nat_le (total_in word + length (spelling (next_of view.books))) (view.constants.ring / 4)

  pub clears-unless_gathering : (phase_in word ≡ Gathering → ⊥) → contended_seeing (own_slot_of view) word view ≡ false
  clears-unless_gathering other = unjoinable-clears (ap (λ b. b && fits) (by_test _ (nat_eq (word / 2 ^ 62) 0) other))
    where
      by_test : (rest : Phase) (b : Bool) → (cond b Gathering rest ≡ Gathering → ⊥) → b ≡ false
      by_test rest true differs = absurd (differs refl)
      by_test rest false differs = refl

  pub clears-without_room : view.constants.ring / 4 < total_in word + length (spelling (next_of view.books))
      → contended_seeing (own_slot_of view) word view ≡ false
  clears-without_room over = unjoinable-clears (ap (λ b. nat_eq (word / 2 ^ 62) 0 && b) (by_test fits refl)
      ∙ and-false (nat_eq (word / 2 ^ 62) 0))
    where
      by_test : (b : Bool) → fits ≡ b → b ≡ false
      by_test true is = let room = leb-true _ _ is in absurd (omega (arith, room, over))
      by_test false is = refl
