-- A member looks at its slot, and sees whether its group is told.
use Rattle.std.proofs.Common.{arith, ◌≡◌, ◌∙◌, ⊎_elim, ℕ, ◌+◌, ◌*◌, ◌/◌, ◌^◌, ◌<◌, ◌≤◌, nat_lt, nat_eq, cond, Bool, true, false, ap, sym, refl, ltb-true, eq-eqb}
use Rattle.slot_word.specs.declared.phase.Phase.TheVariants.{Published, Refused}
use Rattle.slot_word.specs.declared.slot_word.SlotWord.{SlotWord}
use Rattle.slot_word.specs.SlotWord.{packed, total_in, word_of}
use Rattle.slot_word.proofs.SlotWordLemmas.{total_back}
use Rattle.log_rule.specs.declared.group_view.MemberStep.{MemberStep}
use Rattle.log_rule.specs.declared.group_view.MemberStep.TheVariants.{Waits, Hears}
use Rattle.log_rule.specs.declared.group_view.Piece.{Piece}
use Rattle.log_table.specs.declared.table.Seat.{Seat}
use Rattle.log_rule.specs.declared.view.Call.TheVariants as calls
use Rattle.log_table.specs.Seats.{Becomes, view_of}
use Rattle.log_rule.specs.SlotViews.{call_seeing, saw_slot, step_seeing, tells_refusal}
use Rattle.consol_array.specs.Hearing.{TellsGroup, is_refused, step_told}
use Rattle.consol_array.specs.Members.{IsAtStep}

-- of the words of a slot those of groups that are told are the greater half
word-high : (n total remaining : ℕ) → 2 ≤ n → nat_lt (n * 2 ^ 62 + total * 2 ^ 31 + remaining) (2 ^ 63) ≡ false
word-high n total remaining high = by_test (nat_lt (n * 2 ^ 62 + total * 2 ^ 31 + remaining) (2 ^ 63)) refl
  where
    by_test : (b : Bool) → nat_lt (n * 2 ^ 62 + total * 2 ^ 31 + remaining) (2 ^ 63) ≡ b → b ≡ false
    by_test true is = let less = ltb-true (n * 2 ^ 62 + total * 2 ^ 31 + remaining) (2 ^ 63) is in absurd (omega arith)
    by_test false is = refl

-- the two highest bits
high-bits : (n total remaining : ℕ) → total < 2 ^ 31 → remaining < 2 ^ 31 → (n * 2 ^ 62 + total * 2 ^ 31 + remaining) / 2 ^ 62 ≡ n
high-bits n total remaining total_fits remaining_fits = omega arith

module _ (state : SlotWord) where
  total-is : total_in (word_of state) ≡ state.total
  total-is = total_back state.phase state.total state.remaining state.total_fits state.remaining_fits

  refusal-is : (n : ℕ) → word_of state ≡ n * 2 ^ 62 + state.total * 2 ^ 31 + state.remaining → tells_refusal (word_of state) ≡ nat_eq n 3
  refusal-is n is = ap (λ word. nat_eq (word / 2 ^ 62) 3) is ∙ ap (λ bits. nat_eq bits 3) (high-bits n state.total state.remaining state.total_fits state.remaining_fits)

  told-at : (n : ℕ) → 2 ≤ n → word_of state ≡ n * 2 ^ 62 + state.total * 2 ^ 31 + state.remaining → nat_eq n 3 ≡ is_refused state.phase
      → step_seeing (word_of state) Waits ≡ step_told state
  told-at n high is refused =
      ap (λ b. cond {A = MemberStep} b Waits (Hears (tells_refusal (word_of state)) (total_in (word_of state)))) (ap (λ word. nat_lt word (2 ^ 63)) is ∙ word-high n state.total state.remaining high)
      ∙ (λ i. Hears ((refusal-is n is ∙ refused) i) (total-is i))

  -- by a state that tells its group a member sees that it is told
  pub step_seeing-told : TellsGroup state → step_seeing (word_of state) Waits ≡ step_told state
  step_seeing-told = ⊎_elim
      (λ (is : state.phase ≡ Published). told-at 2 (omega arith) (ap (λ phase. packed phase state.total state.remaining) is) (sym (ap is_refused is)))
      (λ (is : state.phase ≡ Refused). told-at 3 (omega arith) (ap (λ phase. packed phase state.total state.remaining) is) (sym (ap is_refused is)))

module _ (old new : Seat) (slot : ℕ) (state : SlotWord) (looks : Becomes old new (saw_slot slot (word_of state) (view_of old))) where
  -- a member that waits, once it has looked
  pub IsAtStep-told : (piece : Piece) → TellsGroup state → IsAtStep slot piece Waits (view_of old) → IsAtStep slot piece (step_told state) (view_of new)
  IsAtStep-told piece told waits = ap (λ me. me.0.call) looks.me ∙ (ap (call_seeing slot (word_of state)) waits
      ∙ (ap (λ b. calls.Joined slot piece (cond {A = MemberStep} b (step_seeing (word_of state) Waits) Waits)) (eq-eqb slot slot refl) ∙ ap (calls.Joined slot piece) (step_seeing-told state told)))
