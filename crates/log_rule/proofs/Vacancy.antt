-- Where no seat has anything under way, nobody is at a slot: each gathers, with a total of 0.
use Rattle.std.proofs.Common.{◌≡◌, ◌==◌, ℕ, zero, suc, ◌+◌, ◌/◌, ◌<◌, min, cond, List, [], ◌∷◌, get_or, refl, sym, ap, ◌∙◌, subst, arith, add-one, eq-eqb}
use Rattle.std.specs.Prelude.{slice_index}
use Rattle.log_rule.specs.ClosedLog.{in_use}
use Rattle.log_rule.specs.declared.start.Start.{Start}
use Rattle.log_rule.specs.declared.view.Call.TheVariants.{Idle}
use Rattle.log_rule.specs.declared.view.View.{View}
use Rattle.log_rule.specs.Groups.{GroupPhase, Vacant, Gathering, Closed, Placed, Ready, Told, Emptied, Member}
use Rattle.table_layout.specs.Layout.{Slot, index_of}
use Rattle.log_rule.specs.Log.{Log}
use Rattle.log_rule.specs.Slots.{known_phase, led_phase, pieces_at, phase_at, sum_of, IsVacant, IsAtPhase}
use Rattle.log_rule.specs.Sound.{IsSound}
use Rattle.log_rule.specs.Views.{nobody}
use Rattle.log_rule.specs.Words.{Words}
use Rattle.log_rule.proofs.Sharing.{own_pieces_none-no_members}

-- a phase that a seat leads is led by somebody
led-by_nobody : (leader : ℕ) (p : GroupPhase) → cond {A = List GroupPhase} (leader == leader) (known_phase p ∷ []) [] ≡ [] → ⊥
led-by_nobody leader p none = let one : known_phase p ∷ [] ≡ [] =
    sym (ap (λ b. cond {A = List GroupPhase} b (known_phase p ∷ []) []) (eq-eqb leader leader refl)) ∙ none in absurd (cc)

-- a slot that has no member, and whose next step is nobody's, is vacant
is-vacant : (most word base : ℕ) (members : List Member) (p : GroupPhase) → IsAtPhase most word base members p → members ≡ []
    → ((seat : ℕ) → led_phase seat p ≡ []) → p ≡ Vacant
is-vacant most word base members Vacant is none unled = refl
is-vacant most word base members (Gathering leader total) is none unled =
    absurd (led-by_nobody leader (Gathering leader total) (unled leader))
is-vacant most word base members (Closed leader total) is none unled = absurd (led-by_nobody leader (Closed leader total) (unled leader))
is-vacant most word base members (Placed leader total outcome) is none unled =
    absurd (led-by_nobody leader (Placed leader total outcome) (unled leader))
is-vacant most word base members (Ready leader total outcome) is none unled =
    absurd (led-by_nobody leader (Ready leader total outcome) (unled leader))
is-vacant most word base members (Told total outcome remaining) is none unled = let zero' : sum_of members ≡ 0 = ap sum_of none in
    let sum = is.remains.sum in let some_units = is.remains.some_units in absurd (omega arith)
is-vacant most word base members (Emptied last) is none unled = absurd (led-by_nobody last (Emptied last) (unled last))

module _ (key : Start) (words : Words) (views : List View) (log : Log) (s : IsSound key words views log)
    (idle : (j : ℕ) → (get_or views j nobody).call ≡ Idle) (slot : ℕ) where
  pub vacant-at_rest : (log.groups slot).phase ≡ Vacant
  vacant-at_rest = is-vacant (key.ring / 4) (words.slot slot) (words.base slot) (log.groups slot).members (log.groups slot).phase
      (s.slots slot).words
      (own_pieces_none-no_members (log.groups slot).members (λ j. (s.owners j).joins slot ∙ ap (pieces_at slot) (idle j)))
      (λ j. (s.owners j).leads slot ∙ ap (phase_at j slot) (idle j))

  pub slot_word_zero-at_rest : words.slot slot ≡ 0
  slot_word_zero-at_rest = let is : IsVacant (words.slot slot) (log.groups slot).members =
      subst (IsAtPhase (key.ring / 4) (words.slot slot) (words.base slot) (log.groups slot).members) vacant-at_rest (s.slots slot).words
      in is.word_is

-- ---- how many slots are in use

pub in_use-more : (ring n count word : ℕ) (words : List ℕ) → word ≡ get_or words (index_of ring 0 (Slot n)) 0 → count ≡ in_use ring n words
    → count + min word 1 ≡ in_use ring (n + 1) words
in_use-more ring n count word words is was = (λ i. was i + min (is i) 1) ∙ ap (λ k. in_use ring k words) (sym (add-one n))

pub in_use-all_zero : (ring n : ℕ) (words : List ℕ) → ((slot : ℕ) → slot < n → slice_index words (index_of ring 0 (Slot slot)) ≡ 0)
    → in_use ring n words ≡ 0
in_use-all_zero ring zero words none = refl
in_use-all_zero ring (suc n) words none =
    λ i. in_use-all_zero ring n words (λ slot below. none slot (omega arith)) i + min (none n (omega arith) i) 1
