-- What a slot's word tells of its group, by the group's phase.
use Rattle.std.proofs.Common.{◌≡◌, ℕ, ◌/◌, ◌^◌, ◌<◌, ◌≤◌, nat_lt, false, true≢false, lt-ltb, List, [], sym, refl, ap, ◌∙◌, subst, arith}
use Rattle.std.specs.Prelude.{nat_eq}
use mathlib.Core.Logic.{dite}
use native.Mathlib.Decide.{dec_lt}
use Rattle.slot_word.specs.declared.phase.Phase.TheVariants as kind
use Rattle.slot_word.specs.SlotWord.{packed, total_in, IsSlotWord}
use Rattle.slot_word.proofs.SlotWordLemmas.{word_of-is_slot_word, total_back}
use Rattle.log_rule.specs.Groups.{Outcome, Granted, Refused, GroupPhase, Vacant, Gathering, Closed, Placed, Ready, Told, Emptied, Member}
use Rattle.log_rule.specs.Slots.{is_refused, told_word, IsToldAs, IsAtPhase}
use Rattle.log_rule.specs.SlotViews.{tells_refusal}

told-is_slot : (outcome : Outcome) (total remaining : ℕ) → total < 2 ^ 31 → remaining < 2 ^ 31 → IsSlotWord (told_word outcome total remaining)
told-is_slot (Granted base) total remaining fits fits' = word_of-is_slot_word record {
  phase = kind.Published;
  total = total;
  remaining = remaining;
  total_fits = fits;
  remaining_fits = fits';
  gathering = λ is. absurd (cc);
  pending = λ is. absurd (cc);
}
told-is_slot (Refused tail durable) total remaining fits fits' = word_of-is_slot_word record {
  phase = kind.Refused;
  total = total;
  remaining = remaining;
  total_fits = fits;
  remaining_fits = fits';
  gathering = λ is. absurd (cc);
  pending = λ is. absurd (cc);
}

gathering-is_slot : (total : ℕ) → total < 2 ^ 31 → IsSlotWord (packed kind.Gathering total 0)
gathering-is_slot total fits = word_of-is_slot_word record {
  phase = kind.Gathering;
  total = total;
  remaining = 0;
  total_fits = fits;
  remaining_fits = omega arith;
  gathering = λ _. refl;
  pending = λ is. absurd (cc);
}

pending-is_slot : IsSlotWord (packed kind.Pending 0 0)
pending-is_slot = word_of-is_slot_word record {
  phase = kind.Pending;
  total = 0;
  remaining = 0;
  total_fits = omega arith;
  remaining_fits = omega arith;
  gathering = λ is. absurd (cc);
  pending = λ _. (refl, refl);
}

-- the state of a slot is a slot's word
pub at_phase-slot_word : (most word base : ℕ) (members : List Member) (p : GroupPhase) → most < 2 ^ 31 → IsAtPhase most word base members p → IsSlotWord word
at_phase-slot_word most word base members Vacant small is = subst IsSlotWord (sym is.word_is) (gathering-is_slot 0 (omega arith))
at_phase-slot_word most word base members (Gathering leader total) small is =
    subst IsSlotWord (sym is.word_is) (gathering-is_slot total (let few = is.joined.few in omega arith))
at_phase-slot_word most word base members (Closed leader total) small is = subst IsSlotWord (sym is.word_is) pending-is_slot
at_phase-slot_word most word base members (Placed leader total outcome) small is = subst IsSlotWord (sym is.word_is) pending-is_slot
at_phase-slot_word most word base members (Ready leader total outcome) small is = subst IsSlotWord (sym is.word_is) pending-is_slot
at_phase-slot_word most word base members (Told total outcome remaining) small is =
    let few = is.remains.few in let within = is.remains.within in
    subst IsSlotWord (sym is.word_is) (told-is_slot outcome total remaining (omega arith) (omega arith))
at_phase-slot_word most word base members (Emptied last) small is =
    let few = is.few in subst IsSlotWord (sym is.word_is) (told-is_slot is.outcome is.total 0 (omega arith) (omega arith))

-- a word that is not below 2 ^ 63
above : (word : ℕ) → nat_lt word (2 ^ 63) ≡ false → 2 ^ 63 ≤ word
above word off = dite (dec_lt word (2 ^ 63)) (λ less. absurd (true≢false (sym (lt-ltb word (2 ^ 63) less) ∙ off)))
    (λ least. omega (arith, least))

pub told-total : (outcome : Outcome) (total remaining : ℕ) → total < 2 ^ 31 → remaining < 2 ^ 31 → total_in (told_word outcome total remaining) ≡ total
told-total (Granted base) total remaining fits fits' = total_back kind.Published total remaining fits fits'
told-total (Refused tail durable) total remaining fits fits' = total_back kind.Refused total remaining fits fits'

told-refusal : (outcome : Outcome) (total remaining : ℕ) → total < 2 ^ 31 → remaining < 2 ^ 31 → tells_refusal (told_word outcome total remaining) ≡ is_refused outcome
told-refusal (Granted base) total remaining fits fits' = ap (λ n. nat_eq n 3) two
  where
    two : packed kind.Published total remaining / 2 ^ 62 ≡ 2
    two = omega arith
told-refusal (Refused tail durable) total remaining fits fits' = ap (λ n. nat_eq n 3) three
  where
    three : packed kind.Refused total remaining / 2 ^ 62 ≡ 3
    three = omega arith

-- where the slot has a member, such a word tells that its group is told, refused or not, and the total
pub at_phase-told_as : (most word base : ℕ) (members : List Member) (p : GroupPhase) → most < 2 ^ 31 → IsAtPhase most word base members p → (members ≡ [] → ⊥)
    → nat_lt word (2 ^ 63) ≡ false → IsToldAs (tells_refusal word) (total_in word) p
at_phase-told_as most word base members Vacant small is some_members told = absurd (some_members is.nobody)
at_phase-told_as most word base members (Gathering leader total) small is some_members told =
    let few = is.joined.few in let high = above word told in let same = is.word_is in absurd (omega arith)
at_phase-told_as most word base members (Closed leader total) small is some_members told =
    let high = above word told in let same = is.word_is in absurd (omega arith)
at_phase-told_as most word base members (Placed leader total outcome) small is some_members told =
    let high = above word told in let same = is.word_is in absurd (omega arith)
at_phase-told_as most word base members (Ready leader total outcome) small is some_members told =
    let high = above word told in let same = is.word_is in absurd (omega arith)
at_phase-told_as most word base members (Told total outcome remaining) small is some_members told =
    let few = is.remains.few in let within = is.remains.within in record {
      outcome = outcome;
      remaining = remaining;
      told = ap (λ n. Told n outcome remaining) (sym (ap total_in is.word_is ∙ told-total outcome total remaining (omega arith) (omega arith)));
      refused_is = ap tells_refusal is.word_is ∙ told-refusal outcome total remaining (omega arith) (omega arith);
    }
at_phase-told_as most word base members (Emptied last) small is some_members told = absurd (some_members is.nobody)
