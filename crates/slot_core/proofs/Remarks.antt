-- What the laws don't refuse: a member that joins a closed group, as long as the total takes it in. Only the event's condition does.
use Rattle.std.proofs.Common.{◌≡◌, ℕ, ◌==◌, ◌+◌, ◌/◌, ◌≤◌, List, [], ◌∷◌, ◌++◌, refl, sym, ap, ◌∙◌, arith}
use Rattle.slot_core.specs.State.{Vacant, Closed, Waits, Member, Group, SlotState, nothing, joined, task_of, member, group, group_at}
use Rattle.slot_core.specs.Members.{seats_of}
use Rattle.slot_core.specs.Laws.{IsSound}
use Rattle.slot_core.specs.Machine.{moved}
use Rattle.slot_core.proofs.Hands.{nonempty_group-within}
use Rattle.slot_core.proofs.Moving.{moved-sound, sound-link, sound-group}
use Rattle.slot_core.proofs.Pieces.{cond_equal-single, cond_unequal-none, cond-both_none, heard_at-new_phase, tiles-push, seats-push, append-none}

pub join_closed-sound : (s : SlotState) (me k n l t : ℕ) (ms : List Member) → IsSound s → task_of me s.hands ≡ nothing → group_at k s.groups ≡ group ms (Closed l t) → 1 ≤ n → t + n ≤ s.log.ring / 4
    → IsSound (moved s me k (joined k t n Waits) (group (ms ++ member me t n ∷ []) (Closed l (t + n))))
join_closed-sound s me k n l t ms sound is at some' most = let mine = sound-link s me k nothing (group ms (Closed l t)) sound is at in let old = sound-group s k (group ms (Closed l t)) sound at in
    moved-sound s me k nothing (joined k t n Waits) (group ms (Closed l t)) (group (ms ++ member me t n ∷ []) (Closed l (t + n))) sound record {
      is = is;
      at = at;
      within = nonempty_group-within k s.groups (λ e. let p : Closed l t ≡ Vacant = ap (λ (g : Group). g.phase) (sym at ∙ e) in absurd (cc));
      on = tt;
      on' = refl;
      mine = record {
        joins = seats-push me me t n ms ∙ ((λ i. mine.joins i ++ cond_equal-single {A = ℕ × ℕ} (t, n) me i) ∙ sym
            (cond_equal-single {A = ℕ × ℕ} (t, n) k));
        leads = mine.leads ∙ sym (cond-both_none (k == k));
        told = λ e. tt;
      };
      others = λ j z ne h. record {
        joins = seats-push j me t n ms ∙ (ap (λ l. seats_of j ms ++ l) (cond_unequal-none {A = ℕ × ℕ} (t, n) me j ne) ∙
            (append-none (seats_of j ms) ∙ h.joins));
        leads = h.leads;
        told = heard_at-new_phase k z (Closed l t) (Closed l (t + n))
            (λ P x. let e = x.3 in absurd (cc)) h.told;
      };
      works = λ b. refl;
      shares = λ b. refl;
      group = record { tiles = tiles-push 0 t n me ms some' old.tiles; positive = let one' = old.positive in omega arith; within_quarter = most };
      held = tt;
      carries = λ x. x;
    }
