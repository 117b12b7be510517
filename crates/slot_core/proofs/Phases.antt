-- The phase of a slot, by the step that an actor makes next, and by what a member has heard.
use Rattle.std.proofs.Common.{◌≡◌, ℕ, ◌==◌, cond, Bool, true, false, [], ◌∷◌, IsSomeAnd, Some, refl, ap, ◌∙◌, eq-eqb}
use Rattle.slot_core.specs.State.{Outcome, Granted, Refused, GroupPhase, Vacant, Gathering, Closed, Placed, Ready, Told, Emptied, MemberStage, Fills}
use Rattle.slot_core.specs.State.{Leaves, Membership, Task, Joined, InRing, SlotState, joined, task_of, membership, group, group_at}
use Rattle.slot_core.specs.Members.{NextStep, ToClose, ToPlace, ToStore, ToTell, ToReopen, step_of, step_at, IsGranted, IsRefused}
use Rattle.slot_core.specs.Laws.{IsSound}
use Rattle.slot_core.proofs.Moving.{sound-link}

one-step : (b : Bool) (x y : NextStep) → cond b (x ∷ []) [] ≡ y ∷ [] → x ≡ y
one-step true x y e = cc
one-step false x y e = absurd (cc)

-- the phase, by what its next step is
pub to_close-gathering : (j : ℕ) (p : GroupPhase) → step_of j p ≡ ToClose ∷ [] → (l : ℕ) × (t : ℕ) × (p ≡ Gathering l t)
to_close-gathering j Vacant e = absurd (cc)
to_close-gathering j (Gathering l t) e = (l, t, refl)
to_close-gathering j (Closed l t) e = let x = one-step (l == j) ToPlace ToClose e in absurd (cc)
to_close-gathering j (Placed l t o) e = let x = one-step (l == j) ToStore ToClose e in absurd (cc)
to_close-gathering j (Ready l t o) e = let x = one-step (l == j) ToTell ToClose e in absurd (cc)
to_close-gathering j (Told t o r) e = absurd (cc)
to_close-gathering j (Emptied l) e = let x = one-step (l == j) ToReopen ToClose e in absurd (cc)

pub to_place-closed : (j : ℕ) (p : GroupPhase) → step_of j p ≡ ToPlace ∷ [] → (l : ℕ) × (t : ℕ) × (p ≡ Closed l t)
to_place-closed j Vacant e = absurd (cc)
to_place-closed j (Gathering l t) e = let x = one-step (l == j) ToClose ToPlace e in absurd (cc)
to_place-closed j (Closed l t) e = (l, t, refl)
to_place-closed j (Placed l t o) e = let x = one-step (l == j) ToStore ToPlace e in absurd (cc)
to_place-closed j (Ready l t o) e = let x = one-step (l == j) ToTell ToPlace e in absurd (cc)
to_place-closed j (Told t o r) e = absurd (cc)
to_place-closed j (Emptied l) e = let x = one-step (l == j) ToReopen ToPlace e in absurd (cc)

pub to_store-placed : (j : ℕ) (p : GroupPhase) → step_of j p ≡ ToStore ∷ [] → (l : ℕ) × (t : ℕ) × (o : Outcome) × (p ≡ Placed l t o)
to_store-placed j Vacant e = absurd (cc)
to_store-placed j (Gathering l t) e = let x = one-step (l == j) ToClose ToStore e in absurd (cc)
to_store-placed j (Closed l t) e = let x = one-step (l == j) ToPlace ToStore e in absurd (cc)
to_store-placed j (Placed l t o) e = (l, t, o, refl)
to_store-placed j (Ready l t o) e = let x = one-step (l == j) ToTell ToStore e in absurd (cc)
to_store-placed j (Told t o r) e = absurd (cc)
to_store-placed j (Emptied l) e = let x = one-step (l == j) ToReopen ToStore e in absurd (cc)

pub to_tell-ready : (j : ℕ) (p : GroupPhase) → step_of j p ≡ ToTell ∷ [] → (l : ℕ) × (t : ℕ) × (o : Outcome) × (p ≡ Ready l t o)
to_tell-ready j Vacant e = absurd (cc)
to_tell-ready j (Gathering l t) e = let x = one-step (l == j) ToClose ToTell e in absurd (cc)
to_tell-ready j (Closed l t) e = let x = one-step (l == j) ToPlace ToTell e in absurd (cc)
to_tell-ready j (Placed l t o) e = let x = one-step (l == j) ToStore ToTell e in absurd (cc)
to_tell-ready j (Ready l t o) e = (l, t, o, refl)
to_tell-ready j (Told t o r) e = absurd (cc)
to_tell-ready j (Emptied l) e = let x = one-step (l == j) ToReopen ToTell e in absurd (cc)

pub to_reopen-emptied : (j : ℕ) (p : GroupPhase) → step_of j p ≡ ToReopen ∷ [] → (l : ℕ) × (p ≡ Emptied l)
to_reopen-emptied j Vacant e = absurd (cc)
to_reopen-emptied j (Gathering l t) e = let x = one-step (l == j) ToClose ToReopen e in absurd (cc)
to_reopen-emptied j (Closed l t) e = let x = one-step (l == j) ToPlace ToReopen e in absurd (cc)
to_reopen-emptied j (Placed l t o) e = let x = one-step (l == j) ToStore ToReopen e in absurd (cc)
to_reopen-emptied j (Ready l t o) e = let x = one-step (l == j) ToTell ToReopen e in absurd (cc)
to_reopen-emptied j (Told t o r) e = absurd (cc)
to_reopen-emptied j (Emptied l) e = (l, refl)

-- a member of the group at a slot, by what an actor has in hand
pub membership_some_and-joined : (task : Task) (P : Membership → Type 0) → IsSomeAnd (membership task) P → (m : Membership) × (task ≡ Joined m) × (membership task ≡ Some m) × P m
membership_some_and-joined (Joined m) P h = (m, refl, refl, h)
membership_some_and-joined (InRing q z) P h = absurd h

-- its slot's next step, where it makes it
pub step_at-step_of : (s : SlotState) (j : ℕ) (m : Membership) (st : MemberStage) (x : NextStep) → IsSound s → task_of j s.hands
    ≡ joined m.slot m.offset m.size st → step_at st ≡ x ∷ [] → step_of j (group_at m.slot s.groups).phase ≡ x ∷ []
step_at-step_of s j m st x sound is step = (sound-link s j m.slot (joined m.slot m.offset m.size st) (group_at m.slot s.groups) sound is refl).leads ∙
    (ap (λ b. cond b (step_at st) []) (eq-eqb m.slot m.slot refl) ∙ step)

pub group_at-with_phase : (s : SlotState) (k : ℕ) (p : GroupPhase) → (group_at k s.groups).phase ≡ p → group_at k s.groups ≡ group (group_at k s.groups).members p
group_at-with_phase s k p is = ap (λ z. group (group_at k s.groups).members z) is

-- what a member that fills has heard
pub fills-told_granted : (s : SlotState) (j k a n f : ℕ) → IsSound s → task_of j s.hands ≡ joined k a n (Fills f) → (t : ℕ) × (b : ℕ) × (r : ℕ) × ((group_at k s.groups).phase ≡ Told t (Granted b) r)
fills-told_granted s j k a n f sound is = let h = (sound-link s j k (joined k a n (Fills f)) (group_at k s.groups) sound is refl).told refl in by_outcome h.0 h.1 h.2 h.3 h.4
  where
    by_outcome : (t : ℕ) (o : Outcome) (r : ℕ) → (group_at k s.groups).phase ≡ Told t o r → IsGranted o → (t : ℕ) × (b : ℕ) × (r : ℕ) × ((group_at k s.groups).phase ≡ Told t (Granted b) r)
    by_outcome t (Granted b) r e g = (t, b, r, e)
    by_outcome t (Refused x y) r e g = absurd g

pub leaves-told_refused : (s : SlotState) (j k a n : ℕ) → IsSound s → task_of j s.hands ≡ joined k a n Leaves → (t : ℕ) × (x : ℕ) × (y : ℕ) × (r : ℕ)
    × ((group_at k s.groups).phase ≡ Told t (Refused x y) r)
leaves-told_refused s j k a n sound is = let h = (sound-link s j k (joined k a n Leaves) (group_at k s.groups) sound is refl).told refl in by_outcome h.0 h.1 h.2 h.3 h.4
  where
    by_outcome : (t : ℕ) (o : Outcome) (r : ℕ) → (group_at k s.groups).phase ≡ Told t o r → IsRefused o → (t : ℕ) × (x : ℕ) × (y : ℕ) × (r : ℕ) × ((group_at k s.groups).phase ≡ Told t (Refused x y) r)
    by_outcome t (Granted b) r e g = absurd g
    by_outcome t (Refused x y) r e g = (t, x, y, r, e)
