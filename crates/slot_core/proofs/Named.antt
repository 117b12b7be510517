-- What the laws say in plain words.
use Rattle.std.proofs.Common.{◌≡◌, ◌≢◌, ◌↔◌, ◌⊎◌, inl, inr, ℕ, ◌==◌, ◌+◌, ◌/◌, ◌≤◌, cond, not, Bool, true, false, true≢false, List, [], ◌∷◌, Some, refl, sym, ap, ◌∙◌, subst, arith, eq-eqb, eqb-true}
use Rattle.std.specs.List.{find}
use Rattle.ring_core.specs.RingLog.{Reservation, is_at}
use Rattle.slot_core.specs.State.{Outcome, Granted, Refused, GroupPhase, Vacant, Gathering, Closed, Placed, Ready, Told, Emptied, Closes, Waits, Member, SlotState, task_of, group_at}
use Rattle.slot_core.specs.Owners.{Owner, Nobody, Actor, Shared, is_actor, is_slot, is_owned, works_on, granted_at, placed_at, is_open}
use Rattle.slot_core.specs.Members.{extent_of, seats_of}
use Rattle.slot_core.specs.Groups.{units_of, LieApart, IsTrueOutcome, IsGroup}
use Rattle.slot_core.specs.Laws.{IsSound}
use Rattle.slot_core.specs.Machine.{HasPlace, gathered, stage_joined}
use Rattle.slot_core.specs.Plain.{HasOwners, WorksAlone, IsOfOneSlot, IsOfOneKind, LeadsFromZero, HasPiecesApart, HasPiecesInRange, SumsRemaining}
use Rattle.slot_core.proofs.Owning.{is_actor_true-actor, is_slot_true-shared}
use Rattle.slot_core.proofs.Pieces.{tiles-apart}

-- a range that isn't marked has an owner: an actor, or a slot's placed group
pub sound-has_owners : (s : SlotState) → IsSound s → HasOwners s
sound-has_owners s sound b r found flag = by_owner (sound.owner b) refl (sym (sound.owned b) ∙ (ap is_open found ∙ ap not flag))
  where
    by_owner : (o : Owner) → sound.owner b ≡ o → is_owned o ≡ true → ((j : ℕ) × (works_on b (task_of j s.hands) ≡ true)) ⊎ ((k : ℕ) × (placed_at b (group_at k s.groups).phase ≡ true))
    by_owner Nobody is own = absurd (true≢false (sym own))
    by_owner (Actor j) is own = inl (j, sound.works j b ∙ (ap (is_actor j) is ∙ eq-eqb j j refl))
    by_owner (Shared k) is own = inr (k, sound.shares k b ∙ (ap (is_slot k) is ∙ eq-eqb k k refl))

-- and no other
pub sound-works_alone : (s : SlotState) → IsSound s → WorksAlone s
sound-works_alone s sound b i j x y = let a = is_actor_true-actor i (sound.owner b) (sym x ∙ sound.works i b) in let c = is_actor_true-actor j
    (sound.owner b) (sym y ∙ sound.works j b) in let e : Actor i ≡ Actor j = sym a ∙ c in cc

pub sound-of_one_slot : (s : SlotState) → IsSound s → IsOfOneSlot s
sound-of_one_slot s sound b i j x y = let a = is_slot_true-shared i (sound.owner b) (sym x ∙ sound.shares i b) in let c = is_slot_true-shared j
    (sound.owner b) (sym y ∙ sound.shares j b) in let e : Shared i ≡ Shared j = sym a ∙ c in cc

pub sound-of_one_kind : (s : SlotState) → IsSound s → IsOfOneKind s
sound-of_one_kind s sound b i k x y = let a = is_actor_true-actor i (sound.owner b) (sym x ∙ sound.works i b) in let c = is_slot_true-shared k
    (sound.owner b) (sym y ∙ sound.shares k b) in let e : Actor i ≡ Shared k = sym a ∙ c in cc

-- a member's piece lies within its group
pub seat-within : (lo hi j a n : ℕ) (ms : List Member) → LieApart lo ms hi → seats_of j ms ≡ (a, n) ∷ [] → (lo ≤ a) × (1 ≤ n) × (a + n ≤ hi)
seat-within lo hi j a n [] o e = absurd (cc)
seat-within lo hi j a n (m ∷ ms) o e = by_test (m.actor == j) e (seat-within (m.offset + m.size) hi j a n ms o.2)
  where
    end : (lo : ℕ) (ms : List Member) → LieApart lo ms hi → lo ≤ hi
    end lo [] o = o
    end lo (m ∷ ms) o = let rest = end (m.offset + m.size) ms o.2 in let first = o.0 in omega (arith, rest, first)

    by_test : (b : Bool) → cond b (extent_of m ∷ seats_of j ms) (seats_of j ms) ≡ (a, n) ∷ [] → (seats_of j ms ≡ (a, n) ∷ [] → (m.offset + m.size ≤ a)
        × (1 ≤ n) × (a + n ≤ hi)) → (lo ≤ a) × (1 ≤ n) × (a + n ≤ hi)
    by_test true e rest = let pair : extent_of m ≡ (a, n) = cc in let at : m.offset ≡ a = ap (λ (p : ℕ × ℕ). p.0) pair in let size : m.size ≡ n = ap
        (λ (p : ℕ × ℕ). p.1) pair in let first = o.0 in let some' = o.1 in let last = end (m.offset + m.size) ms o.2 in
        (omega (arith, at, first), omega (arith, size, some'), omega (arith, at, size, last))
    by_test false e rest = let r = rest e in let low = r.0 in let first = o.0 in (omega (arith, low, first), r.1, r.2)

-- pieces of two members lie apart
pub pieces-apart : (lo hi i j a n a' n' : ℕ) (ms : List Member) → i ≢ j → LieApart lo ms hi → seats_of i ms ≡ (a, n) ∷ [] → seats_of j ms ≡ (a', n') ∷ [] → (a + n ≤ a') ⊎ (a' + n' ≤ a)
pieces-apart lo hi i j a n a' n' [] ne o x y = absurd (cc)
pieces-apart lo hi i j a n a' n' (m ∷ ms) ne o x y = by_test (m.actor == i) (m.actor == j) refl refl x y (pieces-apart (m.offset + m.size) hi i j a n a' n' ms ne o.2)
  where
    by_test : (b c : Bool) → (m.actor == i) ≡ b → (m.actor == j) ≡ c → cond b (extent_of m ∷ seats_of i ms) (seats_of i ms) ≡ (a, n) ∷ [] → cond c
        (extent_of m ∷ seats_of j ms) (seats_of j ms) ≡ (a', n') ∷ []
        → (seats_of i ms ≡ (a, n) ∷ [] → seats_of j ms ≡ (a', n') ∷ [] → (a + n ≤ a') ⊎ (a' + n' ≤ a)) → (a + n ≤ a') ⊎ (a' + n' ≤ a)
    by_test true true is is' x y rest = absurd (ne (sym (eqb-true m.actor i is) ∙ eqb-true m.actor j is'))
    by_test true false is is' x y rest = let pair : extent_of m ≡ (a, n) = cc in let at : m.offset ≡ a = ap (λ (p : ℕ × ℕ). p.0)
        pair in let size : m.size ≡ n = ap (λ (p : ℕ × ℕ). p.1) pair in let w = seat-within (m.offset + m.size)
        hi j a' n' ms o.2 y in let low = w.0 in inl (omega (arith, at, size, low))
    by_test false true is is' x y rest = let pair : extent_of m ≡ (a', n') = cc in let at : m.offset ≡ a' = ap (λ (p : ℕ × ℕ). p.0)
        pair in let size : m.size ≡ n' = ap (λ (p : ℕ × ℕ). p.1) pair in let w = seat-within (m.offset + m.size)
        hi i a n ms o.2 x in let low = w.0 in inr (omega (arith, at, size, low))
    by_test false false is is' x y rest = rest x y

-- so they lie in every phase
nobody-apart : (ms : List Member) → ms ≡ [] → LieApart 0 ms 0
nobody-apart ms none = let zero : 0 ≤ 0 = omega arith in subst (λ l. LieApart 0 l 0) (sym none) zero

group-apart : (most u : ℕ) (rs : List Reservation) (ms : List Member) (p : GroupPhase) → IsGroup most rs u ms p → (hi : ℕ) × LieApart 0 ms hi
group-apart most u rs ms Vacant h = (0, nobody-apart ms h)
group-apart most u rs ms (Gathering l t) h = (t, tiles-apart 0 t ms h.tiles)
group-apart most u rs ms (Closed l t) h = (t, tiles-apart 0 t ms h.tiles)
group-apart most u rs ms (Placed l t o) h = (t, tiles-apart 0 t ms h.gathered.tiles)
group-apart most u rs ms (Ready l t o) h = (t, tiles-apart 0 t ms h.gathered.tiles)
group-apart most u rs ms (Told t o r) h = (t, h.apart)
group-apart most u rs ms (Emptied l) h = (0, nobody-apart ms h)

pub sound-pieces_apart : (s : SlotState) → IsSound s → HasPiecesApart s
sound-pieces_apart s sound k i j a n b m ne x y = let g = group_at k s.groups in let h = group-apart (s.log.ring / 4) (units_of k s.hands g.members)
    s.log.reservations g.members g.phase (sound.groups k) in
    pieces-apart 0 h.0 i j a n b m g.members ne h.1 x y

-- a range that a group was granted is as long as its total
covered : (b t r u : ℕ) (rs : List Reservation) (o : Outcome) → IsTrueOutcome rs o t r u → granted_at b o ≡ true → (q : Reservation) × (find (is_at b) rs ≡ Some q) × (q.size ≡ t)
covered b t r u rs (Granted c) h at = (h.r, subst (λ x. find (is_at x) rs ≡ Some h.r) (eqb-true c b at) h.found, h.size)
covered b t r u rs (Refused x d) h at = absurd (true≢false (sym at))

group-range : (most u b : ℕ) (rs : List Reservation) (ms : List Member) (p : GroupPhase) → IsGroup most rs u ms p → placed_at b p ≡ true
    → (t : ℕ) × LieApart 0 ms t × ((q : Reservation) × (find (is_at b) rs ≡ Some q) × (q.size ≡ t))
group-range most u b rs ms Vacant h at = absurd (true≢false (sym at))
group-range most u b rs ms (Gathering l t) h at = absurd (true≢false (sym at))
group-range most u b rs ms (Closed l t) h at = absurd (true≢false (sym at))
group-range most u b rs ms (Placed l t o) h at = (t, tiles-apart 0 t ms h.gathered.tiles, covered b t t u rs o h.covers at)
group-range most u b rs ms (Ready l t o) h at = (t, tiles-apart 0 t ms h.gathered.tiles, covered b t t u rs o h.covers at)
group-range most u b rs ms (Told t o r) h at = (t, h.apart, covered b t r u rs o h.covers at)
group-range most u b rs ms (Emptied l) h at = absurd (true≢false (sym at))

-- a member's piece lies within the group's range
pub sound-pieces_in_range : (s : SlotState) → IsSound s → HasPiecesInRange s
sound-pieces_in_range s sound k j a n b at seat = let g = group_at k s.groups in let h = group-range (s.log.ring / 4) (units_of k s.hands g.members)
    b s.log.reservations g.members g.phase (sound.groups k) at in
    let w = seat-within 0 h.0 j a n g.members h.1 seat in let last = w.2 in let size = h.2.2 in (h.2.0, h.2.1, omega (arith, last, size))

-- what remains of a told group is what its members have who haven't released
pub sound-sums_remaining : (s : SlotState) → IsSound s → SumsRemaining s
sound-sums_remaining s sound k t r o at = let ms = (group_at k s.groups).members in (subst (IsGroup (s.log.ring / 4) s.log.reservations (units_of k s.hands ms) ms) at (sound.groups k)).sum

-- who joins where no unit is gathered leads, and no other
pub sound-leads_from_zero : (s : SlotState) → IsSound s → LeadsFromZero s
sound-leads_from_zero s sound me k n may = by_phase (units_of k s.hands (group_at k s.groups).members) (group_at k s.groups).members (group_at k s.groups).phase may.place (sound.groups k)
  where
    by_phase : (u : ℕ) (ms : List Member) (p : GroupPhase) → HasPlace (s.log.ring / 4) n p → IsGroup (s.log.ring / 4) s.log.reservations u ms p → (stage_joined p ≡ Closes) ↔ (gathered p ≡ 0)
    by_phase u ms Vacant place h = (λ e. refl, λ e. refl)
    by_phase u ms (Gathering l t) place h = (λ (e : Waits ≡ Closes). absurd (cc), λ (e : t ≡ 0). let some' = h.positive in absurd (omega (arith, some', e)))
    by_phase u ms (Closed l t) place h = absurd place
    by_phase u ms (Placed l t o) place h = absurd place
    by_phase u ms (Ready l t o) place h = absurd place
    by_phase u ms (Told t o r) place h = absurd place
    by_phase u ms (Emptied l) place h = absurd place
