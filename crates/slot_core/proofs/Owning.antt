-- Who works on a reservation, and what is in hand, where the log changes.
use Rattle.std.proofs.Common.{IsSomeAnd, ◌≡◌, ◌≢◌, ℕ, ◌==◌, ◌<◌, ◌≤◌, cond, true, false, true≢false, List, length, set, Some, None, refl, sym, ap, ◌∙◌, subst, arith, eq-eqb, eqb-true, ne_eqb}
use Rattle.std.specs.List.{find}
use mathlib.Core.Logic.{dite}
use native.Mathlib.Decide.{ℕ_discrete}
use Rattle.slot_core.proofs.Hands.{with_task-each_actor, set_group-each_slot, units-with_task_same, group-same}
use Rattle.slot_core.proofs.LogLookups.{tail-absent}
use Rattle.ring_core.specs.RingLog.{Reservation, RingLog, is_at, IsLogBoundary, is_marked, IsFull}
use Rattle.slot_core.specs.State.{Idle, Works, Marked, Holds, Raises, Task, Joined, InRing, Hand, Group, SlotState, task_of, with_task, group_at}
use Rattle.slot_core.specs.Owners.{Owner, Nobody, Actor, Shared, is_actor, is_slot, is_owned, works_on, placed_at, is_open}
use Rattle.slot_core.specs.Groups.{units_in, units_of, IsGroup, AllGroups}
use Rattle.slot_core.specs.Laws.{IsTrueTask, IsSound}

-- another owner at x
abbrev pub put : (ℕ → Owner) → ℕ → Owner → ℕ → Owner
put f x o b = cond (b == x) o (f b)

pub put-at : (f : ℕ → Owner) (x : ℕ) (o : Owner) → put f x o x ≡ o
put-at f x o = ap (λ b. cond b o (f x)) (eq-eqb x x refl)

pub put-else : (f : ℕ → Owner) (x : ℕ) (o : Owner) (b : ℕ) → b ≢ x → put f x o b ≡ f b
put-else f x o b ne = ap (λ c. cond c o (f b)) (ne_eqb b x ne)

-- what holds at x of the new owner, and elsewhere of the old
pub put-each : (P : ℕ → Owner → Type 0) (f : ℕ → Owner) (x : ℕ) (o : Owner) → P x o → ((b : ℕ) → b ≢ x → P b (f b)) → (b : ℕ) → P b (put f x o b)
put-each P f x o now others b = dite (ℕ_discrete b x)
    (λ e. subst (λ z. P z (put f x o z)) (sym e) (subst (P x) (sym (put-at f x o)) now))
    (λ ne. subst (P b) (sym (put-else f x o b ne)) (others b ne))

pub is_actor_true-actor : (j : ℕ) (o : Owner) → true ≡ is_actor j o → o ≡ Actor j
is_actor_true-actor j Nobody e = absurd (true≢false e)
is_actor_true-actor j (Actor i) e = ap Actor (eqb-true i j (sym e))
is_actor_true-actor j (Shared k) e = absurd (true≢false e)

pub is_slot_true-shared : (k : ℕ) (o : Owner) → true ≡ is_slot k o → o ≡ Shared k
is_slot_true-shared k Nobody e = absurd (true≢false e)
is_slot_true-shared k (Actor i) e = absurd (true≢false e)
is_slot_true-shared k (Shared q) e = ap Shared (eqb-true q k (sym e))

pub is_owned_false-nobody : (o : Owner) → false ≡ is_owned o → o ≡ Nobody
is_owned_false-nobody Nobody e = refl
is_owned_false-nobody (Actor i) e = absurd (true≢false (sym e))
is_owned_false-nobody (Shared q) e = absurd (true≢false (sym e))

pub is_actor-other_false : (j me : ℕ) → j ≢ me → is_actor j (Actor me) ≡ false
is_actor-other_false j me ne = ne_eqb me j (λ e. ne (sym e))

pub is_slot-other_false : (q k : ℕ) → q ≢ k → is_slot q (Shared k) ≡ false
is_slot-other_false q k ne = ne_eqb k q (λ e. ne (sym e))

pub works-put : (owner : ℕ → Owner) (me x : ℕ) (o' : Owner) (old new : Task) (hands : List Hand) → task_of me hands ≡ old
    → ((j b : ℕ) → works_on b (task_of j hands) ≡ is_actor j (owner b))
    → ((j : ℕ) → j ≢ me → is_actor j (owner x) ≡ is_actor j o') → works_on x new ≡ is_actor me o' → ((b : ℕ) → b ≢ x → works_on b new ≡ works_on b old)
    → (j b : ℕ) → works_on b (task_of j (with_task me new hands)) ≡ is_actor j (put owner x o' b)
works-put owner me x o' old new hands is works own here else' = with_task-each_actor (λ j z. (b : ℕ) → works_on b z ≡ is_actor j (owner b)) (λ j z.
    (b : ℕ) → works_on b z ≡ is_actor j (put owner x o' b)) me new hands works
    (put-each (λ b o. works_on b new ≡ is_actor me o) owner x o' here (λ b ne. else' b ne ∙ (ap (works_on b) (sym is) ∙ works me b)))
    (λ j z ne h. put-each (λ b o. works_on b z ≡ is_actor j o) owner x o' (h x ∙ own j ne) (λ b _. h b))

pub shares-put_new_group : (owner : ℕ → Owner) (k x : ℕ) (o' : Owner) (g g' : Group) (groups : List Group) → group_at k groups ≡ g → k < length groups
    → ((q b : ℕ) → placed_at b (group_at q groups).phase ≡ is_slot q (owner b))
    → ((q : ℕ) → q ≢ k → is_slot q (owner x) ≡ is_slot q o') → placed_at x g'.phase ≡ is_slot k o' → ((b : ℕ) → b ≢ x → placed_at b g'.phase ≡ placed_at b g.phase)
    → (q b : ℕ) → placed_at b (group_at q (set groups k g')).phase ≡ is_slot q (put owner x o' b)
shares-put_new_group owner k x o' g g' groups at within shares own here else' = set_group-each_slot (λ q z. (b : ℕ) → placed_at b z.phase ≡ is_slot q
    (owner b)) (λ q z. (b : ℕ) → placed_at b z.phase ≡ is_slot q (put owner x o' b)) k g' groups within shares
    (put-each (λ b o. placed_at b g'.phase ≡ is_slot k o) owner x o' here (λ b ne. else' b ne ∙ (ap (λ (z : Group). placed_at b z.phase) (sym at) ∙ shares k b)))
    (λ q z ne h. put-each (λ b o. placed_at b z.phase ≡ is_slot q o) owner x o' (h x ∙ own q ne) (λ b _. h b))

pub shares-put_same_groups : (owner : ℕ → Owner) (x : ℕ) (o' : Owner) (groups : List Group)
    → ((q b : ℕ) → placed_at b (group_at q groups).phase ≡ is_slot q (owner b)) → ((q : ℕ) → is_slot q (owner x) ≡ is_slot q o')
    → (q b : ℕ) → placed_at b (group_at q groups).phase ≡ is_slot q (put owner x o' b)
shares-put_same_groups owner x o' groups shares own q = put-each (λ b o. placed_at b (group_at q groups).phase ≡ is_slot q o) owner x o' (shares q x ∙ own q) (λ b _. shares q b)

pub owned-put : (owner : ℕ → Owner) (x : ℕ) (o' : Owner) (rs rs' : List Reservation) → ((b : ℕ) → is_open (find (is_at b) rs) ≡ is_owned (owner b))
    → is_open (find (is_at x) rs') ≡ is_owned o' → ((b : ℕ) → b ≢ x → find (is_at b) rs' ≡ find (is_at b) rs)
    → (b : ℕ) → is_open (find (is_at b) rs') ≡ is_owned (put owner x o' b)
owned-put owner x o' rs rs' owned here else' = put-each (λ b o. is_open (find (is_at b) rs') ≡ is_owned o) owner x o' here (λ b ne. ap is_open (else' b ne) ∙ owned b)

-- the groups, where one actor turns and the log changes, and no slot
pub groups-turned_at_slot : (most me k : ℕ) (new : Task) (hands : List Hand) (groups : List Group) (rs rs' : List Reservation) → AllGroups most rs hands groups
    → IsGroup most rs' (units_of k (with_task me new hands) (group_at k groups).members) (group_at k groups).members (group_at k groups).phase
    → ((q : ℕ) → q ≢ k → units_in q new ≡ units_in q (task_of me hands))
    → ((q b : ℕ) → q ≢ k → placed_at b (group_at q groups).phase ≡ true → find (is_at b) rs' ≡ find (is_at b) rs)
    → AllGroups most rs' (with_task me new hands) groups
groups-turned_at_slot most me k new hands groups rs rs' all mine units found q = dite (ℕ_discrete q k)
    (λ e. subst (λ z. IsGroup most rs' (units_of z (with_task me new hands) (group_at z groups).members) (group_at z groups).members (group_at z groups).phase) (sym e) mine)
    (λ ne. let g = group_at q groups in group-same most rs rs' (units_of q hands g.members) (units_of q (with_task me new hands) g.members) g.members g.phase
    (units-with_task_same q me new hands g.members (units q ne)) (λ b at. found q b ne at) (all q))

-- where no slot has a part in it
pub groups-turned_at_no_slot : (most me : ℕ) (new : Task) (hands : List Hand) (groups : List Group) (rs rs' : List Reservation) → AllGroups most rs hands groups
    → ((q : ℕ) → units_in q new ≡ units_in q (task_of me hands))
    → ((q b : ℕ) → placed_at b (group_at q groups).phase ≡ true → find (is_at b) rs' ≡ find (is_at b) rs)
    → AllGroups most rs' (with_task me new hands) groups
groups-turned_at_no_slot most me new hands groups rs rs' all units found q = let g = group_at q groups in
    group-same most rs rs' (units_of q hands g.members) (units_of q (with_task me new hands) g.members) g.members g.phase
    (units-with_task_same q me new hands g.members (units q)) (λ b at. found q b at) (all q)

-- what is in hand, where the log changes
pub true_task-log_grows : (l l' : RingLog) (z : Task) → ((b : ℕ) → works_on b z ≡ true → IsSomeAnd (find (is_at b) l.reservations) IsFull → IsSomeAnd (find (is_at b) l'.reservations) IsFull)
    → ((e : ℕ) → IsLogBoundary l e → IsLogBoundary l' e) → ((e : ℕ) → is_marked e l.reservations ≡ true → is_marked e l'.reservations ≡ true)
    → l.exposed ≤ l'.exposed → IsTrueTask l z → IsTrueTask l' z
true_task-log_grows l l' (Joined m) full bound marks le h = h
true_task-log_grows l l' (InRing q Idle) full bound marks le h = tt
true_task-log_grows l l' (InRing None (Works b)) full bound marks le h = tt
true_task-log_grows l l' (InRing (Some k) (Works b)) full bound marks le h = full b (eq-eqb b b refl) h
true_task-log_grows l l' (InRing q Marked) full bound marks le h = tt
true_task-log_grows l l' (InRing q (Holds e)) full bound marks le h = record { boundary = bound e h.boundary; exposed = let at = h.exposed in omega (arith, at, le) }
true_task-log_grows l l' (InRing q (Raises e)) full bound marks le h = (record { boundary = bound e h.0.boundary; exposed = let at = h.0.exposed in omega (arith, at, le) }, marks e h.1)

-- who owns what an actor works on, and what a slot's group has
pub works_on-owner_actor : (s : SlotState) (me b : ℕ) (old : Task) (sound : IsSound s) → task_of me s.hands ≡ old → works_on b old ≡ true → sound.owner b ≡ Actor me
works_on-owner_actor s me b old sound is works = is_actor_true-actor me (sound.owner b) (sym works ∙ (ap (works_on b) (sym is) ∙ sound.works me b))

pub placed_at-owner_shared : (s : SlotState) (k b : ℕ) (sound : IsSound s) → placed_at b (group_at k s.groups).phase ≡ true → sound.owner b ≡ Shared k
placed_at-owner_shared s k b sound at = is_slot_true-shared k (sound.owner b) (sym at ∙ sound.shares k b)

-- a reservation that an actor works on is no group's
pub actor_owned-not_placed : (s : SlotState) (me q b b' : ℕ) (sound : IsSound s) → sound.owner b ≡ Actor me → placed_at b' (group_at q s.groups).phase ≡ true → b' ≢ b
actor_owned-not_placed s me q b b' sound mine at e = let same : Shared q ≡ Actor me = sym (placed_at-owner_shared s q b' sound at) ∙ (ap sound.owner e ∙ mine) in absurd (cc)

-- nobody owns the tail, so no group's range begins there
pub tail-owner_nobody : (s : SlotState) (sound : IsSound s) → sound.owner s.log.tail ≡ Nobody
tail-owner_nobody s sound = is_owned_false-nobody (sound.owner s.log.tail) (ap is_open (sym (tail-absent s.log sound.log)) ∙ sound.owned s.log.tail)

pub placed_at-not_tail : (s : SlotState) (q b : ℕ) (sound : IsSound s) → placed_at b (group_at q s.groups).phase ≡ true → b ≢ s.log.tail
placed_at-not_tail s q b sound at e = let same : Shared q ≡ Nobody = sym (placed_at-owner_shared s q b sound at) ∙ (ap sound.owner e ∙ tail-owner_nobody s sound) in absurd (cc)
