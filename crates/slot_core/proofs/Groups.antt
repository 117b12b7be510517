-- The events of a slot that change no reservation: joining, leading, hearing and reopening.
use Rattle.std.proofs.Common.{◌≡◌, ◌≢◌, ℕ, ◌==◌, ◌+◌, ◌/◌, ◌<◌, ◌≤◌, cond, true, List, [], ◌∷◌, ◌++◌, length, Some, refl, sym, ap, ◌∙◌, subst, arith, eq-eqb, ne_eqb}
use Rattle.lsn_space.specs.declared.lsn.TheConstants.{LAST}
use Rattle.ring_core.specs.RingLog.{is_marked}
use Rattle.slot_core.specs.State.{Idle, Outcome, Granted, Refused, GroupPhase, Vacant, Gathering, Closed, Placed, Ready, Told, Emptied, MemberStage}
use Rattle.slot_core.specs.State.{Closes, Waits, Places, Stores, Tells, Fills, Leaves, Task, InRing, Member, Group, SlotState, nothing, joined}
use Rattle.slot_core.specs.State.{task_of, with_task, member, group, group_at}
use Rattle.slot_core.specs.Owners.{placed_at}
use Rattle.slot_core.specs.Members.{seats_of, NextStep, ToClose, ToPlace, ToStore, ToTell, ToReopen, step_of, step_at, IsTold, HasHeard}
use Rattle.slot_core.specs.Groups.{units_in, units_of, IsGroup}
use Rattle.slot_core.specs.Laws.{FitsPiece, Carries, HasCarrier, IsSound}
use Rattle.slot_core.specs.Machine.{fits, turned, moved}
use Rattle.slot_core.proofs.Hands.{nonempty_group-within, units-with_task_same, has_carrier-turned}
use Rattle.slot_core.proofs.Moving.{moved-sound, turned-sound, sound-link, sound-group}
use Rattle.slot_core.proofs.Pieces.{cond_equal-single, cond_unequal-none, cond-both_none, step_agrees-leader, heard_at-new_phase}
use Rattle.slot_core.proofs.Pieces.{other_link-new_phase, tiles-push, seats-push, append-none, tiles-sum, tiles-apart}

-- Join, of the first
pub join_first-sound : (s : SlotState) (me k n : ℕ) → IsSound s → k < length s.groups → task_of me s.hands ≡ nothing → group_at k s.groups ≡ group [] Vacant → 1 ≤ n → n ≤ s.log.ring / 4
    → IsSound (moved s me k (joined k 0 n Closes) (group (member me 0 n ∷ []) (Gathering me n)))
join_first-sound s me k n sound within is at some' most = moved-sound s me k nothing (joined k 0 n Closes) (group [] Vacant) (group (member me 0 n ∷ []) (Gathering me n)) sound record {
  is = is;
  at = at;
  within = within;
  on = tt;
  on' = refl;
  mine = record {
    joins = cond_equal-single {A = ℕ × ℕ} (0, n) me ∙ sym (cond_equal-single {A = ℕ × ℕ} (0, n) k);
    leads = cond_equal-single ToClose me
        ∙ sym (cond_equal-single ToClose k);
    told = λ e. tt;
  };
  others = λ j z ne l. record {
    joins = cond_unequal-none {A = ℕ × ℕ} (0, n) me j ne ∙ l.joins;
    leads = cond_unequal-none ToClose me j ne ∙ l.leads;
    told = heard_at-new_phase k z Vacant (Gathering me n) (λ P h. let e = h.3 in absurd (cc)) l.told;
  };
  works = λ b. refl;
  shares = λ b. refl;
  group = record { tiles = (refl, some', omega arith); positive = some'; within_quarter = most };
  held = tt;
  carries = λ x. x;
}

-- Join, of another
pub join_later-sound : (s : SlotState) (me k n l t : ℕ) (ms : List Member) → IsSound s → task_of me s.hands ≡ nothing → group_at k s.groups ≡ group ms (Gathering l t) → 1 ≤ n → t + n ≤ s.log.ring / 4
    → IsSound (moved s me k (joined k t n Waits) (group (ms ++ member me t n ∷ []) (Gathering l (t + n))))
join_later-sound s me k n l t ms sound is at some' most = let mine = sound-link s me k nothing (group ms (Gathering l t))
    sound is at in let old = sound-group s k (group ms (Gathering l t)) sound at in
    moved-sound s me k nothing (joined k t n Waits) (group ms (Gathering l t)) (group (ms ++ member me t n ∷ []) (Gathering l (t + n))) sound record {
      is = is;
      at = at;
      within = nonempty_group-within k s.groups (λ e. let p : Gathering l t ≡ Vacant = ap (λ (g : Group). g.phase) (sym at ∙ e) in absurd (cc));
      on = tt;
      on' = refl;
      mine = record {
        joins = seats-push me me t n ms ∙ ((λ i. mine.joins i ++ cond_equal-single {A = ℕ × ℕ} (t, n) me i) ∙ sym
            (cond_equal-single {A = ℕ × ℕ} (t, n) k));
        leads = mine.leads ∙ sym (cond-both_none (k == k));
        told = λ e. tt;
      };
      others = λ j z ne h. record {
        joins = seats-push j me t n ms ∙ (ap (λ l. seats_of j ms ++ l) (cond_unequal-none {A = ℕ × ℕ} (t, n) me j ne) ∙
            (append-none (seats_of j ms) ∙ h.joins));
        leads = h.leads;
        told = heard_at-new_phase k z (Gathering l t) (Gathering l (t + n))
            (λ P x. let e = x.3 in absurd (cc)) h.told;
      };
      works = λ b. refl;
      shares = λ b. refl;
      group = record { tiles = tiles-push 0 t n me ms some' old.tiles; positive = let one' = old.positive in omega arith; within_quarter = most };
      held = tt;
      carries = λ x. x;
    }

-- a step of the leader
pub leader_step-sound : (s : SlotState) (me k a n l : ℕ) (st st' : MemberStage) (ms : List Member) (p p' : GroupPhase) (x : NextStep) → IsSound s
    → task_of me s.hands ≡ joined k a n st → group_at k s.groups ≡ group ms p → p ≢ Vacant
    → step_at st ≡ x ∷ [] → ((j : ℕ) → step_of j p ≡ cond (l == j) (x ∷ []) [])
    → ((j : ℕ) → step_of j p' ≡ cond (l == j) (step_at st') [])
    → ((P : Outcome → Type 0) → IsTold P p → IsTold P p') → HasHeard st' p'
    → ((b : ℕ) → placed_at b p' ≡ placed_at b p) → units_in k (joined k a n st') ≡ units_in k (joined k a n st)
    → (IsGroup (s.log.ring / 4) s.log.reservations (units_of k s.hands ms) ms p → IsGroup (s.log.ring / 4) s.log.reservations (units_of k s.hands ms) ms p')
    → FitsPiece n st' → IsSound (moved s me k (joined k a n st') (group ms p'))
leader_step-sound s me k a n l st st' ms p p' x sound is at full step roles roles' heard heard' shares units into fits =
    let mine = sound-link s me k (joined k a n st) (group ms p) sound is at in
    let leader : l ≡ me = step_agrees-leader l me k x (sym (roles me) ∙ (mine.leads ∙ ap (λ r. cond (k == k) r []) step)) in
    moved-sound s me k (joined k a n st) (joined k a n st') (group ms p) (group ms p') sound record {
      is = is;
      at = at;
      within = nonempty_group-within k s.groups (λ e. full (ap (λ (g : Group). g.phase) (sym at ∙ e)));
      on = refl;
      on' = refl;
      mine = record { joins = mine.joins; leads = roles' me ∙ ap (λ b. cond b (step_at st') []) (eq-eqb l me leader ∙ sym (eq-eqb k k refl)); told = λ e. heard' };
      others = λ j z ne h. other_link-new_phase j k z ms p p' (roles j ∙ cond_unequal-none x l j (λ e. ne (e ∙ leader))) (roles' j ∙ ap (λ b. cond b
          (step_at st') []) (ne_eqb l j (λ e. ne (sym e ∙ leader)))) heard h;
      works = λ b. refl;
      shares = shares;
      group = subst (λ d. IsGroup (s.log.ring / 4) s.log.reservations d ms p') (sym (units-with_task_same k me (joined k a n st') s.hands ms (units
          ∙ ap (units_in k) (sym is)))) (into (sound-group s k (group ms p) sound at));
      held = fits;
      carries = λ z. z;
    }

-- an actor leads the group, whose next step it makes
pub next_step-by_leader : (s : SlotState) (me k a n l : ℕ) (st : MemberStage) (ms : List Member) (p : GroupPhase) (x : NextStep) → IsSound s
    → task_of me s.hands ≡ joined k a n st → group_at k s.groups ≡ group ms p
    → step_at st ≡ x ∷ [] → step_of me p ≡ cond (l == me) (x ∷ []) [] → l ≡ me
next_step-by_leader s me k a n l st ms p x sound is at step role = step_agrees-leader l me k x (sym role ∙ ((sound-link s me k (joined k a n st)
    (group ms p) sound is at).leads ∙ ap (λ r. cond (k == k) r []) step))

pub close-sound : (s : SlotState) (me k a n l t : ℕ) (ms : List Member) → IsSound s → task_of me s.hands ≡ joined k a n Closes → group_at k s.groups
    ≡ group ms (Gathering l t) → IsSound (moved s me k (joined k a n Places) (group ms (Closed l t)))
close-sound s me k a n l t ms sound is at = leader_step-sound s me k a n l Closes Places ms (Gathering l t) (Closed l t) ToClose sound is at (λ e. cc) refl (λ j. refl)
    (λ j. refl) (λ P h. let e = h.3 in absurd (cc)) tt (λ b. refl) refl (λ h. h) tt

pub place_refused-sound : (s : SlotState) (me k a n l t x y : ℕ) (ms : List Member) → IsSound s → task_of me s.hands ≡ joined k a n Places
    → group_at k s.groups ≡ group ms (Closed l t) → x ≤ LAST → y ≤ LAST
    → IsSound (moved s me k (joined k a n Stores) (group ms (Placed me t (Refused x y))))
place_refused-sound s me k a n l t x y ms sound is at low low' = leader_step-sound s me k a n l Places Stores ms (Closed l t) (Placed me t (Refused x y)) ToPlace sound is at (λ e. cc) refl (λ j. refl)
    (λ j. ap (λ i. cond (i == j) (ToStore ∷ []) []) (sym (next_step-by_leader s me k a n l Places ms (Closed l t) ToPlace sound is at refl refl)))
    (λ P h. let e = h.3 in absurd (cc)) tt (λ b. refl) refl (λ h. record { gathered = h; covers = (low, low') }) tt

pub put_base-sound : (s : SlotState) (me k a n l t : ℕ) (o : Outcome) (ms : List Member) → IsSound s → task_of me s.hands ≡ joined k a n Stores → group_at k s.groups ≡ group ms (Placed l t o)
    → IsSound (moved s me k (joined k a n Tells) (group ms (Ready l t o)))
put_base-sound s me k a n l t o ms sound is at = leader_step-sound s me k a n l Stores Tells ms (Placed l t o) (Ready l t o) ToStore sound is at (λ e. cc) refl (λ j. refl)
    (λ j. refl) (λ P h. let e = h.3 in absurd (cc)) tt (λ b. refl) refl (λ h. h) tt

pub tell-sound : (s : SlotState) (me k a n l t : ℕ) (o : Outcome) (ms : List Member) → IsSound s → task_of me s.hands ≡ joined k a n Tells → group_at k s.groups ≡ group ms (Ready l t o)
    → IsSound (moved s me k (joined k a n Waits) (group ms (Told t o t)))
tell-sound s me k a n l t o ms sound is at = leader_step-sound s me k a n l Tells Waits ms (Ready l t o) (Told t o t) ToTell sound is at (λ e. cc) refl (λ j. refl)
    (λ j. sym (cond-both_none (l == j))) (λ P h. let e = h.3 in absurd (cc)) tt (λ b. refl) refl
    (λ h. let sum = tiles-sum 0 t ms h.gathered.tiles in record {
      apart = tiles-apart 0 t ms h.gathered.tiles;
      sum = omega (arith, sum);
      positive = h.gathered.positive;
      within = omega arith;
      within_quarter = h.gathered.within_quarter;
      covers = h.covers;
    }) tt

pub reopen-sound : (s : SlotState) (me k l : ℕ) (ms : List Member) → IsSound s → task_of me s.hands ≡ InRing (Some k) Idle → group_at k s.groups
    ≡ group ms (Emptied l) → IsSound (moved s me k nothing (group [] Vacant))
reopen-sound s me k l ms sound is at =
    let mine = sound-link s me k (InRing (Some k) Idle) (group ms (Emptied l)) sound is at in
    let nobody : ms ≡ [] = sound-group s k (group ms (Emptied l)) sound at in
    let leader : l ≡ me = step_agrees-leader l me k ToReopen mine.leads in
    moved-sound s me k (InRing (Some k) Idle) nothing (group ms (Emptied l)) (group [] Vacant) sound record {
      is = is;
      at = at;
      within = nonempty_group-within k s.groups (λ e. let p : Emptied l ≡ Vacant = ap (λ (g : Group). g.phase) (sym at ∙ e) in absurd (cc));
      on = refl;
      on' = tt;
      mine = record { joins = refl; leads = refl; told = tt };
      others = λ j z ne h. record {
        joins = ap (seats_of j) (sym nobody) ∙ h.joins;
        leads = sym (cond_unequal-none ToReopen l j (λ e. ne (e
            ∙ leader))) ∙ h.leads;
        told = heard_at-new_phase k z (Emptied l) Vacant (λ P x. let e = x.3 in absurd (cc)) h.told;
      };
      works = λ b. refl;
      shares = λ b. refl;
      group = refl;
      held = tt;
      carries = λ z. z;
    }

carried-on : (s : SlotState) (me : ℕ) (old new : Task) → IsSound s → task_of me s.hands ≡ old → (Carries s.log.exposed old
    → Carries s.log.exposed new) → is_marked s.log.exposed s.log.reservations ≡ true → HasCarrier (with_task me new s.hands) s.log.exposed
carried-on s me old new sound is f there = has_carrier-turned me new s.hands s.log.exposed (λ carries. f (subst (Carries s.log.exposed) is carries)) (sound.carried there)

-- Hear, of a granted group and of a refused one
pub hear_granted-sound : (s : SlotState) (me k a n t b r : ℕ) (ms : List Member) → IsSound s → task_of me s.hands ≡ joined k a n Waits
    → group_at k s.groups ≡ group ms (Told t (Granted b) r) → IsSound (turned s me (joined k a n (Fills 0)))
hear_granted-sound s me k a n t b r ms sound is at = turned-sound s me (joined k a n Waits) (joined k a n (Fills 0)) sound record {
  is = is;
  mine = λ q l. record { joins = l.joins; leads = l.leads; told = λ e. (t, Granted b, r, ap (λ (g : Group). g.phase) (ap (λ z. group_at z s.groups) (sym e) ∙ at), tt) };
  works = λ x. refl;
  units = λ q. refl;
  held = omega arith;
  carries = carried-on s me (joined k a n Waits) (joined k a n (Fills 0)) sound is (λ z. z);
}

pub hear_refused-sound : (s : SlotState) (me k a n t x y r : ℕ) (ms : List Member) → IsSound s → task_of me s.hands ≡ joined k a n Waits
    → group_at k s.groups ≡ group ms (Told t (Refused x y) r) → IsSound (turned s me (joined k a n Leaves))
hear_refused-sound s me k a n t x y r ms sound is at = turned-sound s me (joined k a n Waits) (joined k a n Leaves) sound record {
  is = is;
  mine = λ q l. record { joins = l.joins; leads = l.leads; told = λ e. (t, Refused x y, r, ap (λ (g : Group). g.phase) (ap (λ z. group_at z s.groups) (sym e) ∙ at), tt) };
  works = λ b. refl;
  units = λ q. refl;
  held = tt;
  carries = carried-on s me (joined k a n Waits) (joined k a n Leaves) sound is (λ z. z);
}
