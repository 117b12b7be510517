-- One actor turns to something else, at one slot or at none: what stays of the laws.
use Rattle.std.proofs.Common.{◌≡◌, ◌≢◌, ℕ, ◌==◌, ◌/◌, ◌<◌, cond, true, false, List, [], ◌∷◌, length, set, Some, None, refl, sym, ap, ◌∙◌, subst, ne_eqb}
use Rattle.std.specs.List.{find}
use Rattle.ring_core.specs.RingLog.{Reservation, is_at, is_marked}
use Rattle.slot_core.specs.State.{GroupPhase, Task, Joined, InRing, Hand, Group, SlotState, task_of, with_task, group_at}
use Rattle.slot_core.specs.Owners.{is_actor, is_slot, works_on, placed_at}
use Rattle.slot_core.specs.Members.{seat_in, ToReopen, step_at, step_in, HasHeardAt, Link, AllLinked}
use Rattle.slot_core.specs.Groups.{units_at, units_in, units_of, IsGroup, AllGroups}
use Rattle.slot_core.specs.Laws.{IsTrueTask, Carries, HasCarrier, IsSound}
use Rattle.slot_core.specs.Machine.{turned, moved}
use Rattle.slot_core.proofs.Hands.{with_task-each_actor, set_group-each_slot, links-moved, links-turned, units-with_task_same, group-same, has_carrier-turned}

-- the task has to do with no slot but this
abbrev pub OnSlot : ℕ → Task → Type 0
OnSlot k (Joined m) = m.slot ≡ k
OnSlot k (InRing None z) = Unit {0}
OnSlot k (InRing (Some s) z) = s ≡ k

-- so it is no part of another slot
pub record IsOff (q : ℕ) (task : Task) : Type 0 where
  pub seat : seat_in q task ≡ []
  pub step : step_in q task ≡ []
  pub units : units_in q task ≡ 0
  pub told : (p : GroupPhase) → HasHeardAt q task p

off : (k q : ℕ) (task : Task) → OnSlot k task → q ≢ k → IsOff q task
off k q (Joined m) on ne =
    let test : (m.slot == q) ≡ false = ne_eqb m.slot q (λ e. ne (sym e ∙ on)) in
    record {
      seat = ap (λ b. cond {A = List (ℕ × ℕ)} b ((m.offset, m.size) ∷ []) []) test;
      step = ap (λ b. cond b (step_at m.stage) []) test;
      units = ap (λ b. cond b (units_at m.stage) 0) test;
      told = λ p e. absurd (ne (sym e ∙ on));
    }
off k q (InRing None z) on ne = record { seat = refl; step = refl; units = refl; told = λ p. tt }
off k q (InRing (Some s) z) on ne = record { seat = refl; step = ap (λ b. cond b (ToReopen ∷ []) []) (ne_eqb s q (λ e. ne (sym e ∙ on))); units = refl; told = λ p. tt }

away : (me k q : ℕ) (old new : Task) (z : Group) → OnSlot k old → OnSlot k new → q ≢ k → Link me q old z → Link me q new z
away me k q old new z on on' ne l = let a = off k q old on ne in let b = off k q new on' ne in
    record { joins = l.joins ∙ (a.seat ∙ sym b.seat); leads = l.leads ∙ (a.step ∙ sym b.step); told = b.told z.phase }

units-away : (k q : ℕ) (old new : Task) → OnSlot k old → OnSlot k new → q ≢ k → units_in q new ≡ units_in q old
units-away k q old new on on' ne = (off k q new on' ne).units ∙ sym (off k q old on ne).units

pub links-moved_on_slot : (me k : ℕ) (old new : Task) (g : Group) (hands : List Hand) (groups : List Group) → task_of me hands ≡ old
    → k < length groups → OnSlot k old → OnSlot k new → AllLinked hands groups
    → Link me k new g → ((j : ℕ) (z : Task) → j ≢ me → Link j k z (group_at k groups) → Link j k z g) → AllLinked (with_task me new hands) (set groups k g)
links-moved_on_slot me k old new g hands groups is within on on' all mine others = links-moved me k new g hands groups within all mine
    (λ q z ne l. away me k q old new z on on' ne (subst (λ st. Link me q st z) is l)) others

-- the groups at the other slots, where the log is the same for them
pub groups-moved_on_slot : (most me k : ℕ) (old new : Task) (g : Group) (hands : List Hand) (groups : List Group) (rs rs' : List Reservation)
    → task_of me hands ≡ old → k < length groups → OnSlot k old → OnSlot k new → AllGroups most rs hands groups
    → ((q b : ℕ) → q ≢ k → placed_at b (group_at q groups).phase ≡ true → find (is_at b) rs' ≡ find (is_at b) rs)
    → IsGroup most rs' (units_of k (with_task me new hands) g.members) g.members g.phase → AllGroups most rs' (with_task me new hands) (set groups k g)
groups-moved_on_slot most me k old new g hands groups rs rs' is within on on' all found mine = set_group-each_slot
    (λ q z. (z ≡ group_at q groups) × IsGroup most rs (units_of q hands z.members) z.members z.phase)
    (λ q z. IsGroup most rs' (units_of q (with_task me new hands) z.members) z.members z.phase) k g groups within (λ q. (refl, all q)) mine
    (λ q z ne h. group-same most rs rs' (units_of q hands z.members) (units_of q (with_task me new hands) z.members) z.members z.phase
    (units-with_task_same q me new hands z.members (units-away k q old new on on' ne ∙ ap (units_in q) (sym is)))
    (λ b at. found q b ne (ap (λ (y : Group). placed_at b y.phase) (sym h.0) ∙ at)) h.1)

-- one actor and one slot change, and no reservation
pub record Move (s : SlotState) (me k : ℕ) (old new : Task) (g g' : Group) : Type 0 where
  pub is : task_of me s.hands ≡ old
  pub at : group_at k s.groups ≡ g
  pub within : k < length s.groups
  pub on : OnSlot k old
  pub on' : OnSlot k new
  pub mine : Link me k new g'
  pub others : (j : ℕ) (z : Task) → j ≢ me → Link j k z g → Link j k z g'
  pub works : (b : ℕ) → works_on b new ≡ works_on b old
  pub shares : (b : ℕ) → placed_at b g'.phase ≡ placed_at b g.phase
  pub group : IsGroup (s.log.ring / 4) s.log.reservations (units_of k (with_task me new s.hands) g'.members) g'.members g'.phase
  pub held : IsTrueTask s.log new
  pub carries : Carries s.log.exposed old → Carries s.log.exposed new

pub moved-sound : (s : SlotState) (me k : ℕ) (old new : Task) (g g' : Group) → IsSound s → Move s me k old new g g' → IsSound (moved s me k new g')
moved-sound s me k old new g g' sound m = record {
  log = sound.log;
  owner = sound.owner;
  works = with_task-each_actor (λ j z. (b : ℕ) → works_on b z ≡ is_actor j (sound.owner b)) (λ j z. (b : ℕ) → works_on b z ≡ is_actor j (sound.owner b)) me new s.hands sound.works
      (λ b. m.works b ∙ (ap (works_on b) (sym m.is) ∙ sound.works me b)) (λ j z ne h. h);
  shares = set_group-each_slot (λ q z. (b : ℕ) → placed_at b z.phase ≡ is_slot q (sound.owner b)) (λ q z. (b : ℕ) → placed_at b z.phase ≡ is_slot q (sound.owner b)) k g' s.groups m.within sound.shares
      (λ b. m.shares b ∙ (ap (λ (z : Group). placed_at b z.phase) (sym m.at) ∙ sound.shares k b)) (λ q z ne h. h);
  owned = sound.owned;
  links = links-moved_on_slot me k old new g' s.hands s.groups m.is m.within m.on m.on' sound.links m.mine (λ j z ne l. m.others j z ne (subst (Link j k z) m.at l));
  groups = groups-moved_on_slot (s.log.ring / 4) me k old new g' s.hands s.groups s.log.reservations s.log.reservations m.is m.within m.on m.on' sound.groups (λ q b ne at. refl) m.group;
  tasks = with_task-each_actor (λ j z. IsTrueTask s.log z) (λ j z. IsTrueTask s.log z) me new s.hands sound.tasks m.held (λ j z ne h. h);
  carried = λ there. has_carrier-turned me new s.hands s.log.exposed (λ carries. m.carries (subst (Carries s.log.exposed) m.is carries)) (sound.carried there);
}

-- what the actor knows of its own slot
pub sound-link : (s : SlotState) (me k : ℕ) (st : Task) (g : Group) → IsSound s → task_of me s.hands ≡ st → group_at k s.groups ≡ g → Link me k st g
sound-link s me k st g sound is at = subst (λ z. Link me k z g) is (subst (Link me k (task_of me s.hands)) at (sound.links me k))

pub sound-group : (s : SlotState) (k : ℕ) (g : Group) → IsSound s → group_at k s.groups ≡ g → IsGroup (s.log.ring / 4) s.log.reservations (units_of k s.hands g.members) g.members g.phase
sound-group s k g sound at = subst (λ (z : Group). IsGroup (s.log.ring / 4) s.log.reservations (units_of k s.hands z.members) z.members z.phase) at (sound.groups k)

-- one actor turns to another stage, and nothing else changes
pub record Turn (s : SlotState) (me : ℕ) (old new : Task) : Type 0 where
  pub is : task_of me s.hands ≡ old
  pub mine : (q : ℕ) → Link me q old (group_at q s.groups) → Link me q new (group_at q s.groups)
  pub works : (b : ℕ) → works_on b new ≡ works_on b old
  pub units : (q : ℕ) → units_in q new ≡ units_in q old
  pub held : IsTrueTask s.log new
  pub carries : is_marked s.log.exposed s.log.reservations ≡ true → HasCarrier (with_task me new s.hands) s.log.exposed

pub turned-sound : (s : SlotState) (me : ℕ) (old new : Task) → IsSound s → Turn s me old new → IsSound (turned s me new)
turned-sound s me old new sound t = record {
  log = sound.log;
  owner = sound.owner;
  works = with_task-each_actor (λ j z. (b : ℕ) → works_on b z ≡ is_actor j (sound.owner b)) (λ j z. (b : ℕ) → works_on b z ≡ is_actor j (sound.owner b)) me new s.hands sound.works
      (λ b. t.works b ∙ (ap (works_on b) (sym t.is) ∙ sound.works me b)) (λ j z ne h. h);
  shares = sound.shares;
  owned = sound.owned;
  links = links-turned me new s.hands s.groups sound.links (λ q l. t.mine q (subst (λ z. Link me q z (group_at q s.groups)) t.is l));
  groups = λ q. group-same (s.log.ring / 4) s.log.reservations s.log.reservations (units_of q s.hands (group_at q s.groups).members) (units_of q
      (with_task me new s.hands) (group_at q s.groups).members) (group_at q s.groups).members (group_at q s.groups).phase
      (units-with_task_same q me new s.hands (group_at q s.groups).members (t.units q ∙ ap (units_in q) (sym t.is))) (λ b e. refl) (sound.groups q);
  tasks = with_task-each_actor (λ j z. IsTrueTask s.log z) (λ j z. IsTrueTask s.log z) me new s.hands sound.tasks t.held (λ j z ne h. h);
  carried = t.carries;
}
