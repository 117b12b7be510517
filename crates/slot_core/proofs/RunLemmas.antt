-- What the program's steps rest on: what is known of a member, and of an actor that opens a slot.
use Rattle.std.proofs.Common.{◌≡◌, ◌&&◌, ℕ, ◌+◌, ◌/◌, ◌<◌, nat_le, cond, Bool, true, false, List, [], ◌∷◌, length, IsSomeAnd, Some, refl, sym, ap, ◌∙◌, subst, arith, le_refl, leb-true, le-leb}
use Rattle.std.specs.List.{find}
use Rattle.std.specs.Option.{is_some}
use Rattle.lsn_space.specs.declared.lsn.TheConstants.{LAST}
use Rattle.ring_core.specs.RingLog.{Reservation, is_at, is_marked, HasRoom, HasUnfilled}
use Rattle.ring_core.specs.State.{base_in, looks_at, worked_on, after_look}
use Rattle.ring_core.specs.declared.event.RingEvent.TheVariants.{Fill, LookExposed, LookMark}
use Rattle.slot_core.specs.State.{Stage, Idle, Works, Marked, Holds, Raises, Outcome, Granted, Refused, GroupPhase, Vacant, Gathering, Closed, Placed}
use Rattle.slot_core.specs.State.{Ready, Told, Emptied, MemberStage, Closes, Waits, Places, Stores, Tells, Fills, Leaves, Membership, Task, Joined}
use Rattle.slot_core.specs.State.{InRing, Group, SlotState, nothing, joined, task_of, membership, ring_stage, reopening, group, empty_group, group_at}
use Rattle.slot_core.specs.State.{without}
use Rattle.slot_core.specs.Members.{seats_of, ToPlace, ToReopen}
use Rattle.slot_core.specs.Groups.{IsGathered}
use Rattle.slot_core.specs.Laws.{IsSound}
use Rattle.slot_core.specs.Machine.{Close, Place, PutBase, Tell, Hear, Release, Reopen, Ring, fits, closed_total, MayPlace, told_outcome, MayHear}
use Rattle.slot_core.specs.Machine.{HasUnfilledPiece, MayFill, HasDone, turned, moved, task_released, phase_released, at_stage, in_ring, after_lead}
use Rattle.slot_core.specs.Machine.{after_place, stage_heard, after_hear, granted_base, after_fill, after_release, after_look_mark, after_reopen}
use Rattle.slot_parts.specs.Phases.{HasRemaining}
use Rattle.slot_core.proofs.Hands.{nonempty_group-within}
use Rattle.slot_core.proofs.Keeping.{placing, event-sound}
use Rattle.slot_core.proofs.Lists.{and-left, and-right}
use Rattle.slot_core.proofs.Members.{single_seat-left}
use Rattle.slot_core.proofs.Moving.{sound-link, sound-group}
use Rattle.slot_core.proofs.Phases.{to_place-closed, to_reopen-emptied, step_at-step_of, group_at-with_phase, fills-told_granted}
use Rattle.slot_core.proofs.Pieces.{cond_equal-single}
use Rattle.slot_core.proofs.Slots.{unfilled_piece-unfilled_range}

pub membership_some-joined : (task : Task) (m : Membership) → membership task ≡ Some m → task ≡ Joined m
membership_some-joined (Joined x) m e = let same : x ≡ m = cc in ap Joined same
membership_some-joined (InRing q z) m e = absurd (cc)

-- the actor is a member
module _ (s : SlotState) (j : ℕ) (m : Membership) (sound : IsSound s) (is : membership (task_of j s.hands) ≡ Some m) where
  at : task_of j s.hands ≡ Joined m
  at = membership_some-joined (task_of j s.hands) m is

  seat : seats_of j (group_at m.slot s.groups).members ≡ (m.offset, m.size) ∷ []
  seat = (sound-link s j m.slot (Joined m) (group_at m.slot s.groups) sound at refl).joins ∙ cond_equal-single {A = ℕ × ℕ} (m.offset, m.size) m.slot

  -- so its slot is one of the machine's
  pub member_slot-within : m.slot < length s.groups
  member_slot-within = nonempty_group-within m.slot s.groups (λ none. let empty : [] ≡ (m.offset, m.size) ∷ [] = ap (λ (g : Group). seats_of j g.members) (sym none) ∙ seat in cc)

  -- an event of a member that is enabled keeps the laws
  enabled : (P : Membership → Type 0) → P m → IsSomeAnd (membership (task_of j s.hands)) P
  enabled P h = subst (λ o. IsSomeAnd o P) (sym is) h

  pub after_close-sound : m.stage ≡ Closes → IsSound (after_lead s j (Some m))
  after_close-sound h = subst (λ o. IsSound (after_lead s j o)) is (event-sound s (Close j) sound (enabled (λ x. x.stage ≡ Closes) h))

  pub after_put_base-sound : m.stage ≡ Stores → IsSound (after_lead s j (Some m))
  after_put_base-sound h = subst (λ o. IsSound (after_lead s j o)) is (event-sound s (PutBase j) sound (enabled (λ x. x.stage ≡ Stores) h))

  pub after_tell-sound : m.stage ≡ Tells → IsSound (after_lead s j (Some m))
  after_tell-sound h = subst (λ o. IsSound (after_lead s j o)) is (event-sound s (Tell j) sound (enabled (λ x. x.stage ≡ Tells) h))

  -- a leader may place by the present numbers
  pub places-may_place : m.stage ≡ Places → MayPlace s s.log.tail s.log.durable m
  places-may_place h = record { places = h; tail_seen = le_refl _; durable_seen = le_refl _; present = λ _. refl }

  pub after_place-sound : m.stage ≡ Places → IsSound (after_place s j s.log.tail s.log.durable (Some m))
  after_place-sound h = subst (λ o. IsSound (after_place s j s.log.tail s.log.durable o)) is (event-sound s (Place j s.log.tail s.log.durable) sound
      (enabled (MayPlace s s.log.tail s.log.durable) (places-may_place h)))

  -- its group fits where the log has room for it
  pub room-fits : (t : ℕ) → HasRoom s.log t → fits s.log t s.log.tail s.log.durable ≡ true
  room-fits t room = λ i. both (le-leb (s.log.tail + t) LAST room.within_log i) (le-leb (s.log.tail + t) (s.log.durable + s.log.ring) room.within_ring i)
    where
      both : Bool → Bool → Bool
      both a b = a && b

  -- placed by the present numbers, whether the group fits or not
  place-either : (t : ℕ) (b : Bool) → m.stage ≡ Places → t ≡ closed_total (group_at m.slot s.groups).phase → fits s.log t s.log.tail s.log.durable ≡ b
      → placing s j s.log.tail s.log.durable m t b ≡ after_place s j s.log.tail s.log.durable (Some m)
  place-either t b h total fit = ap (placing s j s.log.tail s.log.durable m t) (sym fit) ∙ ap (λ n. placing s j s.log.tail s.log.durable m n (fits s.log n s.log.tail s.log.durable)) total

  pub after_hear-sound : (o : Outcome) → m.stage ≡ Waits → told_outcome (group_at m.slot s.groups).phase ≡ Some o → IsSound (turned s j (at_stage (stage_heard (Some o)) m))
  after_hear-sound o h told = subst (λ x. IsSound (turned s j (at_stage (stage_heard x) m))) told
      (subst (λ x. IsSound (after_hear s j x)) is (event-sound s (Hear j) sound (enabled (MayHear s) record { waits = h; told = ap is_some told })))

  pub after_fill-sound : HasUnfilledPiece m.size m.stage → IsSound (after_fill s j (Joined m))
  after_fill-sound h = subst (λ z. IsSound (after_fill s j z)) at (event-sound s (Ring (Fill j)) sound (subst (MayFill s) (sym at) h))

  pub after_release-sound : HasDone m.size m.stage → IsSound (after_release s j (Some m))
  after_release-sound h = subst (λ o. IsSound (after_release s j o)) is (event-sound s (Release j) sound (enabled (λ x. HasDone x.size x.stage) h))

  -- what the program makes of the group that the member leaves
  pub moved-after_release : (p : GroupPhase) (t : Task) (q : GroupPhase) → p ≡ (group_at m.slot s.groups).phase
      → t ≡ task_released m.slot m.size p → q ≡ phase_released j m.size p
      → moved s j m.slot t (group (without j (group_at m.slot s.groups).members) q) ≡ after_release s j (Some m)
  moved-after_release p t q now task next = λ i. moved s j m.slot ((task ∙ ap (task_released m.slot m.size) now) i)
      (group (without j (group_at m.slot s.groups).members) ((next ∙ ap (phase_released j m.size) now) i))

  -- the group of a leader that is about to place it is closed
  closed : m.stage ≡ Places → (l : ℕ) × (t : ℕ) × ((group_at m.slot s.groups).phase ≡ Closed l t)
  closed h = to_place-closed j (group_at m.slot s.groups).phase (step_at-step_of s j m Places ToPlace sound (at ∙ ap (joined m.slot m.offset m.size) h) refl)

  -- it has no room where it doesn't fit
  pub no_room-not_fits : (t : ℕ) → m.stage ≡ Places → t ≡ closed_total (group_at m.slot s.groups).phase → ¬ HasRoom s.log t → fits s.log t s.log.tail s.log.durable ≡ false
  no_room-not_fits t h total full = by_test (fits s.log t s.log.tail s.log.durable) refl
    where
      p : (l : ℕ) × (t : ℕ) × ((group_at m.slot s.groups).phase ≡ Closed l t)
      p = closed h

      same : t ≡ p.1
      same = total ∙ ap closed_total p.2

      old : IsGathered (s.log.ring / 4) (group_at m.slot s.groups).members p.1
      old = sound-group s m.slot (group (group_at m.slot s.groups).members (Closed p.0 p.1)) sound (group_at-with_phase s m.slot (Closed p.0 p.1) p.2)

      by_test : (b : Bool) → fits s.log t s.log.tail s.log.durable ≡ b → b ≡ false
      by_test true fit = absurd (full record {
        positive = let least = old.positive in omega (arith, least, same);
        quarter = let most = old.within_quarter in omega (arith, most, same);
        within_log = leb-true (s.log.tail + t) LAST (and-left (nat_le (s.log.tail + t) LAST) (nat_le (s.log.tail + t) (s.log.durable + s.log.ring)) fit);
        within_ring = leb-true (s.log.tail + t) (s.log.durable + s.log.ring) (and-right (nat_le (s.log.tail + t) LAST) (nat_le (s.log.tail + t) (s.log.durable + s.log.ring)) fit);
      })
      by_test false fit = refl

  -- what remains is at least the member's own size
  pub member-has_remaining : HasRemaining m.size (group_at m.slot s.groups).phase
  member-has_remaining = by_phase (group_at m.slot s.groups).phase refl
    where
      by_phase : (p : GroupPhase) → (group_at m.slot s.groups).phase ≡ p → HasRemaining m.size p
      by_phase (Told t o r) p = let told = sound-group s m.slot (group (group_at m.slot s.groups).members (Told t o r)) sound (group_at-with_phase s m.slot (Told t o r) p) in
          let left = single_seat-left j m.offset m.size (group_at m.slot s.groups).members seat in let e = left.sum in let sum = told.sum in omega (arith, e, sum)
      by_phase Vacant p = tt
      by_phase (Gathering l t) p = tt
      by_phase (Closed l t) p = tt
      by_phase (Placed l t o) p = tt
      by_phase (Ready l t o) p = tt
      by_phase (Emptied l) p = tt

  -- a member that fills has heard where the range is, and a unit of it is not yet filled
  pub unfilled_piece-granted_base : HasUnfilledPiece m.size m.stage → (b : ℕ) × (granted_base (told_outcome (group_at m.slot s.groups).phase)
      ≡ Some b) × IsSomeAnd (find (is_at b) s.log.reservations) HasUnfilled
  unfilled_piece-granted_base h = by_stage m.stage refl h
    where
      by_stage : (st : MemberStage) → m.stage ≡ st → HasUnfilledPiece m.size st → (b : ℕ) × (granted_base (told_outcome
          (group_at m.slot s.groups).phase) ≡ Some b) × IsSomeAnd (find (is_at b) s.log.reservations) HasUnfilled
      by_stage (Fills f) st less = let here = at ∙ ap (joined m.slot m.offset m.size) st in let x = fills-told_granted s j m.slot m.offset m.size f sound here in (
        x.1,
        ap (λ p. granted_base (told_outcome p)) x.3,
        unfilled_piece-unfilled_range s j m.slot m.offset m.size f x.0 x.1 x.2
            (group_at m.slot s.groups).members sound here (omega (arith, less)) (group_at-with_phase s m.slot (Told x.0 (Granted x.1) x.2) x.3),
      )
      by_stage Closes st less = absurd less
      by_stage Waits st less = absurd less
      by_stage Places st less = absurd less
      by_stage Stores st less = absurd less
      by_stage Tells st less = absurd less
      by_stage Leaves st less = absurd less

  -- what the program makes of a group that has room, and of one that has none
  pub placing_granted-after_place : (t : ℕ) → m.stage ≡ Places → t ≡ closed_total (group_at m.slot s.groups).phase → HasRoom s.log t
      → placing s j s.log.tail s.log.durable m t true ≡ after_place s j s.log.tail s.log.durable (Some m)
  placing_granted-after_place t h total room = place-either t true h total (room-fits t room)

  pub placing_refused-after_place : (t : ℕ) → m.stage ≡ Places → t ≡ closed_total (group_at m.slot s.groups).phase → ¬ HasRoom s.log t
      → placing s j s.log.tail s.log.durable m t false ≡ after_place s j s.log.tail s.log.durable (Some m)
  placing_refused-after_place t h total full = place-either t false h total (no_room-not_fits t h total full)

  -- what it writes of a group that has none
  pub moved_refused-after_place : (t tail durable : ℕ) (task : Task) → tail ≡ s.log.tail → durable ≡ s.log.durable → task ≡ at_stage Stores m
      → m.stage ≡ Places → t ≡ closed_total (group_at m.slot s.groups).phase → ¬ HasRoom s.log t
      → moved s j m.slot task (group (group_at m.slot s.groups).members (Placed j t (Refused tail durable)))
      ≡ after_place s j s.log.tail s.log.durable (Some m)
  moved_refused-after_place t tail durable task at_tail at_durable stores h total full =
      (λ i. moved s j m.slot (stores i) (group (group_at m.slot s.groups).members (Placed j t (Refused (at_tail i) (at_durable i)))))
      ∙ placing_refused-after_place t h total full

-- an actor opens a slot
module _ (s : SlotState) (j k : ℕ) (sound : IsSound s) (idle : ring_stage (task_of j s.hands) ≡ Idle) (opens : reopening (task_of j s.hands) ≡ Some k) where
  opener-is : (task : Task) → ring_stage task ≡ Idle → reopening task ≡ Some k → task ≡ InRing (Some k) Idle
  opener-is (Joined m) a b = absurd (cc)
  opener-is (InRing q z) a b = λ i. InRing (b i) (a i)

  task : task_of j s.hands ≡ InRing (Some k) Idle
  task = opener-is (task_of j s.hands) idle opens

  emptied : (l : ℕ) × ((group_at k s.groups).phase ≡ Emptied l)
  emptied = to_reopen-emptied j (group_at k s.groups).phase ((sound-link s j k (InRing (Some k) Idle) (group_at k s.groups) sound task refl).leads ∙ cond_equal-single ToReopen k)

  pub opener_slot-within : k < length s.groups
  opener_slot-within = nonempty_group-within k s.groups (λ none. let p : Emptied emptied.0 ≡ Vacant = sym emptied.1 ∙ ap (λ (g : Group). g.phase) none in cc)

  -- nobody is there
  pub opener_slot-no_members : (group_at k s.groups).members ≡ []
  opener_slot-no_members = sound-group s k (group (group_at k s.groups).members (Emptied emptied.0)) sound (group_at-with_phase s k (Emptied emptied.0) emptied.1)

  pub after_reopen-sound : IsSound (moved s j k nothing empty_group)
  after_reopen-sound = subst (λ o. IsSound (after_reopen s j o)) opens (event-sound s (Reopen j) sound (idle, ap is_some opens))

-- what an actor works on
pub worked_on-find : (z : Stage) (b : ℕ) (rs : List Reservation) → base_in z ≡ Some b → worked_on z rs ≡ find (is_at b) rs
worked_on-find (Works x) b rs is = let same : x ≡ b = cc in ap (λ n. find (is_at n) rs) same
worked_on-find Idle b rs is = absurd (cc)
worked_on-find Marked b rs is = absurd (cc)
worked_on-find (Holds e) b rs is = absurd (cc)
worked_on-find (Raises e) b rs is = absurd (cc)

-- the looks keep the laws
pub after_look_exposed-sound : (s : SlotState) (j : ℕ) → IsSound s → ring_stage (task_of j s.hands) ≡ Marked → IsSound (turned s j (in_ring (Holds s.log.exposed) (task_of j s.hands)))
after_look_exposed-sound s j sound is = event-sound s (Ring (LookExposed j)) sound is

pub after_look_mark-sound : (s : SlotState) (j e : ℕ) → IsSound s → looks_at (ring_stage (task_of j s.hands)) ≡ Some e → IsSound (turned s j (in_ring
    (cond (is_marked e s.log.reservations) (Raises e) Idle) (task_of j s.hands)))
after_look_mark-sound s j e sound is = subst (λ o. IsSound (after_look_mark s j (task_of j s.hands) o)) is (event-sound s (Ring (LookMark j)) sound (ap is_some is))

-- what the program writes, over s, which stands for the state now, where the range at e is looked at
pub written_look-after_look : (now : SlotState) (j : ℕ) (s : SlotState) → s ≡ now → (e : ℕ) (held next : Task) (mark : Bool) (stage : Stage)
    → held ≡ task_of j now.hands → mark ≡ is_marked e s.log.reservations → stage ≡ after_look e mark → next ≡ in_ring stage held
    → next ≡ in_ring (after_look e (is_marked e now.log.reservations)) (task_of j now.hands)
written_look-after_look now j s is e held next mark stage at marks looks turns = turns
    ∙ (λ i. in_ring ((looks ∙ ap (after_look e) (marks ∙ ap (λ (z : SlotState). is_marked e z.log.reservations) is)) i) (at i))
