-- What the program writes is a state that keeps the laws.
use Rattle.std.proofs.Common.{◌≡◌, ◌<◌, ◌↔◌, ℕ, Bool, true, false, true≢false, List, [], length, get_or, set, IsSomeAnd, Option, Some, None, refl, sym, ap, ◌∙◌, subst}
use Rattle.std.specs.Bool.{IsTrue, OnTrue, OnFalse}
use Rattle.std.specs.List.{find}
use Rattle.std.specs.Option.{is_some}
use Rattle.ring_core.specs.RingLog.{RingLog, is_at, HasRoom, reserved, HasUnfilled, filled, IsFull, marked, raised, MayFlush, flushed}
use Rattle.ring_core.specs.State.{base_in, raises_from}
use Rattle.ring_core.specs.declared.event.RingEvent.TheVariants.{Reserve, Mark, Raise, Flushed}
use Rattle.slot_core.specs.State.{Stage, Idle, Works, Marked, Holds, Raises, Granted, GroupPhase, Placed, Places, Stores, Membership, Task, Joined}
use Rattle.slot_core.specs.State.{InRing, Hand, Group, SlotState, nothing, task_of, with_task, membership, ring_stage, reopening, group, empty_group}
use Rattle.slot_core.specs.State.{group_at}
use Rattle.slot_core.specs.Laws.{IsSound}
use Rattle.slot_core.specs.Machine.{Join, Ring, MayJoin, closed_total, told_outcome, HasUnfilledPiece, IsRingEnabled, at_stage, in_ring, task_joined}
use Rattle.slot_core.specs.Machine.{group_joined, after_join, stage_filled, log_filled, granted_base, after_fill, after_mark, after_raise}
use Rattle.slot_core.proofs.Keeping.{event-sound}
use Rattle.slot_core.proofs.Ring.{fill-sound}
use Rattle.slot_core.proofs.RowLemmas.{group-read}
use Rattle.slot_core.proofs.RunLemmas.{worked_on-find, after_place-sound, after_fill-sound, unfilled_piece-granted_base, placing_granted-after_place}
use Rattle.slot_core.proofs.RunLemmas.{opener_slot-within, opener_slot-no_members, after_reopen-sound}

-- it writes over s, which stands for the state now
module _ (now s : SlotState) (is : s ≡ now) (sound : IsSound s) (j : ℕ) where
  -- of a state that is known now
  back : (P : SlotState → Type 0) → P now → P s
  back P h = subst P (sym is) h

  written : (l l' : RingLog) (hs hs' : List Hand) (gs gs' : List Group) → l ≡ l' → hs ≡ hs' → gs ≡ gs' → IsSound (record {
    log = l';
    hands = hs';
    groups = gs';
  }) → IsSound (record { log = l; hands = hs; groups = gs })
  written l l' hs hs' gs gs' a b d h = subst IsSound (λ i. record { log = (sym a) i; hands = (sym b) i; groups = (sym d) i }) h

  -- the group that the program finds at a slot of the machine's
  pub found_group-group_at : (k : ℕ) (g : Group) → k < length now.groups → g ≡ get_or s.groups k g → g ≡ group_at k s.groups
  found_group-group_at k g there value = value ∙ group-read s.groups k g (back (λ z. k < length z.groups) there)

  -- a join: the phase that is read, the task of who joins, the hands before and with it, and the group before and after
  module _ (k n : ℕ) (p : GroupPhase) (t : Task) (hs hs' : List Hand) (g g' : Group) (may : MayJoin now j k n)
      (value : g ≡ get_or s.groups k g) (phase : p ≡ (group_at k now.groups).phase) (piece : t ≡ task_joined k n p)
      (kept : hs ≡ s.hands) (hands : hs' ≡ with_task j t hs) (group' : g' ≡ group_joined j n g) where
    task-is : t ≡ task_joined k n (group_at k s.groups).phase
    task-is = piece ∙ ap (task_joined k n) (phase ∙ ap (λ (z : SlotState). (group_at k z.groups).phase) (sym is))

    pub written_join-after_join : record s { hands = hs'; groups = set s.groups k g' } ≡ after_join s j k n (group_at k s.groups)
    written_join-after_join = let whole = hands ∙ (λ i. with_task j (task-is i) (kept i)) in
        let here = group' ∙ ap (group_joined j n) (found_group-group_at k g may.there value) in
        λ i. record s { hands = whole i; groups = set s.groups k (here i) }

    pub written_join-sound : IsSound (record s { hands = hs'; groups = set s.groups k g' })
    written_join-sound = subst IsSound (sym written_join-after_join) (event-sound s (Join j k n) sound (back (λ z. MayJoin z j k n) may))

  pub written_reserve-sound : (n base : ℕ) (l : RingLog) (hs : List Hand) → IsRingEnabled now (Reserve j n) → base ≡ s.log.tail → l ≡ reserved s.log n
      → hs ≡ with_task j (InRing None (Works base)) s.hands → IsSound (record s { log = l; hands = hs })
  written_reserve-sound n base l hs may tail log hands = written l _ hs _ s.groups s.groups log (hands ∙ ap (λ b. with_task j (InRing None (Works b)) s.hands) tail) refl
      (event-sound s (Ring (Reserve j n)) sound (back (λ z. IsRingEnabled z (Reserve j n)) may))

  pub written_mark-sound : (b : ℕ) (l : RingLog) (hs : List Hand) → base_in (ring_stage (task_of j now.hands)) ≡ Some b → IsSomeAnd (find (is_at b) s.log.reservations) IsFull → l ≡ marked s.log b
      → hs ≡ with_task j (in_ring Marked (task_of j now.hands)) s.hands → IsSound (record s { log = l; hands = hs })
  written_mark-sound b l hs base full log hands = let here = back (λ z. base_in (ring_stage (task_of j z.hands)) ≡ Some b) base in
      written l _ hs _ s.groups s.groups log (hands ∙ ap (λ (z : SlotState). with_task j (in_ring Marked (task_of j z.hands)) s.hands) (sym is)) refl
      (subst (λ o. IsSound (after_mark s j (task_of j s.hands) o)) here (event-sound s (Ring (Mark j)) sound (subst (λ o. IsSomeAnd o IsFull) (sym
      (worked_on-find (ring_stage (task_of j s.hands)) b s.log.reservations here)) full)))

  pub written_raise-after_raise : (e to : ℕ) (l : RingLog) (hs : List Hand) → raises_from (ring_stage (task_of j now.hands)) ≡ Some e → l ≡ raised s.log e → to ≡ l.exposed
      → hs ≡ with_task j (in_ring (Holds to) (task_of j now.hands)) s.hands → record s { log = l; hands = hs } ≡ after_raise s j (task_of j s.hands) (raises_from (ring_stage (task_of j s.hands)))
  written_raise-after_raise e to l hs from log at hands = let here = back (λ z. raises_from (ring_stage (task_of j z.hands)) ≡ Some e) from in
      let whole = hands ∙ (λ i. with_task j (in_ring (Holds ((at ∙ ap (λ (z : RingLog). z.exposed) log) i)) (task_of j (sym is i).hands)) s.hands) in
      (λ i. record s { log = log i; hands = whole i }) ∙ ap (after_raise s j (task_of j s.hands)) (sym here)

  pub written_raise-sound : (e to : ℕ) (l : RingLog) (hs : List Hand) → raises_from (ring_stage (task_of j now.hands)) ≡ Some e → l ≡ raised s.log e → to ≡ l.exposed
      → hs ≡ with_task j (in_ring (Holds to) (task_of j now.hands)) s.hands → IsSound (record s { log = l; hands = hs })
  written_raise-sound e to l hs from log at hands = let here = back (λ z. raises_from (ring_stage (task_of j z.hands)) ≡ Some e) from in
      subst IsSound (sym (written_raise-after_raise e to l hs from log at hands)) (event-sound s (Ring (Raise j)) sound (ap is_some here))

  pub written_flush-sound : (to : ℕ) (taken : Bool) (l : RingLog) → IsTrue taken ↔ MayFlush s.log to → OnTrue taken (l ≡ flushed s.log to) → OnFalse taken (l ≡ s.log) → IsSound (record s { log = l })
  written_flush-sound to true l may done none = subst (λ z. IsSound (record s { log = z })) (sym done) (event-sound s (Ring (Flushed to)) sound (may.0 refl))
  written_flush-sound to false l may done none = subst (λ z. IsSound (record s { log = z })) (sym none) sound

  pub written_fill-sound : (b : ℕ) (taken : Bool) (l : RingLog) → base_in (ring_stage (task_of j now.hands)) ≡ Some b → IsTrue taken ↔ IsSomeAnd (find (is_at b) s.log.reservations) HasUnfilled
      → OnTrue taken (l ≡ filled s.log b) → OnFalse taken (l ≡ s.log) → IsSound (record s { log = l })
  written_fill-sound b true l base may done none = let here = back (λ z. base_in (ring_stage (task_of j z.hands)) ≡ Some b) base in
      subst (λ z. IsSound (record s { log = z })) (sym done) (by_task (task_of j s.hands) refl here (may.0 refl))
    where
      by_task : (z : Task) → task_of j s.hands ≡ z → base_in (ring_stage z) ≡ Some b → IsSomeAnd (find (is_at b) s.log.reservations) HasUnfilled → IsSound (record s { log = filled s.log b })
      by_task (InRing q (Works x)) here base left = let same : x ≡ b = cc in fill-sound s j q b sound (here ∙ ap (λ n. InRing q (Works n)) same) left
      by_task (InRing q Idle) here base left = absurd (cc)
      by_task (InRing q Marked) here base left = absurd (cc)
      by_task (InRing q (Holds e)) here base left = absurd (cc)
      by_task (InRing q (Raises e)) here base left = absurd (cc)
      by_task (Joined m) here base left = absurd (cc)
  written_fill-sound b false l base may done none = subst (λ z. IsSound (record s { log = z })) (sym none) sound

  -- an actor that the program finds idle, with a slot to open
  module _ (k : ℕ) (t : Task) (stage : Stage) (slot : Option ℕ) (at : t ≡ task_of j now.hands) (reads : stage ≡ ring_stage t)
      (idle : stage ≡ Idle) (finds : slot ≡ reopening t) (opens : slot ≡ Some k) where
    idle-s : ring_stage (task_of j s.hands) ≡ Idle
    idle-s = back (λ z. ring_stage (task_of j z.hands) ≡ Idle) (ap ring_stage (sym at) ∙ sym reads ∙ idle)

    opens-s : reopening (task_of j s.hands) ≡ Some k
    opens-s = back (λ z. reopening (task_of j z.hands) ≡ Some k) (ap reopening (sym at) ∙ sym finds ∙ opens)

    pub reopened_slot-within : k < length s.groups
    reopened_slot-within = opener_slot-within s j k sound idle-s opens-s

    pub reopened_slot-no_members : (g : Group) → g ≡ get_or s.groups k g → g.members ≡ []
    reopened_slot-no_members g value = ap (λ (x : Group). x.members) (value ∙ group-read s.groups k g reopened_slot-within)
        ∙ opener_slot-no_members s j k sound idle-s opens-s

    pub written_reopen-sound : (hs : List Hand) (none : Task) (g : Group) → hs ≡ with_task j none s.hands → none ≡ nothing → g ≡ empty_group
        → IsSound (record s { hands = hs; groups = set s.groups k g })
    written_reopen-sound hs none g hands is_none group' =
        written s.log s.log hs _ (set s.groups k g) _ refl (hands ∙ ap (λ x. with_task j x s.hands) is_none) (ap (set s.groups k) group')
        (after_reopen-sound s j k sound idle-s opens-s)

  pub written_grant-sound : (m : Membership) (t base : ℕ) (l : RingLog) (hs : List Hand) (g : Group) → task_of j now.hands ≡ Joined m → m.stage
      ≡ Places → t ≡ closed_total (group_at m.slot now.groups).phase → HasRoom now.log t
      → base ≡ s.log.tail → l ≡ reserved s.log t → hs ≡ with_task j (at_stage Stores m) s.hands → g ≡ group (group_at m.slot s.groups).members (Placed j t (Granted base))
      → IsSound (record { log = l; hands = hs; groups = set s.groups m.slot g })
  written_grant-sound m t base l hs g at h total room tail log hands group' =
      let member = ap membership (back (λ z. task_of j z.hands ≡ Joined m) at) in
      written l _ hs _ (set s.groups m.slot g) _ log hands (ap (set s.groups m.slot) (group' ∙ ap (λ b. group (group_at m.slot s.groups).members (Placed j t (Granted b))) tail))
      (subst IsSound (sym (placing_granted-after_place s j m sound member t h (back (λ z. t ≡ closed_total (group_at m.slot z.groups).phase) total)
      (back (λ z. HasRoom z.log t) room))) (after_place-sound s j m sound member h))

  -- a member's piece, which has a unit left
  module _ (m : Membership) (at : task_of j now.hands ≡ Joined m) (unfilled : HasUnfilledPiece m.size m.stage) where
    at-s : task_of j s.hands ≡ Joined m
    at-s = back (λ z. task_of j z.hands ≡ Joined m) at

    has-base : (b : ℕ) × (granted_base (told_outcome (group_at m.slot s.groups).phase) ≡ Some b) × IsSomeAnd (find (is_at b) s.log.reservations) HasUnfilled
    has-base = unfilled_piece-granted_base s j m sound (ap membership at-s) unfilled

    pub unfilled_piece-base_granted : granted_base (told_outcome (group_at m.slot now.groups).phase) ≡ None → ⊥
    unfilled_piece-base_granted none = let here = back (λ z. granted_base (told_outcome (group_at m.slot z.groups).phase) ≡ None) none in let two : Some has-base.0 ≡ None = sym has-base.1 ∙ here in cc

    pub written_piece-after_fill : (b : ℕ) (taken : Bool) (l : RingLog) (hs : List Hand) → granted_base (told_outcome
        (group_at m.slot now.groups).phase) ≡ Some b → IsTrue taken ↔ IsSomeAnd (find (is_at b) s.log.reservations) HasUnfilled
        → OnTrue taken (l ≡ filled s.log b) → hs ≡ with_task j (at_stage (stage_filled m.stage) m) s.hands → record s { log = l; hands = hs } ≡ after_fill s j (Joined m)
    written_piece-after_fill b true l hs base may done hands = let here = back (λ z. granted_base (told_outcome (group_at m.slot z.groups).phase) ≡ Some b) base in
        λ i. record s { log = (done ∙ ap (log_filled s.log) (sym here)) i; hands = hands i }
    written_piece-after_fill b false l hs base may done hands = let here = back (λ z. granted_base (told_outcome (group_at m.slot z.groups).phase) ≡ Some b) base in
        let two : Some has-base.0 ≡ Some b = sym has-base.1 ∙ here in let same : has-base.0 ≡ b = cc in
        absurd (true≢false (sym (may.1 (subst (λ n. IsSomeAnd (find (is_at n) s.log.reservations) HasUnfilled) same has-base.2))))

    pub written_piece-sound : (b : ℕ) (taken : Bool) (l : RingLog) (hs : List Hand) → granted_base (told_outcome (group_at m.slot now.groups).phase)
        ≡ Some b → IsTrue taken ↔ IsSomeAnd (find (is_at b) s.log.reservations) HasUnfilled
        → OnTrue taken (l ≡ filled s.log b) → hs ≡ with_task j (at_stage (stage_filled m.stage) m) s.hands → IsSound (record s { log = l; hands = hs })
    written_piece-sound b taken l hs base may done hands = subst IsSound (sym (written_piece-after_fill b taken l hs base may done hands)) (after_fill-sound s j m sound (ap membership at-s) unfilled)
