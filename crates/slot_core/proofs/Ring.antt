-- The events of the ring machine, of who works there for itself or for a slot that it opens again.
use Rattle.std.proofs.Common.{◌≡◌, ℕ, ◌/◌, cond, not, Bool, true, false, true≢false, [], ◌∷◌, ◌++◌, map, IsSomeAnd, Option, Some, None, refl, sym, ap, ◌∙◌, subst, arith, le_refl, eq-eqb, ne_eqb}
use Rattle.std.specs.List.{find}
use Rattle.std.specs.Option.{option_map}
use mathlib.Core.Logic.{dite}
use native.Mathlib.Decide.{ℕ_discrete}
use Rattle.lsn_space.proofs.TilingLemmas.{boundary-map, boundary-push}
use Rattle.ring_core.specs.RingLog.{Reservation, RingLog, size_of, is_at, is_marked, fresh, HasRoom, reserved, HasUnfilled, filled_at, filled, IsFull, released_at, marked, raised, MayFlush, flushed}
use Rattle.ring_core.specs.LogLaws.{IsSoundLog}
use Rattle.slot_core.specs.State.{Idle, Works, Marked, Holds, Raises, Task, InRing, SlotState, nothing, task_of, with_task, group_at}
use Rattle.slot_core.specs.Owners.{Nobody, Actor, is_actor, is_slot, is_owned, works_on, is_open}
use Rattle.slot_core.specs.Members.{Link}
use Rattle.slot_core.specs.Groups.{units_in}
use Rattle.slot_core.specs.Laws.{IsPassed, IsTrueTask, Carries, IsSound}
use Rattle.slot_core.specs.Machine.{turned}
use Rattle.ring_core.proofs.RangeLemmas.{found-base, released_at-same}
use Rattle.ring_core.proofs.LogKeeping.{fresh-found_at_tail, reserved-sound, filled-sound, marked-sound, raised-sound, raised-forward, flushed-sound}
use Rattle.ring_core.proofs.LogKeeping.{is_marked-append_fresh, is_marked-filled_at, is_marked-released_at}
use Rattle.slot_core.proofs.Hands.{with_task-each_actor, links-turned, group-same, has_carrier-turned, carries-has_carrier}
use Rattle.slot_core.proofs.LogLookups.{push-else, found-released, filled-else, marked-else, full-pushed, full-marked, open-filled}
use Rattle.slot_core.proofs.Moving.{turned-sound}
use Rattle.slot_core.proofs.Owning.{put, is_actor-other_false, works-put, shares-put_same_groups, owned-put, groups-turned_at_no_slot}
use Rattle.slot_core.proofs.Owning.{true_task-log_grows, works_on-owner_actor, actor_owned-not_placed, tail-owner_nobody, placed_at-not_tail}

pub true_task-reserved : (l : RingLog) (n : ℕ) (z : Task) → IsSoundLog l → IsTrueTask l z → IsTrueTask (reserved l n) z
true_task-reserved l n z sound h = true_task-log_grows l (reserved l n) z (λ b _ f. full-pushed l.reservations (fresh l.tail n) b f)
    (λ e b. boundary-push size_of l.start l.reservations (fresh l.tail n) e b)
    (λ e is. is_marked-append_fresh e l.tail n l.reservations ∙ is) (le_refl _) h

-- Reserve
pub reserve-sound : (s : SlotState) (me n : ℕ) → IsSound s → task_of me s.hands ≡ nothing → HasRoom s.log n → IsSound
    (record s { log = reserved s.log n; hands = with_task me (InRing None (Works s.log.tail)) s.hands })
reserve-sound s me n sound is room = let tail = s.log.tail in let new : Task = InRing None (Works tail) in let free = tail-owner_nobody s sound in record {
  log = reserved-sound s.log n sound.log room;
  owner = put sound.owner tail (Actor me);
  works = works-put sound.owner me tail (Actor me) nothing new s.hands is sound.works
      (λ j ne. ap (is_actor j) free ∙ sym (is_actor-other_false j me ne)) (eq-eqb tail tail refl ∙ sym (eq-eqb me me refl)) (λ b ne. ne_eqb tail b (λ e. ne (sym e)));
  shares = shares-put_same_groups sound.owner tail (Actor me) s.groups sound.shares (λ q. ap (is_slot q) free);
  owned = owned-put sound.owner tail (Actor me) s.log.reservations (s.log.reservations ++ fresh tail n ∷ []) sound.owned (ap is_open
      (fresh-found_at_tail s.log n sound.log)) (λ b ne. push-else b tail n s.log.reservations ne);
  links = links-turned me new s.hands s.groups sound.links (λ q l. let l' = subst (λ z. Link me q z (group_at q s.groups)) is l in record { joins = l'.joins; leads = l'.leads; told = tt });
  groups = groups-turned_at_no_slot (s.log.ring / 4) me new s.hands s.groups s.log.reservations (s.log.reservations ++ fresh tail n ∷ []) sound.groups
      (λ q. ap (units_in q) (sym is)) (λ q b at. push-else b tail n s.log.reservations (placed_at-not_tail s q b sound at));
  tasks = with_task-each_actor (λ j z. IsTrueTask s.log z) (λ j z. IsTrueTask (reserved s.log n) z) me new s.hands sound.tasks tt (λ j z ne h. true_task-reserved s.log n z sound.log h);
  carried = λ there. has_carrier-turned me new s.hands s.log.exposed (λ carries. absurd (subst (Carries s.log.exposed) is carries)) (sound.carried
      (sym (is_marked-append_fresh s.log.exposed s.log.tail n s.log.reservations) ∙ there));
}

-- Mark, of one that works for itself, or for a slot
pub mark-sound : (s : SlotState) (me : ℕ) (q : Option ℕ) (b : ℕ) → IsSound s → task_of me s.hands ≡ InRing q (Works b) → IsSomeAnd (find (is_at b) s.log.reservations) IsFull
    → IsSound (record s { log = marked s.log b; hands = with_task me (InRing q Marked) s.hands })
mark-sound s me q b sound is full =
    let old : Task = InRing q (Works b) in let new : Task = InRing q Marked in let mine = works_on-owner_actor s me b old sound is (eq-eqb b b refl) in record {
      log = marked-sound s.log b sound.log full;
      owner = put sound.owner b Nobody;
      works = works-put sound.owner me b Nobody old new s.hands is sound.works (λ j ne. ap (is_actor j) mine ∙ is_actor-other_false j me ne) refl (λ x ne. sym (ne_eqb b x (λ e. ne (sym e))));
      shares = shares-put_same_groups sound.owner b Nobody s.groups sound.shares (λ k. ap (is_slot k) mine);
      owned = owned-put sound.owner b Nobody s.log.reservations (map (released_at b) s.log.reservations) sound.owned closed (λ x ne. marked-else s.log.reservations b x ne);
      links = links-turned me new s.hands s.groups sound.links (λ k l. let l' = subst (λ z. Link me k z (group_at k s.groups)) is l in record { joins = l'.joins; leads = l'.leads; told = tt });
      groups = groups-turned_at_no_slot (s.log.ring / 4) me new s.hands s.groups s.log.reservations (map (released_at b) s.log.reservations) sound.groups (λ k. ap (units_in k) (sym is))
          (λ k x at. marked-else s.log.reservations b x (actor_owned-not_placed s me k b x sound mine at));
      tasks = with_task-each_actor (λ j z. IsTrueTask s.log z) (λ j z. IsTrueTask (marked s.log b) z) me new s.hands sound.tasks tt
          (λ j z ne h. true_task-log_grows s.log (marked s.log b) z (λ x _ f. full-marked s.log.reservations b x f) (λ e d. boundary-map size_of
          (released_at b) s.log.start s.log.reservations e (λ r. refl) d)
          (λ e d. is_marked-released_at e b s.log.reservations d) (le_refl _) h);
      carried = λ there. carries-has_carrier me new s.hands s.log.exposed tt;
    }
  where
    by_found : (o : Option Reservation) → find (is_at b) s.log.reservations ≡ o → IsSomeAnd o IsFull → is_open (option_map (released_at b) o) ≡ false
    by_found None found is = absurd is
    by_found (Some r) found is = ap (λ (z : Reservation). not z.released) (released_at-same b r (found-base b s.log.reservations r found))

    closed : is_open (find (is_at b) (map (released_at b) s.log.reservations)) ≡ is_owned Nobody
    closed = ap is_open (found-released b b s.log.reservations) ∙ by_found (find (is_at b) s.log.reservations) refl full

-- a range that has a unit left isn't full
unfilled-apart : (o : Option Reservation) → IsSomeAnd o HasUnfilled → IsSomeAnd o IsFull → ⊥
unfilled-apart None left full = left
unfilled-apart (Some r) left full = omega (arith, left, full)

-- Fill, of one that works for itself: the range of a slot's group is full
pub fill-sound : (s : SlotState) (me : ℕ) (q : Option ℕ) (b : ℕ) → IsSound s → task_of me s.hands ≡ InRing q (Works b) → IsSomeAnd (find (is_at b)
    s.log.reservations) HasUnfilled → IsSound (record s { log = filled s.log b })
fill-sound s me q b sound is unfilled =
    let mine = works_on-owner_actor s me b (InRing q (Works b)) sound is (eq-eqb b b refl) in record {
      log = filled-sound s.log b sound.log unfilled;
      owner = sound.owner;
      works = sound.works;
      shares = sound.shares;
      owned = λ x. open-filled s.log.reservations b x ∙ sound.owned x;
      links = sound.links;
      groups = λ k. group-same (s.log.ring / 4) s.log.reservations (map (filled_at b) s.log.reservations) _ _ (group_at k s.groups).members (group_at k s.groups).phase refl
          (λ x at. filled-else s.log.reservations b x (actor_owned-not_placed s me k b x sound mine at)) (sound.groups k);
      tasks = λ j. dite (ℕ_discrete j me)
          (λ e. subst (IsTrueTask (filled s.log b)) (sym (ap (λ i. task_of i s.hands) e ∙ is)) (by_slot q (subst (IsTrueTask s.log) is (sound.tasks me))))
          (λ ne. true_task-log_grows s.log (filled s.log b) (task_of j s.hands)
          (λ x works f. subst (λ o. IsSomeAnd o IsFull) (sym (filled-else s.log.reservations b x
          (λ e. true≢false (sym works ∙ (sound.works j x ∙ (ap (λ z. is_actor j (sound.owner z)) e ∙ (ap (is_actor j) mine ∙ is_actor-other_false j me ne))))))) f)
          (λ e d. boundary-map size_of (filled_at b) s.log.start s.log.reservations e (λ r. refl) d) (λ e d. is_marked-filled_at e b s.log.reservations ∙ d) (le_refl _) (sound.tasks j));
      carried = λ there. sound.carried (sym (is_marked-filled_at s.log.exposed b s.log.reservations) ∙ there);
    }
  where
    by_slot : (q : Option ℕ) → IsTrueTask s.log (InRing q (Works b)) → IsTrueTask (filled s.log b) (InRing q (Works b))
    by_slot None h = tt
    by_slot (Some k) h = absurd (unfilled-apart (find (is_at b) s.log.reservations) unfilled h)

-- LookExposed
pub look_exposed-sound : (s : SlotState) (me : ℕ) (q : Option ℕ) → IsSound s → task_of me s.hands ≡ InRing q Marked → IsSound (turned s me (InRing q (Holds s.log.exposed)))
look_exposed-sound s me q sound is = turned-sound s me (InRing q Marked) (InRing q (Holds s.log.exposed)) sound record {
  is = is;
  mine = λ k l. record { joins = l.joins; leads = l.leads; told = tt };
  works = λ b. refl;
  units = λ k. refl;
  held = record { boundary = sound.log.exposed_boundary; exposed = le_refl _ };
  carries = λ there. carries-has_carrier me (InRing q (Holds s.log.exposed)) s.hands s.log.exposed refl;
}

-- LookMark
pub look_mark-sound : (s : SlotState) (me : ℕ) (q : Option ℕ) (e : ℕ) → IsSound s → task_of me s.hands ≡ InRing q (Holds e)
    → IsSound (turned s me (InRing q (cond (is_marked e s.log.reservations) (Raises e) Idle)))
look_mark-sound s me q e sound is = by_test (is_marked e s.log.reservations) refl
  where
    passed : IsPassed s.log e
    passed = subst (IsTrueTask s.log) is (sound.tasks me)

    by_test : (b : Bool) → is_marked e s.log.reservations ≡ b → IsSound (turned s me (InRing q (cond b (Raises e) Idle)))
    by_test true ready = turned-sound s me (InRing q (Holds e)) (InRing q (Raises e)) sound record {
      is = is;
      mine = λ k l. record { joins = l.joins; leads = l.leads; told = tt };
      works = λ b. refl;
      units = λ k. refl;
      held = (passed, ready);
      carries = λ there. has_carrier-turned me (InRing q (Raises e)) s.hands s.log.exposed (λ carries. subst (Carries s.log.exposed) is carries) (sound.carried there);
    }
    by_test false none = turned-sound s me (InRing q (Holds e)) (InRing q Idle) sound record {
      is = is;
      mine = λ k l. record { joins = l.joins; leads = l.leads; told = tt };
      works = λ b. refl;
      units = λ k. refl;
      held = tt;
      carries = λ there. has_carrier-turned me (InRing q Idle) s.hands s.log.exposed
          (λ carries. let here : e ≡ s.log.exposed = subst (Carries s.log.exposed) is carries in absurd (true≢false (sym there ∙ (ap
          (λ p. is_marked p s.log.reservations) (sym here) ∙ none)))) (sound.carried there);
    }

-- Raise
pub raise-sound : (s : SlotState) (me : ℕ) (q : Option ℕ) (e : ℕ) → IsSound s → task_of me s.hands ≡ InRing q (Raises e)
    → IsSound (record s { log = raised s.log e; hands = with_task me (InRing q (Holds (raised s.log e).exposed)) s.hands })
raise-sound s me q e sound is =
    let ready : is_marked e s.log.reservations ≡ true = (subst (IsTrueTask s.log) is (sound.tasks me)).1 in
    let log = raised-sound s.log e sound.log ready in let new : Task = InRing q (Holds (raised s.log e).exposed) in record {
      log = log;
      owner = sound.owner;
      works = with_task-each_actor (λ j z. (b : ℕ) → works_on b z ≡ is_actor j (sound.owner b)) (λ j z. (b : ℕ) → works_on b z ≡ is_actor j (sound.owner b)) me new s.hands sound.works
          (λ b. ap (works_on b) (sym is) ∙ sound.works me b) (λ j z ne h. h);
      shares = sound.shares;
      owned = sound.owned;
      links = links-turned me new s.hands s.groups sound.links (λ k l. let l' = subst (λ z. Link me k z (group_at k s.groups)) is l in record { joins = l'.joins; leads = l'.leads; told = tt });
      groups = groups-turned_at_no_slot (s.log.ring / 4) me new s.hands s.groups s.log.reservations s.log.reservations sound.groups (λ k. ap (units_in k) (sym is)) (λ k b at. refl);
      tasks = with_task-each_actor (λ j z. IsTrueTask s.log z) (λ j z. IsTrueTask (raised s.log e) z) me new s.hands sound.tasks record { boundary = log.exposed_boundary; exposed = le_refl _ }
          (λ j z ne h. true_task-log_grows s.log (raised s.log e) z (λ b _ f. f) (λ x d. d) (λ x d. d) (raised-forward s.log e sound.log ready) h);
      carried = λ _. carries-has_carrier me new s.hands (raised s.log e).exposed refl;
    }

-- Flushed
pub flush-sound : (s : SlotState) (to : ℕ) → IsSound s → MayFlush s.log to → IsSound (record s { log = flushed s.log to })
flush-sound s to sound may = record {
  log = flushed-sound s.log to sound.log may;
  owner = sound.owner;
  works = sound.works;
  shares = sound.shares;
  owned = sound.owned;
  links = sound.links;
  groups = sound.groups;
  tasks = λ j. true_task-log_grows s.log (flushed s.log to) (task_of j s.hands) (λ b _ f. f) (λ e d. d) (λ e d. d) (le_refl _) (sound.tasks j);
  carried = sound.carried;
}
