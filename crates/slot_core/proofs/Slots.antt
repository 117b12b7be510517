-- The events of a slot that touch the log, or who owns its ranges: Place, Fill of a piece, and Release.
use Rattle.std.proofs.Common.{◌≡◌, ◌≢◌, ℕ, ◌+◌, ◌/◌, ◌≤◌, cond, List, [], ◌∷◌, ◌++◌, set, map, IsSomeAnd, Some, refl, sym, ap, ◌∙◌, subst, arith, le_refl, eq-eqb, ne_eqb}
use Rattle.std.specs.List.{find}
use Rattle.std.specs.Option.{option_map}
use Rattle.lsn_space.proofs.TilingLemmas.{boundary-map}
use Rattle.ring_core.specs.RingLog.{Reservation, size_of, is_at, fresh, HasRoom, reserved, HasUnfilled, filled_at, filled, IsFull}
use Rattle.slot_core.specs.State.{Idle, Works, Outcome, Granted, Refused, Vacant, Closed, Placed, Told, Emptied, MemberStage, Places, Stores, Fills}
use Rattle.slot_core.specs.State.{Leaves, Task, InRing, Member, Group, SlotState, nothing, joined, task_of, with_task, group, group_at, without}
use Rattle.slot_core.specs.Owners.{Actor, Shared, is_actor, is_slot, is_owned, works_on, placed_at, is_open}
use Rattle.slot_core.specs.Members.{seat_in, seats_of, ToPlace, ToStore, ToReopen, IsGranted, IsTold, HasHeardAt, Link}
use Rattle.slot_core.specs.Groups.{units_in, units_of, IsTrueOutcome, IsGroup}
use Rattle.slot_core.specs.Laws.{IsTrueTask, Carries, IsSound}
use Rattle.slot_core.specs.Machine.{moved}
use Rattle.ring_core.proofs.RangeLemmas.{found-base, filled_at-same}
use Rattle.ring_core.proofs.LogKeeping.{fresh-found_at_tail, reserved-sound, filled-sound, is_marked-append_fresh, is_marked-filled_at}
use Rattle.slot_core.proofs.Hands.{with_task-each_actor, links-turned, nonempty_group-within, units-with_task_same, units-none_filled, has_carrier-turned}
use Rattle.slot_core.proofs.LogLookups.{push-else, found-filled, filled-else, open-filled}
use Rattle.slot_core.proofs.Members.{sum_zero-no_members, Left, single_seat-left, units-with_task_member, unfilled_member-unfilled_group, not_granted-no_units, no_seat-has_heard_at}
use Rattle.slot_core.proofs.Moving.{links-moved_on_slot, groups-moved_on_slot, moved-sound, sound-link, sound-group}
use Rattle.slot_core.proofs.Owning.{put, is_actor_true-actor, is_actor-other_false, is_slot-other_false, works-put, shares-put_new_group, owned-put}
use Rattle.slot_core.proofs.Owning.{groups-turned_at_slot, true_task-log_grows, placed_at-owner_shared, tail-owner_nobody, placed_at-not_tail}
use Rattle.slot_core.proofs.Pieces.{cond_equal-single, cond_unequal-none, step_agrees-leader, heard_at-new_phase, other_link-new_phase}
use Rattle.slot_core.proofs.Ring.{true_task-reserved}

seat-of : (s : SlotState) (me k a n : ℕ) (st : MemberStage) (g : Group) → IsSound s → task_of me s.hands ≡ joined k a n st → group_at k s.groups ≡ g → seats_of me g.members ≡ (a, n) ∷ []
seat-of s me k a n st g sound is at = (sound-link s me k (joined k a n st) g sound is at).joins ∙ cond_equal-single {A = ℕ × ℕ} (a, n) k

-- Place, where the group has room
pub place-sound : (s : SlotState) (me k a n l t : ℕ) (ms : List Member) → IsSound s → task_of me s.hands ≡ joined k a n Places → group_at k s.groups ≡ group ms (Closed l t) → HasRoom s.log t
    → IsSound (record s { log = reserved s.log t; hands = with_task me (joined k a n Stores) s.hands; groups = set s.groups k (group ms (Placed me t (Granted s.log.tail))) })
place-sound s me k a n l t ms sound is at room =
    let tail = s.log.tail in let g : Group = group ms (Closed l t) in let g' : Group = group ms (Placed me t (Granted tail)) in let new : Task = joined k a n Stores in
    let free = tail-owner_nobody s sound in let mine = sound-link s me k (joined k a n Places) g sound is at in let leader : l ≡ me = step_agrees-leader l me k ToPlace mine.leads in
    let within = nonempty_group-within k s.groups (λ e. let p : Closed l t ≡ Vacant = ap (λ (z : Group). z.phase) (sym at ∙ e) in absurd (cc)) in
    let rs' = s.log.reservations ++ fresh tail t ∷ [] in
    let untold : IsTold IsGranted (Closed l t) → ⊥ = λ h. let e = h.3 in cc in
    let units : units_of k s.hands ms ≡ 0 = units-none_filled k s.hands ms (λ j. not_granted-no_units k (task_of j s.hands) (Closed l t) untold (subst
    (λ (z : Group). HasHeardAt k (task_of j s.hands) z.phase) at (sound.links j k).told)) in
    let units' : units_of k (with_task me new s.hands) ms ≡ 0 = units-with_task_same k me new s.hands ms (ap (units_in k) (sym is)) ∙ units in record {
      log = reserved-sound s.log t sound.log room;
      owner = put sound.owner tail (Shared k);
      works = works-put sound.owner me tail (Shared k) (joined k a n Places) new s.hands is sound.works (λ j ne. ap (is_actor j) free) refl (λ b ne. refl);
      shares = shares-put_new_group sound.owner k tail (Shared k) g g' s.groups at within sound.shares (λ q ne. ap (is_slot q) free ∙ sym (is_slot-other_false q k ne))
          (eq-eqb tail tail refl ∙ sym (eq-eqb k k refl)) (λ b ne. ne_eqb tail b (λ e. ne (sym e)));
      owned = owned-put sound.owner tail (Shared k) s.log.reservations rs' sound.owned (ap is_open (fresh-found_at_tail s.log t sound.log)) (λ b ne. push-else b tail t s.log.reservations ne);
      links = links-moved_on_slot me k (joined k a n Places) new g' s.hands s.groups is within refl refl sound.links
          record { joins = mine.joins; leads = cond_equal-single ToStore me ∙ sym (cond_equal-single ToStore k); told = λ e. tt }
          (λ j z ne h. other_link-new_phase j k z ms (Closed l t) (Placed me t (Granted tail)) (cond_unequal-none ToPlace l j (λ e. ne (e ∙ leader)))
          (cond_unequal-none ToStore me j ne) (λ P x. let e = x.3 in absurd (cc)) (subst (Link j k z) at h));
      groups = groups-moved_on_slot (s.log.ring / 4) me k (joined k a n Places)
          new g' s.hands s.groups s.log.reservations rs' is within refl refl sound.groups (λ q b ne there. push-else b tail t s.log.reservations
          (placed_at-not_tail s q b sound there))
          record { gathered = sound-group s k g sound at; covers = record { r = fresh tail t; found = fresh-found_at_tail s.log t sound.log; size = refl; filled = omega (arith, units') } };
      tasks = with_task-each_actor (λ j z. IsTrueTask s.log z) (λ j z. IsTrueTask (reserved s.log t) z) me new s.hands sound.tasks tt (λ j z ne h. true_task-reserved s.log t z sound.log h);
      carried = λ there. has_carrier-turned me new s.hands s.log.exposed (λ carries. absurd (subst (Carries s.log.exposed) is carries)) (sound.carried
          (sym (is_marked-append_fresh s.log.exposed s.log.tail t s.log.reservations) ∙ there));
    }

-- a granted group's base is owned by its slot
slot-owns : (s : SlotState) (k b t r : ℕ) (ms : List Member) (sound : IsSound s) → group_at k s.groups ≡ group ms (Told t (Granted b) r) → sound.owner b ≡ Shared k
slot-owns s k b t r ms sound at = placed_at-owner_shared s k b sound (ap (λ (z : Group). placed_at b z.phase) at ∙ eq-eqb b b refl)

-- where a member has units to fill, its group's range has
pub unfilled_piece-unfilled_range : (s : SlotState) (me k a n f t b r : ℕ) (ms : List Member) → IsSound s → task_of me s.hands ≡ joined k a n
    (Fills f) → f + 1 ≤ n → group_at k s.groups ≡ group ms (Told t (Granted b) r)
    → IsSomeAnd (find (is_at b) s.log.reservations) HasUnfilled
unfilled_piece-unfilled_range s me k a n f t b r ms sound is less at =
    let g : Group = group ms (Told t (Granted b) r) in let told = sound-group s k g sound at in let c = told.covers in
    let mine : units_in k (task_of me s.hands) ≡ f = ap (units_in k) is ∙ ap (λ x. cond x f 0) (eq-eqb k k refl) in
    let more = unfilled_member-unfilled_group k me a n s.hands s.log ms (λ j. subst (λ (z : Group). seats_of j z.members ≡ seat_in k
    (task_of j s.hands)) at (sound.links j k).joins) sound.tasks (seat-of s me k a n (Fills f) g sound is at) (omega (arith, mine, less)) in
    let size = c.size in let sums = c.filled in let sum = told.sum in
    let unfilled : HasUnfilled c.r = omega (arith, size, sums, sum, more) in subst (λ o. IsSomeAnd o HasUnfilled) (sym c.found) unfilled

-- Fill, of a member that has heard
pub fill_piece-sound : (s : SlotState) (me k a n f t b r : ℕ) (ms : List Member) → IsSound s → task_of me s.hands ≡ joined k a n (Fills f) → f + 1 ≤ n
    → group_at k s.groups ≡ group ms (Told t (Granted b) r)
    → IsSound (record s { log = filled s.log b; hands = with_task me (joined k a n (Fills (f + 1))) s.hands })
fill_piece-sound s me k a n f t b r ms sound is less at =
    let g : Group = group ms (Told t (Granted b) r) in let old : Task = joined k a n (Fills f) in let new : Task = joined k a n (Fills (f + 1)) in
    let told = sound-group s k g sound at in let c = told.covers in let base : c.r.base ≡ b = found-base b s.log.reservations c.r c.found in
    let owns = slot-owns s k b t r ms sound at in let seat = seat-of s me k a n (Fills f) g sound is at in
    let mine : units_in k (task_of me s.hands) ≡ f = ap (units_in k) is ∙ ap (λ x. cond x f 0) (eq-eqb k k refl) in
    let mine' : units_in k new ≡ f + 1 = ap (λ x. cond x (f + 1) 0) (eq-eqb k k refl) in
    let now = units-with_task_member k me a n new s.hands ms seat in
    let sums = c.filled in record {
      log = filled-sound s.log b sound.log (unfilled_piece-unfilled_range s me k a n f t b r ms sound is less at);
      owner = sound.owner;
      works = with_task-each_actor (λ j z. (x : ℕ) → works_on x z ≡ is_actor j (sound.owner x)) (λ j z. (x : ℕ) → works_on x z ≡ is_actor j (sound.owner x)) me new s.hands sound.works
          (λ x. ap (works_on x) (sym is) ∙ sound.works me x) (λ j z ne h. h);
      shares = sound.shares;
      owned = λ x. open-filled s.log.reservations b x ∙ sound.owned x;
      links = links-turned me new s.hands s.groups sound.links (λ q l. let l' = subst (λ z. Link me q z (group_at q s.groups)) is l in record { joins = l'.joins; leads = l'.leads; told = l'.told });
      groups = groups-turned_at_slot (s.log.ring / 4) me k new s.hands s.groups s.log.reservations (map (filled_at b) s.log.reservations) sound.groups
          (subst (λ (z : Group). IsGroup (s.log.ring / 4) (map (filled_at b) s.log.reservations) (units_of k (with_task me new s.hands) z.members) z.members z.phase) (sym at)
          record {
            apart = told.apart;
            sum = told.sum;
            positive = told.positive;
            within = told.within;
            within_quarter = told.within_quarter;
            covers = record {
              r = filled_at b c.r;
              found = found-filled b b s.log.reservations ∙ ap (option_map (filled_at b)) c.found;
              size = c.size;
              filled = let up = ap (λ (z : Reservation). z.filled) (filled_at-same b c.r base) in omega (arith, up, sums, now, mine, mine');
            };
          })
          (λ q ne. ne-units q ne ∙ sym (ap (units_in q) is ∙ ne-units' q ne))
          (λ q x ne there. filled-else s.log.reservations b x (λ e. let theirs = placed_at-owner_shared s q x sound there in let same : Shared q
          ≡ Shared k = sym theirs ∙ (ap sound.owner e ∙ owns) in ne (let i : q ≡ k = cc in i)));
      tasks = with_task-each_actor (λ j z. (IsTrueTask s.log z) × ((x : ℕ) → works_on x z ≡ is_actor j (sound.owner x))) (λ j z. IsTrueTask
          (filled s.log b) z) me new s.hands (λ j. (sound.tasks j, sound.works j)) less
          (λ j z ne h. true_task-log_grows s.log (filled s.log b) z
          (λ x works y. let differs : x ≢ b = (λ e. let theirs = is_actor_true-actor j (sound.owner x) (sym works ∙ h.1 x) in let same : Actor j
          ≡ Shared k = sym theirs ∙ (ap sound.owner e ∙ owns) in cc) in
          subst (λ o. IsSomeAnd o IsFull) (sym (filled-else s.log.reservations b x differs)) y)
          (λ e d. boundary-map size_of (filled_at b) s.log.start s.log.reservations e (λ q. refl) d) (λ e d. is_marked-filled_at e b s.log.reservations ∙ d) (le_refl _) h.0);
      carried = λ there. has_carrier-turned me new s.hands s.log.exposed (λ carries. absurd (subst (Carries s.log.exposed) is carries)) (sound.carried
          (sym (is_marked-filled_at s.log.exposed b s.log.reservations) ∙ there));
    }
  where
    ne-units : (q : ℕ) → q ≢ k → units_in q (joined k a n (Fills (f + 1))) ≡ 0
    ne-units q ne = ap (λ x. cond x (f + 1) 0) (ne_eqb k q (λ e. ne (sym e)))

    ne-units' : (q : ℕ) → q ≢ k → units_in q (joined k a n (Fills f)) ≡ 0
    ne-units' q ne = ap (λ x. cond x f 0) (ne_eqb k q (λ e. ne (sym e)))

-- what another actor sees of a release after which some are left
other-stays : (s : SlotState) (j me k n t r r' : ℕ) (z : Task) (o : Outcome) (ms : List Member) → Left me n ms → j ≢ me → Link j k z (group ms
    (Told t o r)) → Link j k z (group (without me ms) (Told t o r'))
other-stays s j me k n t r r' z o ms left ne h = record { joins = left.others j ne ∙ h.joins; leads = h.leads; told = heard_at-new_phase k z (Told t o r) (Told t o r') (λ P x. heard P x) h.told }
  where
    heard : (P : Outcome → Type 0) → IsTold P (Told t o r) → IsTold P (Told t o r')
    heard P x = let e = x.3 in let same : x.1 ≡ o = cc in (t, o, r', refl, subst P same x.4)

-- Release, not the last: by one that has filled its piece, or of a refused group
release-more : (s : SlotState) (me k a n t r r' : ℕ) (st : MemberStage) (o : Outcome) (ms : List Member) → IsSound s → task_of me s.hands
    ≡ joined k a n st → group_at k s.groups ≡ group ms (Told t o r) → r ≡ r' + n → 1 ≤ r'
    → (IsTrueOutcome s.log.reservations o t r (units_of k s.hands ms) → IsTrueOutcome s.log.reservations o t r' (units_of k (with_task me nothing s.hands) (without me ms)))
    → IsSound (moved s me k nothing (group (without me ms) (Told t o r')))
release-more s me k a n t r r' st o ms sound is at falls some' covers =
    let g : Group = group ms (Told t o r) in let told = sound-group s k g sound at in let left = single_seat-left me a n ms (seat-of s me k a n st g sound is at) in
    moved-sound s me k (joined k a n st) nothing g (group (without me ms) (Told t o r')) sound record {
      is = is;
      at = at;
      within = nonempty_group-within k s.groups (λ e. let p : Told t o r ≡ Vacant = ap (λ (z : Group). z.phase) (sym at ∙ e) in absurd (cc));
      on = refl;
      on' = tt;
      mine = record { joins = left.mine; leads = refl; told = tt };
      others = λ j z ne h. other-stays s j me k n t r r' z o ms left ne h;
      works = λ b. refl;
      shares = λ b. refl;
      group = record {
        apart = left.apart t told.apart;
        sum = let e = left.sum in let sum = told.sum in omega (arith, e, sum, falls);
        positive = some';
        within = let w = told.within in omega (arith, w, falls);
        within_quarter = told.within_quarter;
        covers = covers told.covers;
      };
      held = tt;
      carries = λ z. z;
    }

-- what the members have filled, after a release
units-less : (s : SlotState) (me k a n : ℕ) (new : Task) (ms : List Member) → task_of me s.hands ≡ joined k a n (Fills n) → Left me n ms → units_of k
    (with_task me new s.hands) (without me ms) + n ≡ units_of k s.hands ms
units-less s me k a n new ms is left = let e = left.units k new s.hands in let mine : units_in k (task_of me s.hands) ≡ n = ap (units_in k) is ∙ ap
    (λ x. cond x n 0) (eq-eqb k k refl) in omega (arith, e, mine)

pub release_granted-sound : (s : SlotState) (me k a n t b r r' : ℕ) (ms : List Member) → IsSound s → task_of me s.hands ≡ joined k a n (Fills n)
    → group_at k s.groups ≡ group ms (Told t (Granted b) r) → r ≡ r' + n → 1 ≤ r'
    → IsSound (moved s me k nothing (group (without me ms) (Told t (Granted b) r')))
release_granted-sound s me k a n t b r r' ms sound is at falls some' =
    let left = single_seat-left me a n ms (seat-of s me k a n (Fills n) (group ms (Told t (Granted b) r)) sound is at) in let less = units-less s me k a n nothing ms is left in
    release-more s me k a n t r r' (Fills n) (Granted b) ms sound is at falls some'
    (λ c. record { r = c.r; found = c.found; size = c.size; filled = let f = c.filled in omega (arith, f, less, falls) })

pub release_refused-sound : (s : SlotState) (me k a n t x y r r' : ℕ) (ms : List Member) → IsSound s → task_of me s.hands ≡ joined k a n Leaves
    → group_at k s.groups ≡ group ms (Told t (Refused x y) r) → r ≡ r' + n → 1 ≤ r'
    → IsSound (moved s me k nothing (group (without me ms) (Told t (Refused x y) r')))
release_refused-sound s me k a n t x y r r' ms sound is at falls some' = release-more s me k a n t r r' Leaves (Refused x y) ms sound is at falls some' (λ c. c)

-- what another actor sees of the last release
other-emptied : (j me k n t r : ℕ) (z : Task) (o : Outcome) (ms : List Member) → Left me n ms → without me ms ≡ [] → j ≢ me → Link j k z (group ms
    (Told t o r)) → Link j k z (group (without me ms) (Emptied me))
other-emptied j me k n t r z o ms left empty ne h =
    let joins = left.others j ne ∙ h.joins in
    record { joins = joins; leads = cond_unequal-none ToReopen me j ne ∙ h.leads; told = no_seat-has_heard_at k z (Emptied me) (sym joins ∙ ap (seats_of j) empty) }

emptied : (s : SlotState) (me k a n t : ℕ) (st : MemberStage) (o : Outcome) (ms : List Member) → IsSound s → task_of me s.hands ≡ joined k a n st
    → group_at k s.groups ≡ group ms (Told t o n) → Left me n ms → without me ms ≡ []
emptied s me k a n t st o ms sound is at left = let told = sound-group s k (group ms (Told t o n)) sound at in
    sum_zero-no_members 0 t (without me ms) (left.apart t told.apart) (let e = left.sum in let sum = told.sum in omega (arith, e, sum))

-- Release, the last of a refused group
pub release_last_refused-sound : (s : SlotState) (me k a n t x y : ℕ) (ms : List Member) → IsSound s → task_of me s.hands ≡ joined k a n Leaves
    → group_at k s.groups ≡ group ms (Told t (Refused x y) n)
    → IsSound (moved s me k (InRing (Some k) Idle) (group (without me ms) (Emptied me)))
release_last_refused-sound s me k a n t x y ms sound is at =
    let g : Group = group ms (Told t (Refused x y) n) in let left = single_seat-left me a n ms (seat-of s me k a n Leaves g sound is at)
    in let empty = emptied s me k a n t Leaves (Refused x y) ms sound is at left in
    moved-sound s me k (joined k a n Leaves) (InRing (Some k) Idle) g (group (without me ms) (Emptied me)) sound record {
      is = is;
      at = at;
      within = nonempty_group-within k s.groups (λ e. let p : Told t (Refused x y) n ≡ Vacant = ap (λ (z : Group). z.phase) (sym at ∙ e) in absurd (cc));
      on = refl;
      on' = refl;
      mine = record { joins = left.mine; leads = cond_equal-single ToReopen me ∙ sym (cond_equal-single ToReopen k); told = tt };
      others = λ j z ne h. other-emptied j me k n t n z (Refused x y) ms left empty ne h;
      works = λ b. refl;
      shares = λ b. refl;
      group = empty;
      held = tt;
      carries = λ z. z;
    }

-- Release, the last of a granted group: the range passes from the slot to the last releaser
pub release_last_granted-sound : (s : SlotState) (me k a n t b : ℕ) (ms : List Member) → IsSound s → task_of me s.hands ≡ joined k a n (Fills n) → group_at k s.groups ≡ group ms (Told t (Granted b) n)
    → IsSound (moved s me k (InRing (Some k) (Works b)) (group (without me ms) (Emptied me)))
release_last_granted-sound s me k a n t b ms sound is at =
    let old : Task = joined k a n (Fills n) in let new : Task = InRing (Some k) (Works b) in let g : Group = group ms (Told t (Granted b) n) in let g' : Group = group (without me ms) (Emptied me) in
    let left = single_seat-left me a n ms (seat-of s me k a n (Fills n) g sound is at) in let empty = emptied s me k a n t (Fills n) (Granted b) ms sound is at left in
    let told = sound-group s k g sound at in let c = told.covers in let owns = slot-owns s k b t n ms sound at in
    let within = nonempty_group-within k s.groups (λ e. let p : Told t (Granted b) n ≡ Vacant = ap (λ (z : Group). z.phase) (sym at ∙ e) in absurd (cc)) in
    let less = units-less s me k a n nothing ms is left in let zero' : units_of k (with_task me nothing s.hands) (without me ms) ≡ 0 = ap (units_of k (with_task me nothing s.hands)) empty in record {
      log = sound.log;
      owner = put sound.owner b (Actor me);
      works = works-put sound.owner me b (Actor me) old new s.hands is sound.works (λ j ne. ap (is_actor j) owns ∙ sym (is_actor-other_false j me ne))
          (eq-eqb b b refl ∙ sym (eq-eqb me me refl)) (λ x ne. ne_eqb b x (λ e. ne (sym e)));
      shares = shares-put_new_group sound.owner k b (Actor me) g g' s.groups at within sound.shares (λ q ne. ap (is_slot q) owns
          ∙ is_slot-other_false q k ne) refl (λ x ne. sym (ne_eqb b x (λ e. ne (sym e))));
      owned = owned-put sound.owner b (Actor me) s.log.reservations s.log.reservations sound.owned (sound.owned b ∙ ap is_owned owns) (λ x ne. refl);
      links = links-moved_on_slot me k old new g' s.hands s.groups is within refl refl sound.links
          record { joins = left.mine; leads = cond_equal-single ToReopen me ∙ sym (cond_equal-single ToReopen k); told = tt }
          (λ j z ne h. other-emptied j me k n t n z (Granted b) ms left empty ne (subst (Link j k z) at h));
      groups = groups-moved_on_slot (s.log.ring / 4) me k old new g' s.hands s.groups s.log.reservations s.log.reservations is within refl refl sound.groups (λ q x ne there. refl) empty;
      tasks = with_task-each_actor (λ j z. IsTrueTask s.log z) (λ j z. IsTrueTask s.log z) me new s.hands sound.tasks
          (subst (λ o. IsSomeAnd o IsFull) (sym c.found) (full c.r.filled c.r.size n t c.filled c.size less zero')) (λ j z ne h. h);
      carried = λ there. has_carrier-turned me new s.hands s.log.exposed (λ carries. absurd (subst (Carries s.log.exposed) is carries)) (sound.carried there);
    }
  where
    full : (filled size n t : ℕ) → filled + n ≡ t + units_of k s.hands ms → size ≡ t → units_of k (with_task me nothing s.hands) (without me ms) + n
        ≡ units_of k s.hands ms → units_of k (with_task me nothing s.hands) (without me ms) ≡ 0 → filled ≡ size
    full filled size n t f is_size less none = omega (arith, f, is_size, less, none)
