-- What the rule says of what members had seen, have to place and may bring, where a view, a word or a group changes.
use Rattle.std.proofs.Common.{◌≡◌, ℕ, ◌+◌, ◌≤◌, ◌||◌, eqb, max, cond, suc, true, List, [], ◌++◌, length, set, sym, refl, ap, ◌∙◌, subst, arith, eq-eqb}
use Rattle.std.specs.List.{AllByRecursion, list_any}
use Rattle.std.proofs.lemmas.List.Folds.{list_any-append}
use mathlib.Core.Logic.{dite}
use mathlib.Core.Option.{some}
use native.Mathlib.Decide.{dec_le}
use lib.ListN.{get_elem?}
use Rattle.lsn_space.proofs.TilingLemmas.{all-weaken}
use Rattle.log_rule.specs.declared.group_view.HeardRefusal.{HeardRefusal}
use Rattle.log_rule.specs.declared.group_view.MemberStep.{MemberStep}
use Rattle.log_rule.specs.declared.group_view.MemberStep.TheVariants.{Closes, Waits, Hears, Places, Stores, Tells, Fills, Leaves}
use Rattle.log_rule.specs.declared.start.Start.{Start}
use Rattle.log_rule.specs.declared.view.Books.{Books}
use Rattle.log_rule.specs.declared.view.Call.{Call}
use Rattle.log_rule.specs.declared.view.Call.TheVariants.{Idle, Filling, Joined, Emptying, Marked, Holding, Raising, Reopening}
use Rattle.log_rule.specs.declared.view.Role.TheVariants.{Flusher, Active}
use Rattle.log_rule.specs.declared.view.Seen.{Seen}
use Rattle.log_rule.specs.declared.view.Standing.{Standing}
use Rattle.log_rule.specs.declared.view.View.{View}
use Rattle.log_rule.specs.Groups.{Outcome, Granted, Refused, GroupPhase, Vacant, Gathering, Closed, Placed, Ready, Told, Emptied, Piece, Member, Group, put_group}
use Rattle.log_rule.specs.Log.{LogRange, Log, ranges_of, IsRangeBoundary}
use Rattle.log_rule.specs.Members.{HadSeenUpTo, HasOutcome, HasPhaseOutcome, HasSeenInGroup, LoadedSince, LoadsAtStep, LoadsForGroup, SawLast}
use Rattle.log_rule.specs.Members.{HasSeenLast, AwaitsAtStep, AwaitsPlace, IsTotalOf, IsTotalOfEach, HasTotalAtPhase, HasTotalOfWorkers, IsRefusalOf}
use Rattle.log_rule.specs.Members.{HeardOfWorkers}
use Rattle.log_rule.specs.Roles.{is_spent}
use Rattle.log_rule.specs.Slots.{led_phase, phase_led, phase_at}
use Rattle.log_rule.specs.Sound.{EachView, EachPair, IsSound}
use Rattle.log_rule.specs.Views.{seen_tail, seen_durable, seen_exposed}
use Rattle.log_rule.specs.Words.{Words}
use Rattle.log_rule.proofs.Groups.{put_group-at, put_group-all, led_phase-known_phase, known_phase-equal_if_whole}
use Rattle.log_rule.proofs.Lists.{or-true_right, among-first, among-more}
use Rattle.log_rule.proofs.ViewChanges.{each_pair-set}

-- ---- what a seat saw last

-- The seat has come to see this. What it saw last, and what it loaded as a leader, holds of it as before, and it heard no refusal.
pub record KeepsSeen (groups : ℕ → Group) (old now : Seen) : Type 0 where
  pub last : SawLast old → SawLast now
  pub loads : (slot closed : ℕ) → LoadedSince closed old (groups slot).members → LoadedSince closed now (groups slot).members
  pub refusals : now.refusals ≡ old.refusals

-- it saw nothing
pub keeps_seen-refl : (groups : ℕ → Group) (seen : Seen) → KeepsSeen groups seen seen
keeps_seen-refl groups seen = record { last = λ last. last; loads = λ _ _ loaded. loaded; refusals = refl }

-- it saw neither the tail nor durable
pub one_step_more-keeps_seen : (groups : ℕ → Group) (old now : Seen) → now.steps ≡ old.steps + 1 → now.tail ≡ old.tail → now.tail_step ≡ old.tail_step
    → now.durable ≡ old.durable → now.durable_step ≡ old.durable_step → now.lsns ≡ old.lsns → now.refusals ≡ old.refusals → KeepsSeen groups old now
one_step_more-keeps_seen groups old now steps tail tail_step durable durable_step lsns refusals = record {
  last = λ last. record {
    tail_among = subst (λ (p : ℕ × List ℕ). list_any (eqb p.0) p.1 ≡ true) (λ i. (sym tail i, sym lsns i)) last.tail_among;
    durable_among = subst (λ (p : ℕ × List ℕ). list_any (eqb p.0) p.1 ≡ true) (λ i. (sym durable i, sym lsns i)) last.durable_among;
    tail_made = omega (arith, last.tail_made, steps, tail_step);
    durable_made = omega (arith, last.durable_made, steps, durable_step);
  };
  loads = λ slot closed loaded. record {
    tail_loaded = λ since. subst (λ n. AllByRecursion (λ (member : Member). member.piece.tail ≤ n) (groups slot).members) (sym tail)
        (loaded.tail_loaded (omega (arith, since, tail_step)));
    durable_loaded = λ since. subst (λ n. AllByRecursion (λ (member : Member). member.piece.durable ≤ n) (groups slot).members) (sym durable)
        (loaded.durable_loaded (omega (arith, since, durable_step)));
  };
  refusals = refusals;
}

-- it saw exposed
pub seen_exposed-keeps_seen : (groups : ℕ → Group) (n : ℕ) (seen : Seen) → KeepsSeen groups seen (seen_exposed n seen)
seen_exposed-keeps_seen groups n seen = record {
  last = λ last. record {
    tail_among = among-more seen.tail n seen.lsns last.tail_among;
    durable_among = among-more seen.durable n seen.lsns last.durable_among;
    tail_made = omega (arith, last.tail_made);
    durable_made = omega (arith, last.durable_made);
  };
  loads = λ slot closed loaded. record { tail_loaded = loaded.tail_loaded; durable_loaded = loaded.durable_loaded };
  refusals = refl;
}

module _ (start ring tail durable : ℕ) (ranges : List LogRange) (groups : ℕ → Group) (seen : Seen)
    (in_group : (slot : ℕ) → HasSeenInGroup start ring tail durable ranges (groups slot)) where
  -- it saw the tail: no member of a group had seen more of it
  pub seen_tail-keeps_seen : KeepsSeen groups seen (seen_tail tail seen)
  seen_tail-keeps_seen = record {
    last = λ last. record {
      tail_among = among-first tail seen.lsns;
      durable_among = among-more seen.durable tail seen.lsns last.durable_among;
      tail_made = omega arith;
      durable_made = omega (arith, last.durable_made);
    };
    loads = λ slot closed loaded. record {
      tail_loaded = λ _. all-weaken (HadSeenUpTo tail durable) (λ (member : Member). member.piece.tail ≤ tail) (groups slot).members
          (λ _ had. had.tail_seen) (in_group slot).members_seen;
      durable_loaded = loaded.durable_loaded;
    };
    refusals = refl;
  }

  -- it saw durable
  pub seen_durable-keeps_seen : KeepsSeen groups seen (seen_durable durable seen)
  seen_durable-keeps_seen = record {
    last = λ last. record {
      tail_among = among-more seen.tail durable seen.lsns last.tail_among;
      durable_among = among-first durable seen.lsns;
      tail_made = omega (arith, last.tail_made);
      durable_made = omega arith;
    };
    loads = λ slot closed loaded. record {
      tail_loaded = loaded.tail_loaded;
      durable_loaded = λ _. all-weaken (HadSeenUpTo tail durable) (λ (member : Member). member.piece.durable ≤ durable) (groups slot).members
          (λ _ had. had.durable_seen) (in_group slot).members_seen;
    };
    refusals = refl;
  }

-- the greater of what two seats saw is among what both did
pub among-max : (a b : ℕ) (xs ys : List ℕ) → list_any (eqb a) xs ≡ true → list_any (eqb b) ys ≡ true → list_any (eqb (max a b)) (xs ++ ys) ≡ true
among-max a b xs ys first second = dite (dec_le a b)
    (λ le. let is : max a b ≡ b = omega (arith, le) in
    subst (λ n. list_any (eqb n) (xs ++ ys) ≡ true) (sym is) (list_any-append (eqb b) xs ys ∙ or-true_right (list_any (eqb b) xs) (list_any (eqb b) ys) second))
    (λ gt. let is : max a b ≡ a = omega (arith, gt) in
    subst (λ n. list_any (eqb n) (xs ++ ys) ≡ true) (sym is) (list_any-append (eqb a) xs ys ∙ ap (λ t. t || list_any (eqb a) ys) first))

-- ---- what a leader loaded

-- what a leader that has closed its group loaded since is as before for its group
step-loads_move : (old now : Seen) (members after : List Member) (step : MemberStep)
    → ((total closed : ℕ) → step ≡ Places total closed → LoadedSince closed old members → LoadedSince closed now after)
    → LoadsAtStep step old members → LoadsAtStep step now after
step-loads_move old now members after Closes move loads = tt
step-loads_move old now members after Waits move loads = tt
step-loads_move old now members after (Hears refused total) move loads = tt
step-loads_move old now members after (Places total closed) move loads = move total closed refl loads
step-loads_move old now members after (Stores total base) move loads = tt
step-loads_move old now members after (Tells total outcome) move loads = tt
step-loads_move old now members after (Fills base units) move loads = tt
step-loads_move old now members after (Leaves tail durable) move loads = tt

pub loads_for_group-weaken : (groups after : ℕ → Group) (old now : Seen) (call : Call)
    → ((slot total closed : ℕ) (piece : Piece) → call ≡ Joined slot piece (Places total closed) → LoadedSince closed old (groups slot).members
    → LoadedSince closed now (after slot).members)
    → LoadsForGroup groups old call → LoadsForGroup after now call
loads_for_group-weaken groups after old now Idle move loads = tt
loads_for_group-weaken groups after old now (Filling entry) move loads = tt
loads_for_group-weaken groups after old now (Joined slot piece step) move loads = step-loads_move old now (groups slot).members (after slot).members step
    (λ total closed is. move slot total closed piece (ap (Joined slot piece) is)) loads
loads_for_group-weaken groups after old now (Emptying slot base total) move loads = tt
loads_for_group-weaken groups after old now (Marked next) move loads = tt
loads_for_group-weaken groups after old now (Holding at next) move loads = tt
loads_for_group-weaken groups after old now (Raising from to next) move loads = tt
loads_for_group-weaken groups after old now (Reopening slot) move loads = tt

-- a group at a slot changes, which is not closed, or of which the members stay
pub loads_for_group-put_group : (groups : ℕ → Group) (slot : ℕ) (g : Group) (seat : ℕ) (seen : Seen) (call : Call)
    → ((total closed : ℕ) → (groups slot).phase ≡ Closed seat total → LoadedSince closed seen (groups slot).members → LoadedSince closed seen g.members)
    → led_phase seat (groups slot).phase ≡ phase_at seat slot call → LoadsForGroup groups seen call → LoadsForGroup (put_group groups slot g) seen call
loads_for_group-put_group groups slot g seat seen call stay leads = loads_for_group-weaken groups (put_group groups slot g) seen seen call (λ other total closed piece is loaded.
    put_group-all (λ (x : Group). LoadedSince closed seen x.members) groups slot other g
    (λ same. stay total closed
    (known_phase-equal_if_whole (groups slot).phase (Closed seat total) (led_phase-known_phase seat (groups slot).phase (Closed seat total)
    (leads ∙ (ap (phase_at seat slot) is ∙ ap (λ b. cond {A = List GroupPhase} b (phase_led seat (Places total closed)) []) (eq-eqb other slot same)))) tt)
    (subst (λ n. LoadedSince closed seen (groups n).members) same loaded)) loaded)

-- ---- what members had seen

-- the words and the boundaries grow
outcome-grows : (start ring tail tail' durable durable' : ℕ) (ranges ranges' : List LogRange) (members : List Member) (total : ℕ) (outcome : Outcome)
    → tail ≤ tail' → durable ≤ durable' → ((x : ℕ) → IsRangeBoundary start ranges x → IsRangeBoundary start ranges' x)
    → HasOutcome start ring tail durable ranges members total outcome → HasOutcome start ring tail' durable' ranges' members total outcome
outcome-grows start ring tail tail' durable durable' ranges ranges' members total (Granted base) more later still o =
    record { members_seen = o.members_seen; is_true = tt; no_room = tt }
outcome-grows start ring tail tail' durable durable' ranges ranges' members total (Refused seen_tail seen_durable) more later still o = record {
  members_seen = o.members_seen;
  is_true = record {
    tail_boundary = still seen_tail o.is_true.tail_boundary;
    durable_boundary = still seen_durable o.is_true.durable_boundary;
    tail_reached = omega (arith, o.is_true.tail_reached, more);
    durable_reached = omega (arith, o.is_true.durable_reached, later);
  };
  no_room = o.no_room;
}

module _ (start ring tail tail' durable durable' : ℕ) (ranges ranges' : List LogRange) (more : tail ≤ tail') (later : durable ≤ durable')
    (still : (x : ℕ) → IsRangeBoundary start ranges x → IsRangeBoundary start ranges' x) where
  phase-grows : (members : List Member) (phase : GroupPhase) → HasPhaseOutcome start ring tail durable ranges members phase
      → HasPhaseOutcome start ring tail' durable' ranges' members phase
  phase-grows members Vacant o = tt
  phase-grows members (Gathering leader total) o = tt
  phase-grows members (Closed leader total) o = tt
  phase-grows members (Placed leader total outcome) o =
      outcome-grows start ring tail tail' durable durable' ranges ranges' members total outcome more later still o
  phase-grows members (Ready leader total outcome) o =
      outcome-grows start ring tail tail' durable durable' ranges ranges' members total outcome more later still o
  phase-grows members (Told total outcome remaining) o =
      outcome-grows start ring tail tail' durable durable' ranges ranges' members total outcome more later still o
  phase-grows members (Emptied last) o = tt

  pub seen_in_group-more : (g : Group) → HasSeenInGroup start ring tail durable ranges g → HasSeenInGroup start ring tail' durable' ranges' g
  seen_in_group-more g s = record {
    members_seen = all-weaken (HadSeenUpTo tail durable) (HadSeenUpTo tail' durable') g.members
        (λ member had. record { tail_seen = omega (arith, had.tail_seen, more); durable_seen = omega (arith, had.durable_seen, later) }) s.members_seen;
    outcome = phase-grows g.members g.phase s.outcome;
  }

-- ---- totals

total-more : (workers : ℕ) (total : ℕ) (members : List Member) → IsTotalOfEach workers total members → IsTotalOfEach (suc workers) total members
total-more workers total members = all-weaken (λ (member : Member). IsTotalOf workers member.piece.size total)
    (λ (member : Member). IsTotalOf (suc workers) member.piece.size total) members (λ member is. omega (arith, is))

-- one worker more was made
pub total_at_phase-more_workers : (workers : ℕ) (members : List Member) (phase : GroupPhase) → HasTotalAtPhase workers members phase
    → HasTotalAtPhase (suc workers) members phase
total_at_phase-more_workers workers members Vacant is = tt
total_at_phase-more_workers workers members (Gathering leader total) is = tt
total_at_phase-more_workers workers members (Closed leader total) is = total-more workers total members is
total_at_phase-more_workers workers members (Placed leader total outcome) is = total-more workers total members is
total_at_phase-more_workers workers members (Ready leader total outcome) is = total-more workers total members is
total_at_phase-more_workers workers members (Told total outcome remaining) is = total-more workers total members is
total_at_phase-more_workers workers members (Emptied last) is = tt

pub refusals-more_workers : (workers : ℕ) (refusals : List HeardRefusal) → AllByRecursion (IsRefusalOf workers) refusals
    → AllByRecursion (IsRefusalOf (suc workers)) refusals
refusals-more_workers workers refusals = all-weaken (IsRefusalOf workers) (IsRefusalOf (suc workers)) refusals
    (λ refusal is. record { within = is.within; most = omega (arith, is.most) })

-- ---- refusals that seats heard

-- the changed seat, as the flusher's, knows of no fewer workers, and it heard no refusal that is not accounted for
pub heard_of_workers-set : (views : List View) (me : ℕ) (v new : View) → EachPair (λ _ y _ z. HeardOfWorkers y z) views → get_elem? views me ≡ some v
    → ((z : View) → HeardOfWorkers v z → HeardOfWorkers new z) → ((z : View) → HeardOfWorkers z v → HeardOfWorkers z new)
    → EachPair (λ _ y _ z. HeardOfWorkers y z) (set views me new)
heard_of_workers-set views me v new all at first second = each_pair-set (λ _ y _ z. HeardOfWorkers y z) views me v new at all
    (second new (first v (all me v at me v at))) (λ j z _ there. (first z (all me v at j z there), second z (all j z there me v at)))

pub heard_of_workers-set_same : (views : List View) (me : ℕ) (v new : View) → EachPair (λ _ y _ z. HeardOfWorkers y z) views → get_elem? views me ≡ some v
    → new.standing ≡ v.standing → new.seen.refusals ≡ v.seen.refusals → EachPair (λ _ y _ z. HeardOfWorkers y z) (set views me new)
heard_of_workers-set_same views me v new all at standing refusals = heard_of_workers-set views me v new all at
    (λ z. subst (λ (x : Standing). x.role ≡ Flusher → AllByRecursion (IsRefusalOf (length x.made)) z.seen.refusals) (sym standing))
    (λ z. subst (λ (l : List HeardRefusal). z.standing.role ≡ Flusher → AllByRecursion (IsRefusalOf (length z.standing.made)) l) (sym refusals))

-- ---- where no group changes

-- what the rule says of groups in the new view of a seat
pub record KeepsView (groups : ℕ → Group) (views : List View) (me : ℕ) (new : View) : Type 0 where
  pub loads : LoadsForGroup groups new.seen new.call
  pub awaits : AwaitsPlace new.call new.books
  pub totals : (slot : ℕ) → HasTotalOfWorkers (groups slot) new
  pub heard : EachPair (λ _ y _ z. HeardOfWorkers y z) (set views me new)
  pub last : HasSeenLast new

module _ (key : Start) (words : Words) (views : List View) (me : ℕ) (v : View) (log : Log) (s : IsSound key words views log)
    (at : get_elem? views me ≡ some v) where
  -- the call stays
  pub keeps_seen-loads_for_group : (seen : Seen) → KeepsSeen log.groups v.seen seen → LoadsForGroup log.groups seen v.call
  keeps_seen-loads_for_group seen keeps =
      loads_for_group-weaken log.groups log.groups v.seen seen v.call (λ slot total closed piece is. keeps.loads slot closed) (s.loads me v at)

  pub keeps_seen-seen_last : (new : View) → new.standing ≡ v.standing → KeepsSeen log.groups v.seen new.seen → HasSeenLast new
  keeps_seen-seen_last new standing keeps unspent = keeps.last (s.lasts me v at (ap (λ (x : Standing). is_spent x.role) (sym standing) ∙ unspent))

  -- the seat stands where it stood, and heard no refusal
  pub keeps-view : (new : View) → new.standing ≡ v.standing → KeepsSeen log.groups v.seen new.seen → LoadsForGroup log.groups new.seen new.call
      → AwaitsPlace new.call new.books → KeepsView log.groups views me new
  keeps-view new standing keeps loads awaits = record {
    loads = loads;
    awaits = awaits;
    totals = λ slot. subst (λ (x : Standing). x.role ≡ Flusher → HasTotalAtPhase (length x.made) (log.groups slot).members (log.groups slot).phase)
        (sym standing) (s.totals me v at slot);
    heard = heard_of_workers-set_same views me v new s.heard at standing keeps.refusals;
    last = keeps_seen-seen_last new standing keeps;
  }

-- ---- where the group at a slot changes

-- what the rule says of groups once the one at a slot is this, where its seat has come to see this, to this call and to these books
pub record KeepsMembers (key : Start) (words : Words) (views : List View) (v : View) (log : Log) (slot : ℕ) (g : Group) (seen : Seen) (call : Call)
    (books : Books) : Type 0 where
  pub in_group : HasSeenInGroup key.start key.ring words.tail words.durable (ranges_of log) g
  pub loads : LoadsForGroup (put_group log.groups slot g) seen call
  pub awaits : AwaitsPlace call books
  pub totals : EachView (λ _ z. HasTotalOfWorkers g z) views
  pub heard : EachView (λ _ z. HeardOfWorkers z (record v { seen = seen })) views
  pub last : SawLast seen
  -- what others loaded as the slot's leaders
  pub others : (seat total : ℕ) → (log.groups slot).phase ≡ Closed seat total → (old : Seen) (closed : ℕ)
      → LoadedSince closed old (log.groups slot).members → LoadedSince closed old g.members

module _ (key : Start) (words : Words) (views : List View) (me : ℕ) (v : View) (log : Log) (s : IsSound key words views log)
    (at : get_elem? views me ≡ some v) (active : v.standing.role ≡ Active) (slot : ℕ) where
  -- a member makes a step, the group comes to another phase, and no member joins or releases
  pub keeps_seen-keeps_members : (piece : Piece) (step : MemberStep) (phase : GroupPhase) (seen : Seen) (books : Books)
      → KeepsSeen log.groups v.seen seen
      → HasPhaseOutcome key.start key.ring words.tail words.durable (ranges_of log) (log.groups slot).members phase
      → LoadsAtStep step seen (log.groups slot).members → AwaitsAtStep step piece books
      → EachView (λ _ z. HasTotalOfWorkers (record { members = (log.groups slot).members; phase = phase }) z) views
      → KeepsMembers key words views v log slot (record { members = (log.groups slot).members; phase = phase }) seen (Joined slot piece step) books
  keeps_seen-keeps_members piece step phase seen books keeps outcome loads awaits totals = record {
    in_group = record { members_seen = (s.in_group slot).members_seen; outcome = outcome };
    loads = subst (λ (x : Group). LoadsAtStep step seen x.members)
        (sym (put_group-at log.groups slot (record { members = (log.groups slot).members; phase = phase }))) loads;
    awaits = awaits;
    totals = totals;
    heard = λ j z there. subst (λ (l : List HeardRefusal). z.standing.role ≡ Flusher → AllByRecursion (IsRefusalOf (length z.standing.made)) l)
        (sym keeps.refusals) (s.heard j z there me v at);
    last = keeps.last (s.lasts me v at (ap is_spent active));
    others = λ seat total is old closed loaded. loaded;
  }

  -- the total that each member could bring is that of the phase before
  pub total_of_workers-new_phase : (old new : GroupPhase) → (log.groups slot).phase ≡ old
      → ((workers : ℕ) → HasTotalAtPhase workers (log.groups slot).members old → HasTotalAtPhase workers (log.groups slot).members new)
      → EachView (λ _ z. HasTotalOfWorkers (record { members = (log.groups slot).members; phase = new }) z) views
  total_of_workers-new_phase old new was stay j z there flusher = stay (length z.standing.made)
      (subst (HasTotalAtPhase (length z.standing.made) (log.groups slot).members) was (s.totals j z there slot flusher))
