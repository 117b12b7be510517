-- A member hears what became of its group: the machine's Hear.
use Rattle.std.proofs.Common.{◌≡◌, ℕ, ◌+◌, ◌*◌, ◌/◌, ◌%◌, ◌^◌, ◌<◌, ◌≤◌, cond, Bool, true, false, true≢false, List, [], ◌∷◌, length, set, Option, Some, sym, refl, ap, ◌∙◌, subst, arith}
use Rattle.std.specs.Prelude.{IsSome, IsSomeAnd}
use mathlib.Core.Logic.{dite}
use mathlib.Core.Option.{some}
use native.Mathlib.Decide.{ℕ_discrete}
use lib.ListN.{get_elem?}
use Rattle.slot_core.specs.State.{Task, SlotState, Group as MachineGroup, joined, membership, task_of, with_task, group_at}
use Rattle.slot_core.specs.Machine.{MayHear, told_outcome, stage_heard, after_hear}
use Rattle.slot_parts.specs.declared.task.MemberStage.TheVariants as stage
use Rattle.log_rule.specs.declared.group_view.MemberStep.{MemberStep}
use Rattle.log_rule.specs.declared.group_view.MemberStep.TheVariants.{Hears, Fills, Leaves}
use Rattle.log_rule.specs.declared.start.Start.{Start}
use Rattle.log_rule.specs.declared.view.Books.{Books}
use Rattle.log_rule.specs.declared.view.Call.TheVariants.{Joined}
use Rattle.log_rule.specs.declared.view.Constants.{Constants}
use Rattle.log_rule.specs.declared.view.Role.TheVariants.{Flusher, Active}
use Rattle.log_rule.specs.declared.view.Seen.{Seen}
use Rattle.log_rule.specs.declared.view.View.{View}
use Rattle.log_rule.specs.Books.{placing}
use Rattle.log_rule.specs.Events.{task_in, hands_of, slots_of, Leads, IsStep, hears}
use Rattle.log_rule.specs.Groups.{Outcome, Granted, Refused, GroupPhase, Told, Piece, Member, Group, put_group}
use Rattle.log_rule.specs.GroupViews.{unheard_entry, member_entry, unheard_books, member_books, stage_of}
use Rattle.table_layout.specs.Layout.{Base}
use Rattle.log_rule.specs.Log.{Log, ranges_of, IsRangeBoundary}
use Rattle.log_rule.specs.May.{MayLoadBase}
use Rattle.log_rule.specs.Members.{HadSeenUnder, HasOutcome, HasPhaseOutcome, LoadsAtStep, SawLast, AwaitsAtStep, IsTotalOf, HasTotalAtPhase, HeardOfWorkers}
use Rattle.log_rule.specs.Roles.{is_spent}
use Rattle.log_rule.specs.Slots.{own_pieces, led_phase, phase_led, is_refused, KnowsPhase, KnowsGroup, IsToldAs, IsTold}
use Rattle.log_rule.specs.SlotViews.{seen_granted, seen_refused, heard_granted, heard_refused, heard_by, heard_base, IsHeardBase, IsHeardRefusal, TellsMember}
use Rattle.log_rule.specs.Sound.{EachView, HasSeenBoundaries, HasWorkingOwner, IsSound}
use Rattle.log_rule.specs.Views.{books_in}
use Rattle.log_rule.specs.Words.{Words}
use Rattle.log_rule.proofs.Groups.{Others, put_group-at, put_group-at_equal, put_group-other, group_at-groups_from}
use Rattle.log_rule.proofs.Lifting.{Tells}
use Rattle.log_rule.proofs.Lists.{among-first, among-more}
use Rattle.log_rule.proofs.Loads.{all-tile}
use Rattle.log_rule.proofs.Members.{KeepsMembers}
use Rattle.log_rule.proofs.Reading.{put-same_value}
use Rattle.log_rule.proofs.MachineShown.{hands_of-set, task_of-hands_of}
use Rattle.log_rule.proofs.SlotLeading.{joined-active}
use Rattle.log_rule.proofs.SlotChanges.{Mine, member_step-mine, slot-sound}
use Rattle.log_rule.proofs.ToldMembers.{all_members-own_piece, range_ahead-boundaries, joined-own_pieces, told_phase-is_told, piece-within_total, group_range-last_ahead}
use Rattle.log_rule.proofs.ViewChanges.{each_seat-at}

-- What a member comes to that hears this of its group. What the log has of it is what it was by the group's phase before.
pub record Hearing (seat : ℕ) (piece : Piece) (total : ℕ) (outcome : Outcome) (remaining : ℕ) (step : MemberStep) (old new : Books)
    : Type 0 where
  pub entry : member_entry (Told total outcome remaining) piece step ≡ unheard_entry (Told total outcome remaining) piece
  pub leads : phase_led seat step ≡ []
  pub knows : KnowsPhase step (Told total outcome remaining)
  pub books : member_books (Told total outcome remaining) piece step new ≡ unheard_books (Told total outcome remaining) piece old
  pub stage : stage_of step ≡ stage_heard (Some outcome)
  pub loads : (seen : Seen) (members : List Member) → LoadsAtStep step seen members
  pub awaits : (books : Books) → AwaitsAtStep step piece books

base-hearing : (seat : ℕ) (piece : Piece) (total base remaining : ℕ) (books : Books)
    → Hearing seat piece total (Granted base) remaining (Fills base []) books (placing (base + piece.offset + piece.size) piece.rec books)
base-hearing seat piece total base remaining books = record {
  entry = refl;
  leads = refl;
  knows = record { total = total; remaining = remaining; told = refl };
  books = refl;
  stage = refl;
  loads = λ _ _. tt;
  awaits = λ _. tt;
}

refusal-hearing : (seat : ℕ) (piece : Piece) (total tail durable remaining : ℕ) (books : Books)
    → Hearing seat piece total (Refused tail durable) remaining (Leaves tail durable) books books
refusal-hearing seat piece total tail durable remaining books = record {
  entry = refl;
  leads = refl;
  knows = record { total = total; remaining = remaining; told = refl };
  books = refl;
  stage = refl;
  loads = λ _ _. tt;
  awaits = λ _. tt;
}

-- a group is exchanged for itself
group-same : (groups : ℕ → Group) (slot q : ℕ) → put_group groups slot (groups slot) q ≡ groups q
group-same groups slot q = dite (ℕ_discrete q slot) (λ same. put_group-at_equal groups slot q (groups slot) same ∙ ap groups (sym same))
    (λ differ. put_group-other groups slot q (groups slot) differ)

-- the two numbers of a word
halves : (word tail durable : ℕ) → word ≡ tail * 2 ^ 32 + durable → durable < 2 ^ 32 → (tail ≡ word / 2 ^ 32) × (durable ≡ word % 2 ^ 32)
halves word tail durable is small = (omega arith, omega arith)

module _ (key : Start) (words : Words) (views : List View) (me : ℕ) (v : View) (slot : ℕ) (piece : Piece) (refused : Bool) (total : ℕ)
    (log : Log) (s : IsSound key words views log) (at : get_elem? views me ≡ some v) (hearing : v.call ≡ Joined slot piece (Hears refused total)) where
  abbrev step-before : MemberStep
  step-before = Hears refused total

  mine : HasWorkingOwner log.groups log.parts log.ahead me v
  mine = each_seat-at (HasWorkingOwner log.groups log.parts log.ahead) views me v at s.owners

  works : v.standing.role ≡ Active
  works = joined-active key words views me v slot piece step-before log s at hearing

  own : own_pieces me (log.groups slot).members ≡ piece ∷ []
  own = joined-own_pieces key words views me v slot piece step-before log s at hearing

  ring : v.constants.ring ≡ key.ring
  ring = ap (λ (c : Constants). c.ring) (s.constants me v at (ap is_spent works))

  abbrev word : ℕ
  word = words.base slot

  module _ (outcome : Outcome) (remaining : ℕ) (told : (log.groups slot).phase ≡ Told total outcome remaining) where
    is-told : IsTold (key.ring / 4) (words.slot slot) word total outcome remaining (log.groups slot).members
    is-told = told_phase-is_told key words views me v slot piece step-before log s at hearing total outcome remaining told

    within : piece.offset + piece.size ≤ total
    within = (piece-within_total key words views me v slot piece step-before log s at hearing total outcome remaining told).1

    had-seen : HasOutcome key.start key.ring words.tail words.durable (ranges_of log) (log.groups slot).members total outcome
    had-seen = subst (HasPhaseOutcome key.start key.ring words.tail words.durable (ranges_of log) (log.groups slot).members) told
        (s.in_group slot).outcome

    -- the step, whatever it hears
    module _ (step : MemberStep) (books : Books) (seen : Seen) (h : Hearing me piece total outcome remaining step v.books books)
        (sees : HasSeenBoundaries key.start words.tail words.exposed words.durable (ranges_of log) seen) (read : seen.stop ≡ v.seen.stop)
        (last : SawLast seen) (refusals : EachView (λ _ z. HeardOfWorkers z (record v { seen = seen })) views) where
      abbrev new : View
      new = record v { seen = seen; call = Joined slot piece step; books = books }

      abbrev g : Group
      g = record { members = (log.groups slot).members; phase = (log.groups slot).phase }

      moves : Mine log.groups me slot g v.call (Joined slot piece step)
      moves = member_step-mine log.groups me slot piece step-before step v.call hearing (log.groups slot).phase
          (subst (λ p. member_entry p piece step ≡ unheard_entry p piece) (sym told) h.entry)
          (ap (led_phase me) told ∙ sym h.leads) (subst (KnowsPhase step) (sym told) h.knows) (mine.joins slot)

      own-books : books_in (put_group log.groups slot g) (Joined slot piece step) books ≡ books_in log.groups v.call v.books
      own-books = ap (λ (x : Group). member_books x.phase piece step books) (put_group-at log.groups slot g)
          ∙ (subst (λ p. member_books p piece step books ≡ unheard_books p piece v.books) (sym told) h.books
          ∙ sym (ap (λ call. books_in log.groups call v.books) hearing))

      others : (j : ℕ) → Others (log.groups slot) g j
      others j = record { joins = refl; leads = refl; keep = λ _ _ _ _. record { entry = refl; books = λ _. refl; knows = λ k. k } }

      kept : KeepsMembers key words views v log slot g seen (Joined slot piece step) books
      kept = record {
        in_group = s.in_group slot;
        loads = h.loads seen (put_group log.groups slot g slot).members;
        awaits = h.awaits books;
        totals = λ j z there. s.totals j z there slot;
        heard = refusals;
        last = last;
        others = λ _ _ _ _ _ loaded. loaded;
      }

      sound : IsSound key words (set views me new) log
      sound = subst (λ (groups : ℕ → Group). IsSound key words (set views me new) (record log { groups = groups }))
          (λ i q. group-same log.groups slot q i)
          (slot-sound key words views me v log s at works slot g words.slot words.base seen (Joined slot piece step) books
          v.contended moves own-books (λ j _. others j) refl (s.slots slot).words (λ _ _. (refl, refl)) sees read kept)

      abbrev old_state : SlotState
      old_state = slots_of key words views log

      task-is : task_of me (hands_of 0 views) ≡ joined slot piece.offset piece.size stage.Waits
      task-is = task_of-hands_of 0 me me views v (omega arith) at ∙ ap task_in hearing

      abbrev heard_task : Option Outcome → Task
      heard_task heard = joined slot piece.offset piece.size (stage_heard heard)

      module _ (below : slot < key.slots) where
        shown : told_outcome (group_at slot old_state.groups).phase ≡ Some outcome
        shown = ap (λ (x : MachineGroup). told_outcome x.phase) (group_at-groups_from 0 key.slots slot slot log.groups (omega arith) below)
            ∙ ap (λ (p : GroupPhase). told_outcome p) told

        hands-are : hands_of 0 (set views me new)
            ≡ with_task me (heard_task (told_outcome (group_at slot old_state.groups).phase)) (hands_of 0 views)
        hands-are = hands_of-set 0 me me views v new (omega arith) at
            ∙ ap (λ stage. with_task me (joined slot piece.offset piece.size stage) (hands_of 0 views))
            (h.stage ∙ ap stage_heard (sym shown))

        heard : Leads key words words views (set views me new) log (hears me)
        heard = record {
          after = log;
          sound = sound;
          shows = (
            subst (λ task. IsSomeAnd (membership task) (MayHear old_state)) (sym task-is)
                record { waits = refl; told = subst (λ o. IsSome o) (sym shown) refl },
            (λ i. record old_state { hands = hands-are i }) ∙ ap (λ task. after_hear old_state me (membership task)) (sym task-is),
          );
        }

  -- what became of the group is what the base word tells
  by-outcome : (Q : Type 0) → (refused ≡ false → (remaining : ℕ) → (log.groups slot).phase ≡ Told total (Granted word) remaining → Q)
      → (refused ≡ true → (remaining : ℕ) → (log.groups slot).phase ≡ Told total (Refused (word / 2 ^ 32) (word % 2 ^ 32)) remaining → Q) → Q
  by-outcome Q granted refusal = by_case known.outcome known.refused_is known.remaining known.told
    where
      known : IsToldAs refused total (log.groups slot).phase
      known = subst (KnowsGroup log.groups) hearing mine.knows

      by_case : (outcome : Outcome) → refused ≡ is_refused outcome → (remaining : ℕ)
          → (log.groups slot).phase ≡ Told total outcome remaining → Q
      by_case (Granted base) flag remaining told = let b = (is-told (Granted base) remaining told).base_is in
          granted flag remaining (told ∙ ap (λ n. Told total (Granted n) remaining) (sym b.is))
      by_case (Refused tail durable) flag remaining told = let b = (is-told (Refused tail durable) remaining told).base_is in
          let h = halves word tail durable b.is b.fits in
          refusal flag remaining (told ∙ (λ i. Told total (Refused (h.0 i) (h.1 i)) remaining))

  -- the group has its range
  module _ (remaining : ℕ) (told : (log.groups slot).phase ≡ Told total (Granted word) remaining) where
    -- which begins and ends at boundaries, and ends not above the tail
    ends : IsRangeBoundary key.start (ranges_of log) (word + total) × (word + total ≤ words.tail)
        × IsRangeBoundary key.start (ranges_of log) word
    ends = let range = group_range-last_ahead key words views me v slot piece step-before log s at hearing total word remaining told in
        subst (λ (p : ℕ × ℕ). IsRangeBoundary key.start (ranges_of log) p.0 × (p.0 ≤ words.tail)
        × IsRangeBoundary key.start (ranges_of log) p.1)
        (λ i. ((range.is i).base + (range.is i).size, (range.is i).base))
        (range_ahead-boundaries (key.ring / 4) key.start words.tail log range.before range.behind range.here
        (all-tile _ _ _ _ _ log s.contiguous) range.split)

    sees-base : HasSeenBoundaries key.start words.tail words.exposed words.durable (ranges_of log) (seen_granted word total v.seen)
    sees-base = let old = s.seen me v at in record {
      tail_seen = ends.1;
      exposed_seen = old.exposed_seen;
      durable_seen = old.durable_seen;
      boundaries = (ends.0, (ends.2, old.boundaries));
    }

    last-base : SawLast (seen_granted word total v.seen)
    last-base = let last = s.lasts me v at (ap is_spent works) in record {
      tail_among = among-first (word + total) (word ∷ v.seen.lsns);
      durable_among = among-more v.seen.durable (word + total) (word ∷ v.seen.lsns)
          (among-more v.seen.durable word v.seen.lsns last.durable_among);
      tail_made = omega arith;
      durable_made = omega (arith, last.durable_made);
    }

    base-heard : slot < key.slots → Leads key words words views (set views me (heard_granted slot word piece total v)) log (hears me)
    base-heard = heard (Granted word) remaining told (Fills word []) (placing (word + piece.offset + piece.size) piece.rec v.books)
        (seen_granted word total v.seen) (base-hearing me piece total word remaining v.books) sees-base refl last-base
        (λ j z there. s.heard j z there me v at)

    base-tells : IsHeardBase (v.constants.ring / 4) total piece word
    base-tells = subst (λ r. IsHeardBase (r / 4) total piece word) (sym ring) record {
      within = within (Granted word) remaining told;
      few = (is-told (Granted word) remaining told).remains.few;
      in_log = omega (arith, ends.1, s.ordered.within_log);
      tail_seen = all_members-own_piece me (log.groups slot).members piece (HadSeenUnder (Granted word)) (λ p. p.tail ≤ word) own
          (had-seen (Granted word) remaining told).members_seen (λ _ had. had);
    }

  -- the group was refused
  module _ (remaining : ℕ) (told : (log.groups slot).phase ≡ Told total (Refused (word / 2 ^ 32) (word % 2 ^ 32)) remaining) where
    abbrev refusal : Outcome
    refusal = Refused (word / 2 ^ 32) (word % 2 ^ 32)

    abbrev seen : Seen
    seen = seen_refused word piece.size total v.seen

    sees-refusal : HasSeenBoundaries key.start words.tail words.exposed words.durable (ranges_of log) seen
    sees-refusal = let old = s.seen me v at in let so = (had-seen refusal remaining told).is_true in record {
      tail_seen = so.tail_reached;
      exposed_seen = old.exposed_seen;
      durable_seen = so.durable_reached;
      boundaries = (so.tail_boundary, (so.durable_boundary, old.boundaries));
    }

    last-refusal : SawLast seen
    last-refusal = record {
      tail_among = among-first (word / 2 ^ 32) ((word % 2 ^ 32) ∷ v.seen.lsns);
      durable_among = among-more (word % 2 ^ 32) (word / 2 ^ 32) ((word % 2 ^ 32) ∷ v.seen.lsns) (among-first (word % 2 ^ 32) v.seen.lsns);
      tail_made = omega arith;
      durable_made = omega arith;
    }

    -- the total is no greater than the workers can bring
    total-of : (z : View) (j : ℕ) → get_elem? views j ≡ some z → z.standing.role ≡ Flusher
        → IsTotalOf (length z.standing.made) piece.size total
    total-of z j there flusher = let made : ℕ = length z.standing.made in
        all_members-own_piece me (log.groups slot).members piece (λ (m : Member). IsTotalOf made m.piece.size total) (λ p. IsTotalOf made p.size total) own
        (subst (HasTotalAtPhase made (log.groups slot).members) told (s.totals j z there slot flusher)) (λ _ is. is)

    refusals-heard : EachView (λ _ z. HeardOfWorkers z (record v { seen = seen })) views
    refusals-heard j z there flusher = (
      record { within = omega (arith, within refusal remaining told); most = total-of z j there flusher },
      s.heard j z there me v at flusher,
    )

    refusal-heard : slot < key.slots → Leads key words words views (set views me (heard_refused slot word piece total v)) log (hears me)
    refusal-heard = heard refusal remaining told (Leaves (word / 2 ^ 32) (word % 2 ^ 32)) v.books seen
        (refusal-hearing me piece total (word / 2 ^ 32) (word % 2 ^ 32) remaining v.books) sees-refusal refl last-refusal refusals-heard

    refusal-tells : IsHeardRefusal v.constants.ring total piece word
    refusal-tells = let o = had-seen refusal remaining told in
        let had = all_members-own_piece me (log.groups slot).members piece (HadSeenUnder refusal)
        (λ p. (p.tail ≤ word / 2 ^ 32) × (p.durable ≤ word % 2 ^ 32)) own o.members_seen (λ _ had. (had.tail_seen, had.durable_seen)) in
        subst (λ r. IsHeardRefusal r total piece word) (sym ring) record {
          within = within refusal remaining told;
          few = (is-told refusal remaining told).remains.few;
          tail_seen = had.0;
          durable_seen = had.1;
          no_room = o.no_room;
        }

  abbrev view_at : Bool → View
  view_at flag = cond flag (heard_refused slot word piece total v) (heard_granted slot word piece total v)

  pub hear-leads : slot < key.slots → Leads key words words views (set views me (heard_base word v)) log (hears me)
  hear-leads below = by-outcome (Leads key words words views (set views me (heard_base word v)) log (hears me))
      (λ flag remaining told. as-told false flag (base-heard remaining told below))
      (λ flag remaining told. as-told true flag (refusal-heard remaining told below))
    where
      as-told : (flag : Bool) → refused ≡ flag → Leads key words words views (set views me (view_at flag)) log (hears me)
          → Leads key words words views (set views me (heard_base word v)) log (hears me)
      as-told flag is = subst (λ (x : View). Leads key words words views (set views me x) log (hears me))
          (sym (ap (λ call. heard_by word call v) hearing ∙ ap view_at is))

  pub granted-heard_base : refused ≡ false → IsHeardBase (v.constants.ring / 4) total piece word
  granted-heard_base flag = by-outcome (IsHeardBase (v.constants.ring / 4) total piece word) (λ _ remaining told. base-tells remaining told)
      (λ is _ _. absurd (true≢false (sym is ∙ flag)))

  pub refused-heard_refusal : refused ≡ true → IsHeardRefusal v.constants.ring total piece word
  refused-heard_refusal flag = by-outcome (IsHeardRefusal v.constants.ring total piece word) (λ is _ _. absurd (true≢false (sym flag ∙ is)))
      (λ _ remaining told. refusal-tells remaining told)

module _ (key : Start) (me : ℕ) (v : View) (slot number : ℕ) (slotted : key.slots ≡ number) (below : slot < number)
    (may : MayLoadBase slot v) where
  pub hear-step : (n : ℕ) → IsStep key me (Base slot) n n v (heard_base n v) (hears me)
  hear-step n = record {
    leads = λ words views log s at is.
        subst (λ (f : ℕ → ℕ). Leads key words (record words { base = f }) views (set views me (heard_base n v)) log (hears me))
        (λ i k. sym (put-same_value words.base slot n k is) i)
        (subst (λ w. Leads key words words views (set views me (heard_base w v)) log (hears me)) is
        (hear-leads key words views me v slot may.piece may.refused may.total log s at may.hears
        (subst (λ k. slot < k) (sym slotted) below)));
  }

  pub hear-tells_member : Tells key me (Base slot) v (λ n. TellsMember n v)
  hear-tells_member words views log s at = record {
    base = λ q piece total is. subst (λ k. IsHeardBase (v.constants.ring / 4) total piece (words.base k)) (same-slot q piece false total is)
        (granted-heard_base key words views me v q piece false total log s at is refl);
    refusal = λ q piece total is. subst (λ k. IsHeardRefusal v.constants.ring total piece (words.base k)) (same-slot q piece true total is)
        (refused-heard_refusal key words views me v q piece true total log s at is refl);
  }
    where
      same-slot : (q : ℕ) (piece : Piece) (refused : Bool) (total : ℕ) → v.call ≡ Joined q piece (Hears refused total) → q ≡ slot
      same-slot q piece refused total is =
          let both : Joined q piece (Hears refused total) ≡ Joined slot may.piece (Hears may.refused may.total) = sym is ∙ may.hears in cc
