-- A step that changes a slot's words and the group there, and neither parts nor ranges.
use Rattle.std.proofs.Common.{◌≡◌, ◌≢◌, ◌⊎◌, ℕ, ◌==◌, ◌/◌, cond, Bool, true, false, true≢false, List, [], ◌++◌, map, set, sym, refl, ap, ◌∙◌, subst, eq-eqb, ne_eqb}
use mathlib.Core.Logic.{dite}
use mathlib.Core.Option.{some}
use native.Mathlib.Decide.{ℕ_discrete}
use lib.ListN.{get_elem?}
use Rattle.log_rule.specs.declared.group_view.MemberStep.{MemberStep}
use Rattle.log_rule.specs.declared.start.Start.{Start}
use Rattle.log_rule.specs.declared.view.Books.{Books}
use Rattle.log_rule.specs.declared.view.Call.{Call}
use Rattle.log_rule.specs.declared.view.Call.TheVariants.{Joined}
use Rattle.log_rule.specs.declared.view.Role.TheVariants.{Flusher, Active}
use Rattle.log_rule.specs.declared.view.Seen.{Seen}
use Rattle.log_rule.specs.declared.view.View.{View}
use Rattle.log_rule.specs.Accounts.{KeepsAccounts}
use Rattle.log_rule.specs.Groups.{GroupPhase, Piece, Group, put_group}
use Rattle.log_rule.specs.GroupViews.{member_entry, member_books}
use Rattle.log_rule.specs.Log.{Log, ranges_of, parts_of}
use Rattle.log_rule.specs.Marks.{Carries, HasTrueEnds}
use Rattle.log_rule.specs.Members.{HasSeenInGroup, LoadsForGroup, AwaitsPlace, HasTotalOfWorkers, HeardOfWorkers, HasSeenLast}
use Rattle.log_rule.specs.Roles.{is_active, may_own}
use Rattle.log_rule.specs.Slots.{own_pieces, pieces_at, led_phase, phase_led, phase_at, KnowsPhase, KnowsGroup, range_of, IsAtPhase, IsSoundSlot}
use Rattle.log_rule.specs.Sound.{EachSeat, HasSeenBoundaries, SendsIfFlusher, StoresStop, HasReadStop, LookedIfQuiet, HasWorkingOwner, HasConstants}
use Rattle.log_rule.specs.Sound.{RestsUnlessActive, OwnsIfWorker, HoldsIfActive, base_of, history_in, books_of, IsSound}
use Rattle.log_rule.specs.Views.{entries_in, books_in, claims_in}
use Rattle.log_rule.specs.Words.{Words}
use Rattle.log_rule.proofs.Carriers.{carrier-set, true_ends-log_changes}
use Rattle.log_rule.proofs.Groups.{Others, HasAsBefore, as-before, put_group-at, put_group-at_equal, put_group-other, put_group-all, range_of-some_members, at_work-put_group, map-set_agreeing}
use Rattle.log_rule.proofs.Members.{KeepsMembers, loads_for_group-put_group}
use Rattle.log_rule.proofs.Roles.{crew-set_same, rests_if_quiet-set}
use Rattle.log_rule.proofs.ViewChanges.{each_view-set_weaken, each_view-set, each_seat-set_weaken, each_seat-at, each_pair-set}

-- what the seat makes of its view
pub record Mine (groups : ℕ → Group) (seat slot : ℕ) (g : Group) (old new : Call) : Type 0 where
  pub entries : entries_in (put_group groups slot g) new ≡ entries_in groups old
  pub claims : claims_in new ≡ claims_in old
  pub joins : own_pieces seat g.members ≡ pieces_at slot new
  pub leads : led_phase seat g.phase ≡ phase_at seat slot new
  pub else : (q : ℕ) → q ≢ slot → (pieces_at q new ≡ pieces_at q old) × (phase_at seat q new ≡ phase_at seat q old)
  pub knows : KnowsGroup (put_group groups slot g) new
  pub carries : (place : ℕ) → Carries place old → Carries place new
  pub ends : (start exposed : ℕ) (log : Log) → HasTrueEnds start exposed log new

module _ (key : Start) (words : Words) (views : List View) (me : ℕ) (v : View) (log : Log) (s : IsSound key words views log)
    (at : get_elem? views me ≡ some v) (active : v.standing.role ≡ Active) (slot : ℕ) (g : Group) (states bases : ℕ → ℕ)
    (seen : Seen) (call : Call) (books : Books) (contended : Bool) where
  abbrev new : View
  new = record v { seen = seen; call = call; books = books; contended = contended }

  abbrev groups : ℕ → Group
  groups = put_group log.groups slot g

  abbrev after : Log
  after = record { parts = log.parts; flushed = log.flushed; exposed = log.exposed; ahead = log.ahead; groups = groups }

  on-duty : is_active v.standing.role ≡ false → ⊥
  on-duty off = true≢false (sym (ap is_active active) ∙ off)

  not-flusher : v.standing.role ≡ Flusher → ⊥
  not-flusher f = let both : Active ≡ Flusher = sym active ∙ f in cc

  sends : (z : View) → SendsIfFlusher key.start words.exposed words.durable log z → SendsIfFlusher key.start words.exposed words.durable after z
  sends z old f = let o = old f in record {
    sent_to = o.sent_to;
    read_to = o.read_to;
    loaded_seen = o.loaded_seen;
    boundary = o.boundary;
    sent_agrees = o.sent_agrees;
    read_agrees = o.read_agrees;
  }

  module _ (mine : Mine log.groups me slot g v.call call) (own-books : books_in groups call books ≡ books_in log.groups v.call v.books)
      (others : (j : ℕ) → j ≢ me → Others (log.groups slot) g j) (range : range_of g.phase ≡ range_of (log.groups slot).phase)
      (is : IsAtPhase (key.ring / 4) (states slot) (bases slot) g.members g.phase)
      (else : (q : ℕ) → q ≢ slot → (states q ≡ words.slot q) × (bases q ≡ words.base q))
      (sees : HasSeenBoundaries key.start words.tail words.exposed words.durable (ranges_of log) seen) (read : seen.stop ≡ v.seen.stop)
      (kept : KeepsMembers key words views v log slot g seen call books) where
    -- the views of others have what they had
    others-same : (j : ℕ) (z : View) → j ≢ me → HasWorkingOwner log.groups log.parts log.ahead j z → HasAsBefore log.groups groups z.call
    others-same j z differ h = as-before log.groups slot g j (others j differ) z.call h.joins h.leads

    owners : EachSeat (HasWorkingOwner groups log.parts log.ahead) (set views me new)
    owners = each_seat-set_weaken (HasWorkingOwner log.groups log.parts log.ahead) (HasWorkingOwner groups log.parts log.ahead) views me v new at s.owners
        (let old = each_seat-at (HasWorkingOwner log.groups log.parts log.ahead) views me v at s.owners in record {
          owns = old.owns ∙ ap (λ entries. parts_of me true v.entries ++ parts_of me false entries) (sym mine.entries);
          owes = old.owes ∙ sym mine.claims;
          joins = λ q. dite (ℕ_discrete q slot)
              (λ same. ap (λ (x : Group). own_pieces me x.members) (put_group-at_equal log.groups slot q g same) ∙ (mine.joins ∙ ap (λ n. pieces_at n call) (sym same)))
              (λ differ. ap (λ (x : Group). own_pieces me x.members) (put_group-other log.groups slot q g differ) ∙ (old.joins q ∙ sym (mine.else q differ).0));
          leads = λ q. dite (ℕ_discrete q slot)
              (λ same. ap (λ (x : Group). led_phase me x.phase) (put_group-at_equal log.groups slot q g same) ∙ (mine.leads ∙ ap (λ n. phase_at me n call) (sym same)))
              (λ differ. ap (λ (x : Group). led_phase me x.phase) (put_group-other log.groups slot q g differ) ∙ (old.leads q ∙ sym (mine.else q differ).1));
          knows = mine.knows;
        })
        (λ j z differ h. let before = others-same j z differ h in let o = others j differ in record {
          owns = h.owns ∙ ap (λ entries. parts_of j true z.entries ++ parts_of j false entries) (sym before.entries);
          owes = h.owes;
          joins = λ q. dite (ℕ_discrete q slot)
              (λ same. ap (λ (x : Group). own_pieces j x.members) (put_group-at_equal log.groups slot q g same)
              ∙ (o.joins ∙ (h.joins slot ∙ ap (λ n. pieces_at n z.call) (sym same))))
              (λ apart. ap (λ (x : Group). own_pieces j x.members) (put_group-other log.groups slot q g apart) ∙ h.joins q);
          leads = λ q. dite (ℕ_discrete q slot)
              (λ same. ap (λ (x : Group). led_phase j x.phase) (put_group-at_equal log.groups slot q g same)
              ∙ (o.leads ∙ (h.leads slot ∙ ap (λ n. phase_at j n z.call) (sym same))))
              (λ apart. ap (λ (x : Group). led_phase j x.phase) (put_group-other log.groups slot q g apart) ∙ h.leads q);
          knows = before.knows h.knows;
        })

    books-same : map (books_of groups) (set views me new) ≡ map (books_of log.groups) views
    books-same = map-set_agreeing (books_of log.groups) (books_of groups) views me v new at own-books
        (λ j z differ there. (others-same j z differ (each_seat-at (HasWorkingOwner log.groups log.parts log.ahead) views j z there s.owners)).books z.books)

    slots : (q : ℕ) → IsSoundSlot (key.ring / 4) (states q) (bases q) q log.ahead (groups q)
    slots q = dite (ℕ_discrete q slot)
        (λ same. subst (λ n. IsSoundSlot (key.ring / 4) (states n) (bases n) n log.ahead (groups n)) (sym same)
        (subst (IsSoundSlot (key.ring / 4) (states slot) (bases slot) slot log.ahead) (sym (put_group-at log.groups slot g))
        record { range = (s.slots slot).range ∙ sym range; words = is }))
        (λ differ. subst (λ (p : ℕ × ℕ × Group). IsSoundSlot (key.ring / 4) p.0 p.1 q log.ahead p.2)
        (λ i. (sym (else q differ).0 i, sym (else q differ).1 i, sym (put_group-other log.groups slot q g differ) i)) (s.slots q))

    pub slot-sound : IsSound key (record words { slot = states; base = bases }) (set views me new) after
    slot-sound = record {
      ordered = s.ordered;
      seen = each_view-set (λ _ z. HasSeenBoundaries key.start words.tail words.exposed words.durable (ranges_of log) z.seen) views me new s.seen sees;
      contiguous = record {
        to_durable = s.contiguous.to_durable;
        to_exposed = s.contiguous.to_exposed;
        to_tail = s.contiguous.to_tail;
        parts = s.contiguous.parts;
        remaining = s.contiguous.remaining;
        aligned = s.contiguous.aligned;
      };
      filled = s.filled;
      below = record { full = s.below.full; below = s.below.below; ranges = s.below.ranges };
      at_work = at_work-put_group log.groups slot g log.ahead
          (λ some_shared. range_of-some_members (key.ring / 4) (states slot) (bases slot) g.members g.phase is
          (λ none. some_shared ((s.slots slot).range ∙ (sym range ∙ none)))) s.at_work;
      slots = slots;
      marks = record { current = s.marks.current; true_marks = s.marks.true_marks; below_tail = s.marks.below_tail };
      carried = λ first. carrier-set words.exposed views me v new at (mine.carries words.exposed) (s.carried first);
      ends = each_view-set_weaken (λ _ z. HasTrueEnds key.start words.exposed log z.call) (λ _ z. HasTrueEnds key.start words.exposed after z.call) views me new
          s.ends (mine.ends key.start words.exposed after) (λ _ z _ _. true_ends-log_changes key.start words.exposed log after z.call (λ _ b. b) (λ _ e. e));
      owners = owners;
      constants = each_view-set (λ _ z. HasConstants key z) views me new s.constants (s.constants me v at);
      resting = each_view-set (λ _ z. RestsUnlessActive z) views me new s.resting (λ off. absurd (on-duty off));
      entries = each_view-set (λ _ z. OwnsIfWorker z) views me new s.entries (s.entries me v at);
      roles = crew-set_same words.crew views me v new s.roles at refl;
      sends = each_view-set_weaken (λ _ z. SendsIfFlusher key.start words.exposed words.durable log z)
          (λ _ z. SendsIfFlusher key.start words.exposed words.durable after z) views me new s.sends (λ f. absurd (not-flusher f)) (λ _ z _ _. sends z);
      stops = each_view-set (λ _ z. StoresStop words.stop z) views me new s.stops (λ f. absurd (not-flusher f));
      read_stop = each_view-set (λ _ z. HasReadStop words.stop z) views me new s.read_stop
          (subst (λ n. (n ≡ 0) ⊎ (n ≡ words.stop)) (sym read) (s.read_stop me v at));
      quiet = rests_if_quiet-set views me v new s.quiet at (λ _ _ _ _ f. absurd (not-flusher f)) (λ _ h. h);
      looked = each_view-set (λ _ z. LookedIfQuiet words.exposed z) views me new s.looked (λ f. absurd (not-flusher f));
      unheld = each_view-set (λ _ z. HoldsIfActive z) views me new s.unheld
          ((λ off. absurd (on-duty off)), (λ off. absurd (true≢false (sym (ap may_own active) ∙ off))));
      accounts = subst (KeepsAccounts (base_of key) words.account (history_in key log.parts)) (sym books-same) s.accounts;
      in_group = λ q. put_group-all (HasSeenInGroup key.start key.ring words.tail words.durable (ranges_of log)) log.groups slot q g (λ _. kept.in_group)
          (s.in_group q);
      loads = each_view-set_weaken (λ _ z. LoadsForGroup log.groups z.seen z.call) (λ _ z. LoadsForGroup groups z.seen z.call) views me new s.loads kept.loads
          (λ j z differ there. loads_for_group-put_group log.groups slot g j z.seen z.call (λ total closed is. kept.others j total is z.seen closed)
          ((each_seat-at (HasWorkingOwner log.groups log.parts log.ahead) views j z there s.owners).leads slot));
      awaits = each_view-set (λ _ z. AwaitsPlace z.call z.books) views me new s.awaits kept.awaits;
      totals = each_view-set_weaken (λ _ z. (q : ℕ) → HasTotalOfWorkers (log.groups q) z) (λ _ z. (q : ℕ) → HasTotalOfWorkers (groups q) z) views me new s.totals
          (λ _ f. absurd (not-flusher f))
          (λ j z differ there old q. put_group-all (λ (x : Group). HasTotalOfWorkers x z) log.groups slot q g (λ _. kept.totals j z there) (old q));
      heard = each_pair-set (λ _ y _ z. HeardOfWorkers y z) views me v new at s.heard (λ f. absurd (not-flusher f))
          (λ j z differ there. ((λ f. absurd (not-flusher f)), kept.heard j z there));
      lasts = each_view-set (λ _ z. HasSeenLast z) views me new s.lasts (λ _. kept.last);
    }

-- the seat is at its slot, and at no other
pub cond-same_slot : {A : Type 0} → (slot : ℕ) (xs : List A) → cond (slot == slot) xs [] ≡ xs
cond-same_slot slot xs = ap (λ b. cond b xs []) (eq-eqb slot slot refl)

pub cond-other_slot : {A : Type 0} → (slot q : ℕ) (xs : List A) → q ≢ slot → cond (slot == q) xs [] ≡ []
cond-other_slot slot q xs differ = ap (λ b. cond b xs []) (ne_eqb slot q (λ e. differ (sym e)))

-- a member makes a step, its group comes to another phase, and no member joins or releases
module _ (groups : ℕ → Group) (seat slot : ℕ) (piece : Piece) (step step' : MemberStep) (old : Call) (is : old ≡ Joined slot piece step)
    (phase : GroupPhase) (entry : member_entry phase piece step' ≡ member_entry (groups slot).phase piece step)
    (leads : led_phase seat phase ≡ phase_led seat step') (knows : KnowsPhase step' phase)
    (joins : own_pieces seat (groups slot).members ≡ pieces_at slot old) where
  abbrev g : Group
  g = record { members = (groups slot).members; phase = phase }

  pub member_step-mine : Mine groups seat slot g old (Joined slot piece step')
  member_step-mine = record {
    entries = ap (λ (x : Group). member_entry x.phase piece step') (put_group-at groups slot g) ∙ (entry ∙ sym (ap (entries_in groups) is));
    claims = sym (ap claims_in is);
    joins = joins ∙ ap (pieces_at slot) is;
    leads = leads ∙ sym (cond-same_slot slot (phase_led seat step'));
    else = λ q differ. (
      sym (ap (pieces_at q) is),
      cond-other_slot slot q (phase_led seat step') differ ∙ sym (ap (phase_at seat q) is ∙ cond-other_slot slot q (phase_led seat step) differ),
    );
    knows = subst (λ (x : Group). KnowsPhase step' x.phase) (sym (put_group-at groups slot g)) knows;
    carries = λ place carries. absurd (subst (Carries place) is carries);
    ends = λ start exposed log. tt;
  }

  pub books_in-member_step_same : (books : Books) → ((books : Books) → member_books phase piece step' books ≡ member_books (groups slot).phase piece step books)
      → books_in (put_group groups slot g) (Joined slot piece step') books ≡ books_in groups old books
  books_in-member_step_same books same = ap (λ (x : Group). member_books x.phase piece step' books) (put_group-at groups slot g)
      ∙ (same books ∙ sym (ap (λ call. books_in groups call books) is))
