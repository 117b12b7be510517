-- A leader exchanges the tail for its group: the machine's Place. Each member's piece enters the log as a part, and no other view changes.
use Rattle.std.proofs.Common.{◌≡◌, ◌≢◌, ◌⊎◌, inl, inr, ⊎_elim, ℕ, ◌==◌, ◌&&◌, ◌+◌, ◌/◌, ◌<◌, ◌≤◌, cond, eqb, true, false, List, [], ◌∷◌, ◌++◌, length}
use Rattle.std.proofs.Common.{map, set, get_or, sym, refl, ap, ◌∙◌, subst, arith, append-nil, append_assoc, add-zero, ne_eqb, le_refl}
use Rattle.std.proofs.lemmas.Bool.{le-leb}
use Rattle.std.specs.Prelude.{IsSomeAnd}
use Rattle.std.specs.List.{AllByRecursion}
use mathlib.Core.Logic.{dite}
use mathlib.Core.Option.{some}
use native.Mathlib.Decide.{ℕ_discrete}
use lib.ListN.{get_elem?}
use prog.Atomic.{either}
use Rattle.atomic_table.proofs.Lists.{at_map}
use Rattle.lsn_space.specs.declared.lsn.TheConstants.{LAST}
use Rattle.lsn_space.proofs.TilingLemmas.{all-weaken, all-append}
use Rattle.ring_core.specs.RingLog.{fresh, reserved}
use Rattle.slot_core.specs.State.{Task, SlotState, Group as MachineGroup, joined, task_of, with_task, membership, group, group_at}
use Rattle.slot_core.specs.Machine.{MayPlace, closed_total, fits, after_place, placed_group}
use Rattle.slot_parts.specs.declared.task.MemberStage.TheVariants as stage
use Rattle.log_record.specs.declared.rec.Placed.{Placed as PlacedRecord}
use Rattle.log_record.specs.Spelling.{spelling}
use Rattle.lock_core.specs.History.{history_from}
use Rattle.lock_core.proofs.Fronts.{history_from-append}
use Rattle.log_rule.specs.declared.group_view.MemberStep.TheVariants.{Places, Stores}
use Rattle.log_rule.specs.declared.start.Start.{Start}
use Rattle.log_rule.specs.declared.view.Books.{Books}
use Rattle.log_rule.specs.declared.view.Call.{Call}
use Rattle.log_rule.specs.declared.view.Call.TheVariants.{Idle, Joined}
use Rattle.log_rule.specs.declared.view.Constants.{Constants}
use Rattle.log_rule.specs.declared.view.Role.TheVariants.{Active}
use Rattle.log_rule.specs.declared.view.View.{View}
use Rattle.log_rule.specs.Accounts.{KeepsAccounts}
use Rattle.log_rule.specs.Books.{placing}
use Rattle.log_rule.specs.Events.{task_in, group_shown, reservation_of, slots_of, Leads, IsStep, none, places}
use Rattle.log_rule.specs.Groups.{Granted, Closed, Placed, Piece, Member, Group, put_group}
use Rattle.log_rule.specs.GroupViews.{member_books}
use Rattle.table_layout.specs.Layout.{Tail}
use Rattle.log_rule.specs.Log.{Part, Shared, LogRange, Log, ranges_of, own, owed, is_by, whole, owes, claim_of, parts_of, Laid, SpellsRecord, records_in, IsAtWork}
use Rattle.log_rule.specs.Marks.{Carries}
use Rattle.log_rule.specs.May.{MayPlaceGroup}
use Rattle.log_rule.specs.Members.{HadSeenUpTo, HadSeenUnder, HasSeenInGroup, LoadedSince, LoadsForGroup, IsForNextRecord, AwaitsPlace, HasTotalAtPhase, HasTotalOfWorkers}
use Rattle.log_rule.specs.Roles.{is_spent}
use Rattle.log_rule.specs.Slots.{own_pieces, pieces_at, led_phase, phase_led, phase_at, KnowsPhase, KnowsGroup, shares, range_of, LiesWithin, sum_of, IsClosed, IsPlaced, IsSoundSlot}
use Rattle.log_rule.specs.SlotViews.{call_reserved, reserved_group, exchanged, after_exchange}
use Rattle.log_rule.specs.Sound.{EachView, EachSeat, HasWorkingOwner, IsSound, base_of, history_in, books_of}
use Rattle.log_rule.specs.Views.{seen_tail, nobody, entries_in, books_in, claims_in}
use Rattle.log_rule.specs.Words.{Words}
use Rattle.log_rule.proofs.Bookings.{map-set_same}
use Rattle.log_rule.proofs.Entering.{enters-spellable}
use Rattle.log_rule.proofs.GroupEntering.{Entrant, history_with, books_with, MayEnterAs, EntersNot, EntersAs, enter_all-keeps_accounts, books_with-map_views}
use Rattle.log_rule.proofs.GroupPlacing.{placed_parts, entries_at, own-placed, parts_of-append, laid-placed, empty-placed, unreleased-placed}
use Rattle.log_rule.proofs.GroupPlacing.{all-placed, IsAmong, own_pieces-all_members, IsOneAtMost, pieces_at-one_at_most, IsMemberAt, member-at}
use Rattle.log_rule.proofs.GroupPlacing.{seat-view_or_nobody, IsPlacedAt, knows_closed-placed_at, PlacesPiece, PlacesNone, OncePlaced, once-placed}
use Rattle.log_rule.proofs.GroupPlacing.{entrant, entrants, all-entrants, enters-not, enters-as, entrants-are_apart, history-placed, records-append}
use Rattle.log_rule.proofs.Groups.{put_group-at, put_group-at_equal, put_group-other, range_of-some_members, at_work-put_group, groups_from-put_group}
use Rattle.log_rule.proofs.AccountsKept.{history-end}
use Rattle.log_rule.proofs.Lists.{picked-append}
use Rattle.log_rule.proofs.Members.{seen_in_group-more, loads_for_group-weaken}
use Rattle.log_rule.proofs.Sharing.{shared-push_unshared}
use Rattle.log_rule.proofs.MachineShown.{hands_of-set, task_of-hands_of}
use Rattle.log_rule.proofs.SlotLeading.{joined-active, phase_led-whole_phase, slot-is_at_phase}
use Rattle.log_rule.proofs.SlotShowing.{group-shown}
use Rattle.log_rule.proofs.SlotStoring.{pieces_tile-sum_within}
use Rattle.log_rule.proofs.SlotChanges.{cond-same_slot, cond-other_slot}
use Rattle.log_rule.proofs.TailMoving.{AreNewParts, boundary-moved_log, tail_move-sound, reservations-more, tail_exchange-step}
use Rattle.log_rule.proofs.ViewChanges.{each_view-set_weaken, get_elem-get_or_nobody, each_seat-at, each_seat-set_weaken}

-- the view of the seat awaits its group's place, for the record of this piece, and shows its own books
pub record AwaitsGroup (groups : ℕ → Group) (views : List View) (seat : ℕ) (piece : Piece) : Type 0 where
  pub at : get_elem? views seat ≡ some (get_or views seat nobody)
  pub next : IsForNextRecord piece (get_or views seat nobody).books
  pub shown : books_of groups (get_or views seat nobody) ≡ (get_or views seat nobody).books

-- the same of the group at one slot, or at another
pub put_group-same_members : (groups : ℕ → Group) (slot : ℕ) (g : Group) → g.members ≡ (groups slot).members → (q : ℕ)
    → (put_group groups slot g q).members ≡ (groups q).members
put_group-same_members groups slot g same q = dite (ℕ_discrete q slot)
    (λ is. ap (λ (x : Group). x.members) (put_group-at_equal groups slot q g is) ∙ (same ∙ sym (ap (λ n. (groups n).members) is)))
    (λ differ. ap (λ (x : Group). x.members) (put_group-other groups slot q g differ))

-- what holds of the group that changes, and of each other
pub each-group : (P : ℕ → Group → Type 0) (groups : ℕ → Group) (slot : ℕ) (g : Group) → P slot g → ((q : ℕ) → q ≢ slot → P q (groups q))
    → (q : ℕ)
    → P q (put_group groups slot g q)
each-group P groups slot g now others q = dite (ℕ_discrete q slot)
    (λ is. subst (P q) (sym (put_group-at_equal groups slot q g is)) (subst (λ n. P n g) (sym is) now))
    (λ differ. subst (P q) (sym (put_group-other groups slot q g differ)) (others q differ))

module _ (key : Start) (words : Words) (views : List View) (me : ℕ) (v : View) (to : ℕ) (log : Log) (s : IsSound key words views log)
    (at : get_elem? views me ≡ some v) (may : MayPlaceGroup words.tail to v) where
  abbrev from : ℕ
  from = words.tail

  abbrev slot : ℕ
  slot = may.slot

  abbrev total : ℕ
  total = may.total

  abbrev ms : List Member
  ms = (log.groups slot).members

  abbrev g : Group
  g = record { members = ms; phase = Placed me total (Granted from) }

  abbrev groups : ℕ → Group
  groups = put_group log.groups slot g

  abbrev more : List Part
  more = placed_parts from ms

  abbrev range : LogRange
  range = record { base = from; size = total; remaining = total; duty = Shared slot }

  abbrev call : Call
  call = Joined slot may.piece (Stores total from)

  abbrev new : View
  new = record v { seen = seen_tail to v.seen; call = call }

  abbrev after : Log
  after = record {
    parts = log.parts ++ more;
    flushed = log.flushed;
    exposed = log.exposed;
    ahead = log.ahead ++ range ∷ [];
    groups = groups;
  }

  on-duty : v.standing.role ≡ Active
  on-duty = joined-active key words views me v slot may.piece (Places total may.closed) log s at may.places

  was : (log.groups slot).phase ≡ Closed me total
  was = phase_led-whole_phase key words views me v slot may.piece (Places total may.closed) log s at may.places (Closed me total) refl tt

  closed : IsClosed (key.ring / 4) (words.slot slot) total ms
  closed = slot-is_at_phase key words views me v slot may.piece (Places total may.closed) log s at may.places (Closed me total) was

  sums : (0 + sum_of ms ≡ total) × AllByRecursion (LiesWithin total) ms
  sums = pieces_tile-sum_within 0 total total ms closed.joined.tiles (omega arith)

  once : (j : ℕ) (z : View) → HasWorkingOwner log.groups log.parts log.ahead j z → OncePlaced log.groups groups from slot z.call
  once j z h = once-placed log.groups slot g me total from was refl z.call h.knows

  -- ---- each member's record

  awaiting : (seat : ℕ) (piece : Piece) → IsAmong piece (own_pieces seat ms) → AwaitsGroup log.groups views seat piece
  awaiting seat piece among = let z : View = get_or views seat nobody in
      let h : HasWorkingOwner log.groups log.parts log.ahead seat z = s.owners seat in
      let m : IsMemberAt slot piece z.call = member-at slot piece z.call (subst (IsAmong piece) (h.joins slot) among) in
      let p : IsPlacedAt me total from piece m.step = knows_closed-placed_at me total from piece m.step
      (subst (KnowsPhase m.step) was (subst (KnowsGroup log.groups) m.is h.knows)) in
      ⊎_elim
      (λ (made : get_elem? views seat ≡ some z). record {
        at = made;
        next = p.awaits z.books (subst (λ (c : Call). AwaitsPlace c z.books) m.is (s.awaits seat z made));
        shown = ap (λ (c : Call). books_in log.groups c z.books) m.is
            ∙ (ap (λ q. member_books q piece m.step z.books) was ∙ p.before z.books);
      })
      (λ (none : z ≡ nobody). absurd (let idle : Joined slot piece m.step ≡ Idle = sym m.is ∙ ap (λ (y : View). y.call) none in cc))
      (seat-view_or_nobody views seat)

  abbrev Awaits : Member → Type 0
  Awaits m = AwaitsGroup log.groups views m.seat m.piece

  members : AllByRecursion Awaits ms
  members = own_pieces-all_members (AwaitsGroup log.groups views) ms awaiting

  abbrev bs : List Books
  bs = map (books_of log.groups) views

  books-at : (seat : ℕ) (piece : Piece) → AwaitsGroup log.groups views seat piece
      → get_elem? bs seat ≡ some (get_or views seat nobody).books
  books-at seat piece a = at_map (books_of log.groups) views seat (get_or views seat nobody) a.at ∙ ap some a.shown

  spelled : AllByRecursion SpellsRecord more
  spelled = all-placed Awaits SpellsRecord from ms
      (λ m a. record {
        spellable = enters-spellable (base_of key) words.account bs m.seat (get_or views m.seat nobody).books s.accounts.holder
            (books-at m.seat m.piece a) m.piece.rec a.next.enters;
        size = a.next.size_is;
        rest = spelling m.piece.rec;
        units = refl;
      }) members

  abbrev es : List Entrant
  es = entrants views from ms

  may-enter : AllByRecursion (MayEnterAs bs) es
  may-enter = all-entrants views from Awaits (MayEnterAs bs) ms
      (λ m a. record { at = books-at m.seat m.piece a; may = a.next.enters }) members

  history-is : history_in key after.parts ≡ history_with es (history_in key log.parts)
  history-is = ap (history_from key.start []) (records-append log.parts more)
      ∙ (history_from-append key.start [] (records_in log.parts) (records_in more)
      ∙ history-placed views from key.start 0 total (history_in key log.parts) ms
      (history-end key.start key.start from [] log.parts refl s.contiguous.parts s.filled.spelled ∙ sym (add-zero from)) closed.joined.tiles
      (all-weaken Awaits (λ (m : Member). m.piece.size ≡ length (spelling m.piece.rec)) ms (λ m a. a.next.size_is) members))

  entrant-or-not : (j : ℕ) (z : View) → get_elem? views j ≡ some z
      → ((e : Entrant) × EntersAs j e es × (books_of groups z ≡ placing e.end e.rec e.books))
      ⊎ (EntersNot j es × (books_of groups z ≡ books_of log.groups z))
  entrant-or-not j z there =
      let h = each_seat-at (HasWorkingOwner log.groups log.parts log.ahead) views j z there s.owners in ⊎_elim
      (λ (p : PlacesPiece groups from z.call (pieces_at slot z.call)). inl (
        entrant views from j p.piece,
        enters-as views from j p.piece ms (h.joins slot ∙ p.one),
        p.books z.books ∙ ap (λ (y : View). placing (from + p.piece.offset + p.piece.size) p.piece.rec y.books)
            (sym (get_elem-get_or_nobody views j z there)),
      ))
      (λ (n : PlacesNone log.groups groups z.call (pieces_at slot z.call)). inr
      (enters-not views from j ms (h.joins slot ∙ n.none), n.books z.books))
      (once j z h).books

  entrants-apart : Rattle.log_rule.proofs.GroupEntering.AreApart es
  entrants-apart = entrants-are_apart views from ms
      (λ seat. subst IsOneAtMost (sym ((s.owners seat).joins slot)) (pieces_at-one_at_most slot (get_or views seat nobody).call))

  books-shown : books_with es bs ≡ map (books_of groups) (set views me new)
  books-shown = books_with-map_views (books_of log.groups) (books_of groups) views es entrants-apart entrant-or-not
      ∙ sym (map-set_same (books_of groups) views me v new at (sym (ap (λ (c : Call). books_in groups c v.books) may.places)))

  accounts : KeepsAccounts (base_of key) words.account (history_in key after.parts) (map (books_of groups) (set views me new))
  accounts = subst (λ (p : List PlacedRecord × List Books). KeepsAccounts (base_of key) words.account p.0 p.1)
      (λ i. (sym history-is i, books-shown i))
      (enter_all-keeps_accounts (base_of key) words.account (history_in key log.parts) bs es entrants-apart may-enter s.accounts)

  -- ---- who has what

  own-more : (j : ℕ) (z : View) → HasWorkingOwner log.groups log.parts log.ahead j z
      → own j after.parts ≡ parts_of j true z.entries ++ parts_of j false (entries_in groups z.call)
  own-more j z h = picked-append (is_by j) whole log.parts more
      ∙ ((λ i. h.owns i ++ (own-placed j from ms ∙ ap (λ l. parts_of j false (entries_at from l)) (h.joins slot)) i)
      ∙ (append_assoc (parts_of j true z.entries) (parts_of j false (entries_in log.groups z.call))
      (parts_of j false (entries_at from (pieces_at slot z.call)))
      ∙ ap (λ l. parts_of j true z.entries ++ l)
      (sym (parts_of-append j false (entries_in log.groups z.call) (entries_at from (pieces_at slot z.call)))
      ∙ ap (parts_of j false) (once j z h).entries)))

  owed-same : (j : ℕ) → owed j after.ahead ≡ owed j log.ahead
  owed-same j = picked-append (owes j) claim_of log.ahead (range ∷ []) ∙ append-nil (owed j log.ahead)

  mine : HasWorkingOwner log.groups log.parts log.ahead me v
  mine = each_seat-at (HasWorkingOwner log.groups log.parts log.ahead) views me v at s.owners

  leads-mine : (q : ℕ) → led_phase me (groups q).phase ≡ phase_at me q call
  leads-mine = each-group (λ q (x : Group). led_phase me x.phase ≡ phase_at me q call) log.groups slot g
      (cond-same_slot me (Placed me total (Granted from) ∷ []) ∙ sym (cond-same_slot slot (phase_led me (Stores total from))))
      (λ q differ. mine.leads q ∙ (ap (phase_at me q) may.places
      ∙ (cond-other_slot slot q (phase_led me (Places total may.closed)) differ
      ∙ sym (cond-other_slot slot q (phase_led me (Stores total from)) differ))))

  leads-others : (j : ℕ) (z : View) → j ≢ me → HasWorkingOwner log.groups log.parts log.ahead j z → (q : ℕ)
      → led_phase j (groups q).phase ≡ phase_at j q z.call
  leads-others j z differ h = each-group (λ q (x : Group). led_phase j x.phase ≡ phase_at j q z.call) log.groups slot g
      (cond-other_slot me j (Placed me total (Granted from) ∷ []) differ
      ∙ (sym (ap (led_phase j) was ∙ cond-other_slot me j (Closed me total ∷ []) differ) ∙ h.leads slot))
      (λ q _. h.leads q)

  owners : EachSeat (HasWorkingOwner groups after.parts after.ahead) (set views me new)
  owners = each_seat-set_weaken (HasWorkingOwner log.groups log.parts log.ahead)
      (HasWorkingOwner groups after.parts after.ahead) views me v new at s.owners
      record {
        owns = own-more me v mine ∙ ap (λ (c : Call). parts_of me true v.entries ++ parts_of me false (entries_in groups c)) may.places;
        owes = owed-same me ∙ (mine.owes ∙ ap claims_in may.places);
        joins = λ q. ap (own_pieces me) (put_group-same_members log.groups slot g refl q) ∙ (mine.joins q ∙ ap (pieces_at q) may.places);
        leads = leads-mine;
        knows = tt;
      }
      (λ j z differ h. record {
        owns = own-more j z h;
        owes = owed-same j ∙ h.owes;
        joins = λ q. ap (own_pieces j) (put_group-same_members log.groups slot g refl q) ∙ h.joins q;
        leads = leads-others j z differ h;
        knows = (once j z h).knows;
      })

  -- ---- the range

  placed : IsPlaced (key.ring / 4) (words.slot slot) total (Granted from) ms
  placed = record {
    word_is = closed.word_is;
    granted = refl;
    remains = record {
      sum = omega (arith, sums.0);
      some_units = closed.joined.some_units;
      within = omega arith;
      few = closed.joined.few;
      each = sums.1;
    };
  }

  slots : (q : ℕ) → IsSoundSlot (key.ring / 4) (words.slot q) (words.base q) q after.ahead (groups q)
  slots = each-group (λ q (x : Group). IsSoundSlot (key.ring / 4) (words.slot q) (words.base q) q after.ahead x) log.groups slot g
      record {
        range = picked-append (shares slot) claim_of log.ahead (range ∷ [])
            ∙ ((λ i. ((s.slots slot).range ∙ ap range_of was) i ++ cond-same_slot slot (claim_of range ∷ []) i));
        words = placed;
      }
      (λ q differ. record {
        range = shared-push_unshared q log.ahead range (ne_eqb slot q (λ e. differ (sym e)))
            ∙ (s.slots q).range;
        words = (s.slots q).words;
      })

  members-there : ms ≢ []
  members-there = range_of-some_members (key.ring / 4) (words.slot slot) (words.base slot) ms (Placed me total (Granted from)) placed
      (λ (e : range_of (Placed me total (Granted from)) ≡ []). cc)

  work : AllByRecursion (IsAtWork groups) after.ahead
  work = all-append (IsAtWork groups) log.ahead (range ∷ []) (at_work-put_group log.groups slot g log.ahead (λ _. members-there) s.at_work) (
    inr (inr record {
      slot = slot;
      duty = refl;
      members = subst (λ (x : Group). x.members ≢ [])
          (sym (put_group-at log.groups slot g)) members-there;
    }),
    tt,
  )

  whole-range : from + total ≡ to
  whole-range = sym may.size

  new-parts : AreNewParts from total to more
  new-parts = record {
    whole = whole-range;
    positive = closed.joined.some_units;
    laid = subst (λ (p : ℕ × ℕ). Laid p.0 more p.1) (λ i. (add-zero from i, whole-range i))
        (laid-placed from 0 total ms closed.joined.tiles);
    empty = empty-placed from ms;
    spelled = spelled;
    remain = unreleased-placed from total ms sums.1 ∙ placed.remains.sum;
  }

  ring : v.constants.ring ≡ key.ring
  ring = ap (λ (c : Constants). c.ring) (s.constants me v at (ap is_spent on-duty))

  within_ring : to ≤ words.durable + key.ring
  within_ring = omega (arith, ring, may.within_ring, (s.seen me v at).durable_seen)

  carries : (place : ℕ) → Carries place v.call → ⊥
  carries place c = subst (Carries place) may.places c

  -- ---- what members had seen, have to place and may bring

  in_group : (q : ℕ) → HasSeenInGroup key.start key.ring to words.durable (ranges_of after) (groups q)
  in_group = each-group (λ _ (x : Group). HasSeenInGroup key.start key.ring to words.durable (ranges_of after) x) log.groups slot g
      record {
        members_seen = (grows slot).members_seen;
        outcome = record {
          members_seen = all-weaken (HadSeenUpTo from words.durable) (HadSeenUnder (Granted from)) ms (λ m had. had.tail_seen)
              (s.in_group slot).members_seen;
          is_true = tt;
          no_room = tt;
        };
      }
      (λ q _. grows q)
    where
      grows : (q : ℕ) → HasSeenInGroup key.start key.ring to words.durable (ranges_of after) (log.groups q)
      grows q = seen_in_group-more key.start key.ring from to words.durable words.durable (ranges_of log) (ranges_of after)
          (omega (arith, whole-range))
          (le_refl _) (boundary-moved_log key words views me v log s at on-duty to total more (Shared slot) groups call v.books) (log.groups q)
          (s.in_group q)

  loads : EachView (λ _ z. LoadsForGroup groups z.seen z.call) (set views me new)
  loads = each_view-set_weaken (λ _ z. LoadsForGroup log.groups z.seen z.call) (λ _ z. LoadsForGroup groups z.seen z.call) views me new s.loads tt
      (λ j z _ _ old. loads_for_group-weaken log.groups groups z.seen z.seen z.call
      (λ q units since piece _ loaded. subst (LoadedSince since z.seen) (sym (put_group-same_members log.groups slot g refl q)) loaded) old)

  awaits : AwaitsPlace call v.books
  awaits = subst (λ (c : Call). AwaitsPlace c v.books) may.places (s.awaits me v at)

  totals : EachView (λ _ z. (q : ℕ) → HasTotalOfWorkers (groups q) z) views
  totals j z there = each-group (λ _ (x : Group). HasTotalOfWorkers x z) log.groups slot g
      (λ flusher. subst (HasTotalAtPhase (length z.standing.made) ms) was (s.totals j z there slot flusher)) (λ q _. s.totals j z there q)

  sound : IsSound key (record words { tail = to }) (set views me new) after
  sound = tail_move-sound key words views me v log s at on-duty to total more (Shared slot) groups call v.books
      new-parts closed.joined.few may.within_log within_ring refl carries tt work slots owners accounts in_group loads awaits totals

  -- ---- the event

  abbrev old_state : SlotState
  old_state = slots_of key words views log

  abbrev storing : Task
  storing = joined slot may.piece.offset may.piece.size stage.Stores

  abbrev machine_total : ℕ
  machine_total = closed_total (group_at slot old_state.groups).phase

  module _ (below : slot < key.slots) where
    task-is : task_of me old_state.hands ≡ joined slot may.piece.offset may.piece.size stage.Places
    task-is = task_of-hands_of 0 me me views v (omega arith) at ∙ ap task_in may.places

    shown : group_at slot old_state.groups ≡ group_shown (log.groups slot)
    shown = group-shown key words words.slot words.base views me v new log slot g at below

    total-is : machine_total ≡ total
    total-is = ap (λ (x : MachineGroup). closed_total x.phase) shown ∙ ap closed_total was

    fit : fits old_state.log machine_total from v.seen.durable ≡ true
    fit = λ i. le-leb (from + machine_total) LAST (omega (arith, total-is, whole-range, may.within_log)) i
        && le-leb (from + machine_total) (v.seen.durable + key.ring) (omega (arith, total-is, whole-range, ring, may.within_ring)) i

    reservations : map (reservation_of after.parts) (ranges_of after)
        ≡ map (reservation_of log.parts) (ranges_of log) ++ fresh from total ∷ []
    reservations = reservations-more key words views me v log s at on-duty to total more (Shared slot) groups call v.books
        new-parts closed.joined.few may.within_log within_ring refl carries tt work slots owners accounts in_group loads awaits totals

    group-is : group_shown g ≡ placed_group old_state me slot machine_total from v.seen.durable true
    group-is = λ i. group (sym shown i).members (Placed me (sym total-is i) (Granted from))

    state-is : slots_of key (record words { tail = to }) (set views me new) after
        ≡ after_place old_state me from v.seen.durable (membership (task_of me old_state.hands))
    state-is = (λ i. record old_state {
      log = record old_state.log { reservations = reservations i; tail = sym whole-range i };
      hands = hands_of-set 0 me me views v new (omega arith) at i;
      groups = groups_from-put_group 0 key.slots slot slot log.groups g (omega arith) i;
    })
        ∙ ((λ i. record old_state {
          log = reserved old_state.log (sym total-is i);
          hands = with_task me storing old_state.hands;
          groups = set old_state.groups slot (group-is i);
        })
        ∙ ((λ i. record old_state {
          log = cond (sym fit i) (reserved old_state.log machine_total) old_state.log;
          hands = with_task me storing old_state.hands;
          groups = set old_state.groups slot (placed_group old_state me slot machine_total from v.seen.durable (sym fit i));
        })
        ∙ ap (λ task. after_place old_state me from v.seen.durable (membership task)) (sym task-is)))

    pub place_group-leads : Leads key words (record words { tail = to }) views (set views me new) log (places me from v.seen.durable)
    place_group-leads = record {
      after = after;
      sound = sound;
      shows = (
        subst (λ task. IsSomeAnd (membership task) (MayPlace old_state from v.seen.durable)) (sym task-is) record {
          places = refl;
          tail_seen = omega arith;
          durable_seen = (s.seen me v at).durable_seen;
          present = λ _. refl;
        },
        state-is,
      );
    }

module _ (key : Start) (me : ℕ) (v : View) (from to : ℕ) (may : MayPlaceGroup from to v) where
  pub place-step : IsStep key me Tail from to v (reserved_group from to v) (places me from v.seen.durable)
  place-step = record {
    leads = λ words views log s at is. subst
        (λ (p : ℕ × Call). Leads key words (record words { tail = to }) views
        (set views me (record v { seen = seen_tail to v.seen; call = p.1 })) log
        (places me p.0 v.seen.durable))
        (λ i. (is i, sym (ap (call_reserved (is i)) may.places) i))
        (place_group-leads key words views me v to log s at (subst (λ n. MayPlaceGroup n to v) (sym is) may)
        (subst (λ (c : Constants). may.slot < c.slots) (s.constants me v at (ap is_spent (joined-active key words views me v may.slot may.piece
        (Places may.total may.closed) log s at may.places))) may.there));
  }

  pub place-exchange : (n : ℕ) → IsStep key me Tail n (either (eqb n from) to n) v (after_exchange from to n v)
      (cond (n == from) (places me from v.seen.durable) none)
  place-exchange = tail_exchange-step key me v from to (reserved_group from to v) (places me from v.seen.durable)
      (ap (exchanged from to v) may.places) place-step
