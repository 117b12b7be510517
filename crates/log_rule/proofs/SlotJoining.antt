-- A seat joins the group at its slot: the machine's Join.
use Rattle.std.proofs.Common.{◌≡◌, ◌≢◌, ℕ, ◌+◌, ◌/◌, ◌^◌, ◌<◌, ◌≤◌, ◌==◌, cond, eqb, Bool, true, false, List, [], ◌∷◌, ◌++◌, length, map, set, sym}
use Rattle.std.proofs.Common.{refl, ap, ◌∙◌, subst, arith, eq-eqb, ne_eqb, append-nil}
use Rattle.std.proofs.lemmas.List.{map-append}
use mathlib.Core.Logic.{dite}
use mathlib.Core.Option.{some}
use native.Mathlib.Decide.{ℕ_discrete}
use lib.ListN.{get_elem?}
use prog.Atomic.{either}
use Rattle.slot_word.specs.declared.phase.Phase.TheVariants as kind
use Rattle.slot_word.specs.declared.slot_word.SlotWord.{SlotWord}
use Rattle.slot_word.specs.SlotWord.{packed, word_of}
use Rattle.slot_parts.specs.Phases.{HasPlace, gathered, stage_joined, phase_joined, task_joined}
use Rattle.slot_core.specs.State.{SlotState, joined, group, member as machine-member, Group as MachineGroup}
use Rattle.slot_core.specs.Machine.{moved, group_joined}
use Rattle.log_record.specs.Spelling.{spelling, IsSpellable}
use Rattle.log_record.proofs.BoundLemmas.{length-spelling}
use Rattle.lsn_space.proofs.TilingLemmas.{all-append}
use Rattle.log_rule.specs.declared.group_view.MemberStep.{MemberStep}
use Rattle.log_rule.specs.declared.group_view.MemberStep.TheVariants.{Closes, Waits}
use Rattle.log_rule.specs.declared.start.Start.{Start}
use Rattle.log_rule.specs.declared.view.Books.{Books}
use Rattle.log_rule.specs.declared.view.Call.TheVariants.{Joined}
use Rattle.log_rule.specs.declared.view.Constants.{Constants}
use Rattle.log_rule.specs.declared.view.Seen.{Seen}
use Rattle.log_rule.specs.declared.view.View.{View}
use Rattle.log_rule.specs.Books.{next_of}
use Rattle.log_rule.specs.Events.{Event, task_in, member_shown, group_shown, slots_of, Leads, IsStep, joins, none}
use Rattle.log_rule.specs.Groups.{Outcome, Granted, Refused, GroupPhase, Vacant, Gathering, Closed, Placed, Ready, Told, Emptied, Piece, Member, Group, put_group}
use Rattle.log_rule.specs.GroupViews.{stage_of, member_entry, member_books}
use Rattle.table_layout.specs.Layout.{Slot}
use Rattle.log_rule.specs.Log.{LogRange, Log, ranges_of}
use Rattle.log_rule.specs.Marks.{Carries}
use Rattle.log_rule.specs.May.{MayJoinSlot}
use Rattle.log_rule.specs.Members.{HadSeenUpTo, HasPhaseOutcome, LoadsAtStep, IsForNextRecord, AwaitsAtStep, HasTotalAtPhase}
use Rattle.log_rule.specs.Roles.{is_spent}
use Rattle.log_rule.specs.Slots.{is_member, piece_of, own_pieces, pieces_at, led_phase, phase_led, phase_at, range_of, PiecesTile, KnowsPhase, told_word, IsAtPhase}
use Rattle.log_rule.specs.SlotViews.{seen_slot, piece_joining, step_joining, joined_slot, lost_join, after_join}
use Rattle.log_rule.specs.Sound.{HasSeenBoundaries, HasWorkingOwner, IsSound, base_of, books_of}
use Rattle.log_rule.specs.Views.{entries_in, books_in, claims_in}
use Rattle.log_rule.specs.Words.{Words, put}
use Rattle.log_rule.proofs.Entering.{enters-spellable}
use Rattle.log_rule.proofs.Filling.{put-at, put-other}
use Rattle.log_rule.proofs.Groups.{SameUnheard, IsUntold, Others, same_unheard-keeps, untold-knows_any_phase, untold-vacant, untold-gathering, put_group-at}
use Rattle.log_rule.proofs.AccountsKept.{books-at}
use Rattle.log_rule.proofs.Lists.{picked-append}
use Rattle.log_rule.proofs.Members.{KeepsMembers, one_step_more-keeps_seen}
use Rattle.log_rule.proofs.Reserving.{spelling-some}
use Rattle.log_rule.proofs.MachineShown.{task_of-hands_of}
use Rattle.log_rule.proofs.SlotLooks.{quarter_ring-fits_31_bits, saw_slot_contended-step}
use Rattle.log_rule.proofs.SlotShowing.{group-shown, slots_of-moved, length-groups_from}
use Rattle.log_rule.proofs.SlotChanges.{Mine, cond-same_slot, cond-other_slot, slot-sound}
use Rattle.log_rule.proofs.ViewChanges.{each_seat-at}

-- one more piece tiles behind the others
tiles-more : (from to n : ℕ) (members : List Member) (member : Member) → PiecesTile from members to → member.piece.offset ≡ to → member.piece.size ≡ n → 1 ≤ n
    → PiecesTile from (members ++ member ∷ []) (to + n)
tiles-more from to n [] member tiles offset size some_units =
    (offset ∙ sym tiles, omega (arith, size, some_units), omega (arith, tiles, size))
tiles-more from to n (m ∷ ms) member tiles offset size some_units =
    (tiles.0, tiles.1, tiles-more (from + m.piece.size) to n ms member tiles.2 offset size some_units)

-- a word that tells a group isn't one of a group that gathers
told-high : (outcome : Outcome) (total remaining other : ℕ) → told_word outcome total remaining ≡ packed kind.Gathering other 0 → other < 2 ^ 31 → ⊥
told-high (Granted base) total remaining other same less = omega (arith, same, less)
told-high (Refused tail durable) total remaining other same less = omega (arith, same, less)

-- what a group comes to that gathers `total` units, or none, when a seat joins it with n more
pub record Joins (most base total n seat : ℕ) (members : List Member) (member : Member) (p : GroupPhase) : Type 0 where
  pub sum : gathered p ≡ total
  pub place : HasPlace most n p
  pub is : IsAtPhase most (packed kind.Gathering (total + n) 0) base (members ++ member ∷ []) (phase_joined seat n p)
  pub untold : IsUntold p
  pub same : SameUnheard p (phase_joined seat n p)
  pub range : range_of (phase_joined seat n p) ≡ range_of p
  pub stage : stage_of (step_joining total) ≡ stage_joined p
  pub led : led_phase seat p ≡ [] → led_phase seat (phase_joined seat n p) ≡ phase_led seat (step_joining total)
  pub others : (j : ℕ) → j ≢ seat → led_phase j (phase_joined seat n p) ≡ led_phase j p
  pub entry : (piece : Piece) → member_entry (phase_joined seat n p) piece (step_joining total) ≡ []
  pub books : (piece : Piece) (books : Books) → member_books (phase_joined seat n p) piece (step_joining total) books ≡ books
  pub outcome : (start ring tail durable : ℕ) (ranges : List LogRange)
      → HasPhaseOutcome start ring tail durable ranges (members ++ member ∷ []) (phase_joined seat n p)
  pub totals : (workers : ℕ) → HasTotalAtPhase workers (members ++ member ∷ []) (phase_joined seat n p)
  pub unclosed : (leader units : ℕ) → p ≡ Closed leader units → ⊥

module _ (most word base n seat : ℕ) (members : List Member) (member : Member) (small : most < 2 ^ 31) (some_units : 1 ≤ n) (size : member.piece.size ≡ n) where
  first-joins : members ≡ [] → n ≤ most → member.piece.offset ≡ 0 → Joins most base 0 n seat members member Vacant
  first-joins none room offset = record {
    sum = refl;
    place = room;
    is = record {
      word_is = ap (λ units. packed kind.Gathering units 0) none-before;
      joined = record {
        tiles = subst (PiecesTile 0 (members ++ member ∷ [])) none-before
            (tiles-more 0 0 n members member (subst (λ ms. PiecesTile 0 ms 0) (sym none) refl) offset size some_units);
        some_units = some_units;
        few = room;
      };
    };
    untold = untold-vacant;
    same = record { entry = λ _. refl; books = λ _ _. refl };
    range = refl;
    stage = refl;
    led = λ _. cond-same_slot seat (Gathering seat 0 ∷ []);
    others = λ j differ. cond-other_slot seat j (Gathering seat 0 ∷ []) differ;
    entry = λ _. refl;
    books = λ _ _. refl;
    outcome = λ _ _ _ _ _. tt;
    totals = λ _. tt;
    unclosed = λ _ _ is. let no : Vacant ≡ Closed _ _ = is in cc;
  }
    where
      none-before : 0 + n ≡ n
      none-before = omega arith

  more-join : (leader total : ℕ) → PiecesTile 0 members total → 1 ≤ total → total + n ≤ most → member.piece.offset ≡ total
      → Joins most base total n seat members member (Gathering leader total)
  more-join leader total tiles some_before room offset = record {
    sum = refl;
    place = room;
    is = record {
      word_is = refl;
      joined = record { tiles = tiles-more 0 total n members member tiles offset size some_units; some_units = omega (arith, some_before); few = room };
    };
    untold = untold-gathering leader total;
    same = record { entry = λ _. refl; books = λ _ _. refl };
    range = refl;
    stage = ap (λ b. stage_of (cond b Closes Waits)) later;
    led = λ none. ap (λ b. cond {A = List GroupPhase} b (Gathering leader 0 ∷ []) []) (not-mine (leader == seat) none)
        ∙ sym (ap (λ b. phase_led seat (cond b Closes Waits)) later);
    others = λ j differ. refl;
    entry = λ piece. ap (λ b. member_entry (Gathering leader (total + n)) piece (cond b Closes Waits)) later;
    books = λ piece books. ap (λ b. member_books (Gathering leader (total + n)) piece (cond b Closes Waits) books) later;
    outcome = λ _ _ _ _ _. tt;
    totals = λ _. tt;
    unclosed = λ _ _ is. let no : Gathering leader total ≡ Closed _ _ = is in cc;
  }
    where
      later : (total == 0) ≡ false
      later = ne_eqb total 0 (λ e. omega (arith, e, some_before))

      not-mine : (b : Bool) → cond {A = List GroupPhase} b (Gathering leader 0 ∷ []) [] ≡ [] → b ≡ false
      not-mine true none = absurd (cc)
      not-mine false none = refl

  -- by the word that is found, the group is of nobody, or gathers with the total that the word tells
  pub joins-by_word : (total : ℕ) (p : GroupPhase) → IsAtPhase most word base members p → word ≡ packed kind.Gathering total 0 → total < 2 ^ 31
      → total + n ≤ most → member.piece.offset ≡ total → Joins most base total n seat members member p
  joins-by_word total Vacant is found fits room offset =
      let none : total ≡ 0 = let empty = is.word_is in omega (arith, empty, found) in
      subst (λ t. Joins most base t n seat members member Vacant) (sym none)
      (first-joins is.nobody (omega (arith, room)) (offset ∙ none))
  joins-by_word total (Gathering leader old) is found fits room offset =
      let same : old ≡ total = let word_is = is.word_is in let few = is.joined.few in omega (arith, word_is, found) in
      let some_before = is.joined.some_units in
      subst (λ t. Joins most base t n seat members member (Gathering leader old)) same
      (more-join leader old is.joined.tiles some_before (omega (arith, same, room)) (offset ∙ sym same))
  joins-by_word total (Closed leader old) is found fits room offset = let word_is = is.word_is in absurd (omega (arith, word_is, found, fits))
  joins-by_word total (Placed leader old outcome) is found fits room offset = let word_is = is.word_is in absurd (omega (arith, word_is, found, fits))
  joins-by_word total (Ready leader old outcome) is found fits room offset = let word_is = is.word_is in absurd (omega (arith, word_is, found, fits))
  joins-by_word total (Told old outcome remaining) is found fits room offset =
      let word_is = is.word_is in absurd (told-high outcome old remaining total (sym word_is ∙ found) fits)
  joins-by_word total (Emptied last) is found fits room offset =
      let word_is = is.word_is in absurd (told-high is.outcome is.total 0 total (sym word_is ∙ found) fits)

-- who joins leads or waits
joining-loads : (first : Bool) (seen : Seen) (members : List Member) → LoadsAtStep (cond first Closes Waits) seen members
joining-loads true seen members = tt
joining-loads false seen members = tt

joining-awaits : (first : Bool) (piece : Piece) (books : Books) → IsForNextRecord piece books → AwaitsAtStep (cond first Closes Waits) piece books
joining-awaits true piece books is = is
joining-awaits false piece books is = is

module _ (key : Start) (words : Words) (views : List View) (me : ℕ) (v : View) (slot : ℕ) (from to : SlotWord) (log : Log) (s : IsSound key words views log)
    (at : get_elem? views me ≡ some v) (may : MayJoinSlot slot from to v) (found : words.slot slot ≡ word_of from) where
  abbrev total : ℕ
  total = from.total

  abbrev n : ℕ
  n = length (spelling (next_of v.books))

  abbrev piece : Piece
  piece = piece_joining total v

  abbrev member : Member
  member = record { seat = me; piece = piece }

  abbrev members : List Member
  members = (log.groups slot).members

  abbrev step : MemberStep
  step = step_joining total

  abbrev g : Group
  g = record { members = members ++ member ∷ []; phase = phase_joined me n (log.groups slot).phase }

  abbrev new : View
  new = record v { seen = seen_slot slot (word_of from) v.seen; call = Joined slot piece step; contended = false }

  abbrev states : ℕ → ℕ
  states = put words.slot slot (word_of to)

  abbrev after : Log
  after = record { parts = log.parts; flushed = log.flushed; exposed = log.exposed; ahead = log.ahead; groups = put_group log.groups slot g }

  mine : HasWorkingOwner log.groups log.parts log.ahead me v
  mine = each_seat-at (HasWorkingOwner log.groups log.parts log.ahead) views me v at s.owners

  some_units : 1 ≤ n
  some_units = spelling-some (next_of v.books)

  spellable : IsSpellable (next_of v.books)
  spellable = enters-spellable (base_of key) words.account (map (books_of log.groups) views) me v.books s.accounts.holder
      (books-at log.groups views me v may.rests.idle at) (next_of v.books) may.enters

  room : total + n ≤ key.ring / 4
  room = subst (λ r. total + n ≤ r / 4) (ap (λ (c : Constants). c.ring) (s.constants me v at (ap is_spent may.rests.active))) may.room

  word-is : words.slot slot ≡ packed kind.Gathering total 0
  word-is = found ∙ (λ i. packed (may.gathers i) total (from.gathering may.gathers i))

  to-is : word_of to ≡ packed kind.Gathering (total + n) 0
  to-is = λ i. packed ((may.phase ∙ may.gathers) i) (may.total i) ((may.remaining ∙ from.gathering may.gathers) i)

  j : Joins (key.ring / 4) (words.base slot) total n me members member (log.groups slot).phase
  j = joins-by_word (key.ring / 4) (words.slot slot) (words.base slot) n me members member (quarter_ring-fits_31_bits key words views me v slot (words.slot slot) log s at refl)
      some_units refl total (log.groups slot).phase (s.slots slot).words word-is from.total_fits room refl

  knows : (b : Bool) (p : GroupPhase) → KnowsPhase (cond b Closes Waits) p
  knows true p = tt
  knows false p = tt

  moves : Mine log.groups me slot g v.call (Joined slot piece step)
  moves = record {
    entries = ap (λ (x : Group). member_entry x.phase piece step) (put_group-at log.groups slot g)
        ∙ (j.entry piece ∙ sym (ap (entries_in log.groups) may.rests.idle));
    claims = sym (ap claims_in may.rests.idle);
    joins = picked-append (is_member me) piece_of members (member ∷ [])
        ∙ ((λ i. (mine.joins slot ∙ ap (pieces_at slot) may.rests.idle) i ++ cond-same_slot me (piece ∷ []) i) ∙ sym (cond-same_slot slot (piece ∷ [])));
    leads = j.led (mine.leads slot ∙ ap (phase_at me slot) may.rests.idle) ∙ sym (cond-same_slot slot (phase_led me step));
    else = λ q differ. (
      cond-other_slot slot q (piece ∷ []) differ ∙ sym (ap (pieces_at q) may.rests.idle),
      cond-other_slot slot q (phase_led me step) differ ∙ sym (ap (phase_at me q) may.rests.idle),
    );
    knows = knows (total == 0) (put_group log.groups slot g slot).phase;
    carries = λ place carries. absurd (subst (Carries place) may.rests.idle carries);
    ends = λ start exposed log. tt;
  }

  own-books : books_in (put_group log.groups slot g) (Joined slot piece step) v.books ≡ books_in log.groups v.call v.books
  own-books = ap (λ (x : Group). member_books x.phase piece step v.books) (put_group-at log.groups slot g)
      ∙ (j.books piece v.books ∙ sym (ap (λ call. books_in log.groups call v.books) may.rests.idle))

  others : (q : ℕ) → q ≢ me → Others (log.groups slot) g q
  others q differ = record {
    joins = picked-append (is_member q) piece_of members (member ∷ [])
        ∙ (ap (λ b. own_pieces q members ++ cond {A = List Piece} b (piece ∷ []) []) (ne_eqb me q (λ e. differ (sym e))) ∙ append-nil (own_pieces q members));
    leads = j.others q differ;
    keep = λ p st _ _. same_unheard-keeps (log.groups slot).phase g.phase j.same (untold-knows_any_phase (log.groups slot).phase g.phase j.untold) p st;
  }

  sees : HasSeenBoundaries key.start words.tail words.exposed words.durable (ranges_of log) (seen_slot slot (word_of from) v.seen)
  sees = let old = s.seen me v at in
      record { tail_seen = old.tail_seen; exposed_seen = old.exposed_seen; durable_seen = old.durable_seen; boundaries = old.boundaries }

  kept : KeepsMembers key words views v log slot g (seen_slot slot (word_of from) v.seen) (Joined slot piece step) v.books
  kept = record {
    in_group = record {
      members_seen = all-append (HadSeenUpTo words.tail words.durable) members (member ∷ []) (s.in_group slot).members_seen
          (record { tail_seen = (s.seen me v at).tail_seen; durable_seen = (s.seen me v at).durable_seen }, tt);
      outcome = j.outcome key.start key.ring words.tail words.durable (ranges_of log);
    };
    loads = joining-loads (total == 0) (seen_slot slot (word_of from) v.seen) (put_group log.groups slot g slot).members;
    awaits = joining-awaits (total == 0) piece v.books record { rec_is = refl; size_is = refl; enters = may.enters };
    totals = λ _ z _ _. j.totals (length z.standing.made);
    heard = λ q z there. s.heard q z there me v at;
    last = (one_step_more-keeps_seen log.groups v.seen (seen_slot slot (word_of from) v.seen) refl refl refl refl refl refl refl).last
        (s.lasts me v at (ap is_spent may.rests.active));
    others = λ seat units is _ _ _. absurd (j.unclosed seat units is);
  }

  sound : IsSound key (record words { slot = states }) (set views me new) after
  sound = slot-sound key words views me v log s at may.rests.active slot g states words.base (seen_slot slot (word_of from) v.seen)
      (Joined slot piece step) v.books false moves own-books others j.range
      (subst (λ w. IsAtPhase (key.ring / 4) w (words.base slot) g.members g.phase) (sym (put-at words.slot slot (word_of to) ∙ to-is)) j.is)
      (λ q differ. (put-other words.slot slot (word_of to) q differ, refl)) sees refl kept

  abbrev old_state : SlotState
  old_state = slots_of key words views log

  group-is : group_shown g ≡ group_joined me n (group_shown (log.groups slot))
  group-is = λ i. group ((map-append member_shown members (member ∷ []) ∙ (λ k. map member_shown members ++ machine-member me (sym j.sum k) n ∷ [])) i)
      (phase_joined me n (log.groups slot).phase)

  pub slot_join-leads : slot < key.slots → Leads key words (record words { slot = states }) views (set views me new) log (joins me slot n)
  slot_join-leads below = record {
    after = after;
    sound = sound;
    shows = (
      record {
        idle = task_of-hands_of 0 me me views v (omega arith) at ∙ ap task_in may.rests.idle;
        there = subst (λ count. slot < count) (sym (length-groups_from 0 key.slots log.groups)) below;
        positive = some_units;
        one_record = length-spelling (next_of v.books) spellable;
        place = subst (λ (x : MachineGroup). HasPlace (key.ring / 4) n x.phase)
            (sym (group-shown key words states words.base views me v new log slot g at below)) j.place;
      },
      slots_of-moved key words states words.base views me v new log slot g at below (task_joined slot n (log.groups slot).phase)
          (λ i. joined slot (sym j.sum i) n (j.stage i))
          ∙ ((λ i. moved old_state me slot (task_joined slot n (log.groups slot).phase) (group-is i))
          ∙ ap (λ (x : MachineGroup). moved old_state me slot (task_joined slot n x.phase) (group_joined me n x))
          (sym (group-shown key words states words.base views me v new log slot g at below))),
    );
  }

module _ (key : Start) (me : ℕ) (v : View) (slot number : ℕ) (from to : SlotWord) (slotted : key.slots ≡ number) (below : slot < number)
    (may : MayJoinSlot slot from to v) where
  pub join-won : IsStep key me (Slot slot) (word_of from) (word_of to) v (joined_slot slot from.total (word_of from) v) (joins me slot (length (spelling (next_of v.books))))
  join-won = record {
    leads = λ words views log s at is. slot_join-leads key words views me v slot from to log s at may is (subst (λ k. slot < k) (sym slotted) below);
  }

  -- the event of an exchange that finds this word
  abbrev pub join-event : ℕ → Event
  join-event found = cond (found == word_of from) (joins me slot (length (spelling (next_of v.books)))) none

  pub join-step : (found : ℕ) → IsStep key me (Slot slot) found (either (eqb found (word_of from)) (word_of to) found) v (after_join slot from.total (word_of from) found v) (join-event found)
  join-step found = dite (ℕ_discrete found (word_of from))
      (λ is. subst (λ (b : Bool). IsStep key me (Slot slot) found (either b (word_of to) found) v
      (cond b (joined_slot slot from.total (word_of from) v) (lost_join slot found v)) (cond b (joins me slot (length (spelling (next_of v.books)))) none))
      (sym (eq-eqb found (word_of from) is))
      (subst (λ w. IsStep key me (Slot slot) w (word_of to) v (joined_slot slot from.total (word_of from) v) (joins me slot (length (spelling (next_of v.books)))))
      (sym is) join-won))
      (λ differ. subst (λ (b : Bool). IsStep key me (Slot slot) found (either b (word_of to) found) v
      (cond b (joined_slot slot from.total (word_of from) v) (lost_join slot found v)) (cond b (joins me slot (length (spelling (next_of v.books)))) none))
      (sym (ne_eqb found (word_of from) differ)) (saw_slot_contended-step key me v slot false found))
