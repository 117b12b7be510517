-- The exchange of the tail: the machine's Reserve.
use Rattle.std.proofs.Common.{◌≡◌, inl, inr, ℕ, ◌==◌, ◌+◌, ◌-◌, ◌/◌, ◌≤◌, cond, eqb, true, false, List, [], ◌∷◌, ◌++◌, length, map, set, sym, refl, ap, ◌∙◌, subst, le_refl, arith, append-nil}
use Rattle.std.specs.List.{AllByRecursion}
use mathlib.Core.Option.{some}
use lib.ListN.{get_elem?}
use prog.Atomic.{either}
use Rattle.lsn_space.specs.declared.lsn.TheConstants.{LAST}
use Rattle.lsn_space.proofs.TilingLemmas.{all-append}
use Rattle.ring_core.specs.RingLog.{fresh}
use Rattle.log_rule.specs.declared.start.Start.{Start}
use Rattle.log_rule.specs.declared.view.Call.TheVariants.{Filling}
use Rattle.log_rule.specs.declared.view.Constants.{Constants}
use Rattle.log_rule.specs.declared.view.Entry.{Entry}
use Rattle.log_rule.specs.declared.view.View.{View}
use Rattle.slot_core.specs.State.{SlotState}
use Rattle.log_rule.specs.Events.{reservation_of, task_in, slots_of, Leads, IsStep, none, reserves}
use Rattle.table_layout.specs.Layout.{Tail}
use Rattle.log_rule.specs.Log.{Part, Owed, LogRange, Log, ranges_of, part_of, parts_of, SpellsRecord, records_in, IsAtWork}
use Rattle.log_rule.specs.Marks.{Carries}
use Rattle.log_rule.specs.May.{MayReserve}
use Rattle.log_rule.specs.Sound.{EachView, EachSeat, HasWorkingOwner, IsSound, base_of, history_in, books_of}
use Rattle.log_rule.specs.Roles.{is_spent}
use Rattle.log_rule.specs.Members.{HasSeenInGroup, LoadsForGroup}
use Rattle.log_rule.specs.Slots.{pieces_at, phase_at, IsSoundSlot}
use Rattle.log_rule.specs.SlotViews.{exchanged, after_exchange}
use Rattle.log_rule.specs.Views.{entries_in, claims_in, empty_entry, reserved}
use Rattle.log_rule.specs.Words.{Words}
use Rattle.log_record.specs.declared.rec.Rec.{Rec}
use Rattle.log_record.specs.declared.rec.Rec.TheVariants as rec
use Rattle.log_record.specs.declared.rec.Placed.{Placed}
use Rattle.log_record.specs.Spelling.{spelling, IsSpellable}
use Rattle.log_record.proofs.BoundLemmas.{length-spelling}
use Rattle.lock_core.specs.History.{end_from, history_from}
use Rattle.log_rule.specs.declared.view.Books.{Books}
use Rattle.log_rule.specs.Accounts.{KeepsAccounts}
use Rattle.log_rule.specs.Books.{next_of, placing}
use Rattle.log_rule.proofs.Entering.{may_enter-keeps_accounts, enters-spellable}
use Rattle.log_rule.proofs.AccountsKept.{books-at, records-push, history-push, history-end}
use Rattle.std.proofs.lemmas.List.{map-set}
use Rattle.log_rule.proofs.Members.{seen_in_group-more}
use Rattle.log_rule.proofs.OwnedParts.{own-push, own-push_others, owed-push, owed-push_others}
use Rattle.log_rule.proofs.RangeLists.{inside-starting_within}
use Rattle.log_rule.proofs.Sharing.{shared-push_unshared, sound_slot-same_shared}
use Rattle.log_rule.proofs.MachineShown.{hands_of-set, task_of-hands_of}
use Rattle.log_rule.proofs.TailMoving.{AreNewParts, boundary-moved_log, tail_move-sound, reservations-more, tail_exchange-step}
use Rattle.log_rule.proofs.ViewChanges.{each_view-set, each_seat-set_weaken, each_seat-at}

pub spelling-some : (r : Rec) → 1 ≤ length (spelling r)
spelling-some (rec.Genesis account balance) = omega arith
spelling-some (rec.Update txn account delta prev) = omega arith
spelling-some (rec.Commit txn legs) = omega arith
spelling-some (rec.Short txn leg) = omega arith
spelling-some (rec.Over txn leg) = omega arith
spelling-some (rec.Note txn text) = omega arith

module _ (key : Start) (words : Words) (views : List View) (me : ℕ) (v : View) (to : ℕ) (log : Log) (s : IsSound key words views log)
    (at : get_elem? views me ≡ some v) (may : MayReserve words.tail to v) where
  abbrev from : ℕ
  from = words.tail

  abbrev size : ℕ
  size = to - from

  abbrev next : Rec
  next = next_of v.books

  abbrev entry : Entry
  entry = empty_entry from size next

  abbrev part : Part
  part = part_of me false entry

  abbrev range : LogRange
  range = record { base = from; size = size; remaining = size; duty = Owed me }

  abbrev new : View
  new = reserved from to v

  abbrev more : List Part
  more = part ∷ []

  abbrev after : Log
  after = record {
    parts = log.parts ++ more;
    flushed = log.flushed;
    exposed = log.exposed;
    ahead = log.ahead ++ range ∷ [];
    groups = log.groups;
  }

  has-units : 1 ≤ length (spelling next)
  has-units = spelling-some next

  whole : from + size ≡ to
  whole = let units = has-units in let size' = may.size in omega arith

  units-are : size ≡ length (spelling next)
  units-are = let size' = may.size in omega arith

  positive : 1 ≤ size
  positive = let units = has-units in let is = units-are in omega arith

  abbrev bs : List Books
  bs = map (books_of log.groups) views

  my-books : get_elem? bs me ≡ some v.books
  my-books = books-at log.groups views me v may.rests.idle at

  spellable : IsSpellable next
  spellable = enters-spellable (base_of key) words.account bs me v.books s.accounts.holder my-books next may.enters

  ring : v.constants.ring ≡ key.ring
  ring = ap (λ (c : Constants). c.ring) (s.constants me v at (ap is_spent may.rests.active))

  quarter : size ≤ key.ring / 4
  quarter = let short = length-spelling next spellable in let is = units-are in let least = s.ordered.least_ring in omega arith

  spelled : SpellsRecord part
  spelled = record { spellable = spellable; size = units-are; rest = spelling next; units = refl }

  -- the list has one record more
  history-is : history_in key after.parts ≡ record { end = to; rec = next } ∷ history_in key log.parts
  history-is = ap (history_from key.start []) (records-push log.parts part)
      ∙ (history-push key.start [] (records_in log.parts) next
      ∙ (λ i. record { end = ends i; rec = next } ∷ history_in key log.parts))
    where
      ends : end_from key.start (history_in key log.parts) + length (spelling next) ≡ to
      ends = let before = history-end key.start key.start from [] log.parts refl s.contiguous.parts s.filled.spelled in
          let size' = may.size in omega arith

  accounts : KeepsAccounts (base_of key) words.account (history_in key after.parts) (map (books_of log.groups) (set views me new))
  accounts = subst (λ (p : List Placed × List Books). KeepsAccounts (base_of key) words.account p.0 p.1)
      (λ i. (sym history-is i, sym (map-set (books_of log.groups) views me new) i))
      (may_enter-keeps_accounts (base_of key) words.account (history_in key log.parts) bs me v.books my-books to next may.enters s.accounts)

  mine : HasWorkingOwner log.groups log.parts log.ahead me v
  mine = each_seat-at (HasWorkingOwner log.groups log.parts log.ahead) views me v at s.owners

  owners : EachSeat (HasWorkingOwner log.groups after.parts after.ahead) (set views me new)
  owners = each_seat-set_weaken (HasWorkingOwner log.groups log.parts log.ahead)
      (HasWorkingOwner log.groups after.parts after.ahead) views me v new at s.owners
      record {
        owns = own-push me log.parts false entry
            ∙ ap (λ l. l ++ part ∷ [])
            (mine.owns ∙ (ap (λ c. parts_of me true v.entries ++ parts_of me false (entries_in log.groups c)) may.rests.idle
            ∙ append-nil _));
        owes = owed-push me log.ahead range refl
            ∙ ap (λ l. l ++ record { base = from; size = size; remaining = size } ∷ []) (mine.owes ∙ ap claims_in may.rests.idle);
        joins = λ slot. mine.joins slot ∙ ap (pieces_at slot) may.rests.idle;
        leads = λ slot. mine.leads slot ∙ ap (phase_at me slot) may.rests.idle;
        knows = tt;
      }
      (λ j z differ h. record {
        owns = own-push_others me j log.parts false entry differ
            ∙ h.owns;
        owes = owed-push_others me j log.ahead range refl differ ∙ h.owes;
        joins = h.joins;
        leads = h.leads;
        knows = h.knows;
      })

  new-parts : AreNewParts from size to more
  new-parts = record {
    whole = whole;
    positive = positive;
    laid = (refl, positive, whole);
    empty = (record { unreleased = refl; no_units = refl }, tt);
    spelled = (spelled, tt);
    remain = let here = inside-starting_within from size entry (le_refl _) (omega (arith, positive)) in omega (arith, here);
  }

  within_ring : to ≤ words.durable + key.ring
  within_ring = omega (arith, ring, may.within_ring, (s.seen me v at).durable_seen)

  work : AllByRecursion (IsAtWork log.groups) after.ahead
  work = all-append (IsAtWork log.groups) log.ahead (range ∷ []) s.at_work (inr (inl record { seat = me; duty = refl }), tt)

  slots : (slot : ℕ) → IsSoundSlot (key.ring / 4) (words.slot slot) (words.base slot) slot after.ahead (log.groups slot)
  slots = sound_slot-same_shared (key.ring / 4) words.slot words.base log.ahead after.ahead log.groups
      (λ slot. shared-push_unshared slot log.ahead range refl) s.slots

  carries : (place : ℕ) → Carries place v.call → ⊥
  carries place c = subst (Carries place) may.rests.idle c

  in_group : (slot : ℕ) → HasSeenInGroup key.start key.ring to words.durable (ranges_of after) (log.groups slot)
  in_group slot = seen_in_group-more key.start key.ring from to words.durable words.durable (ranges_of log) (ranges_of after)
      (omega (arith, whole)) (le_refl _)
      (boundary-moved_log key words views me v log s at may.rests.active to size more (Owed me) log.groups (Filling entry) (placing to next v.books))
      (log.groups slot) (s.in_group slot)

  loads : EachView (λ _ z. LoadsForGroup log.groups z.seen z.call) (set views me new)
  loads = each_view-set (λ _ z. LoadsForGroup log.groups z.seen z.call) views me new s.loads tt

  sound : IsSound key (record words { tail = to }) (set views me new) after
  sound = tail_move-sound key words views me v log s at may.rests.active to size more (Owed me) log.groups (Filling entry)
      (placing to next v.books)
      new-parts quarter may.within_log within_ring refl carries tt work slots owners accounts in_group loads tt s.totals

  reservations : map (reservation_of after.parts) (ranges_of after) ≡ map (reservation_of log.parts) (ranges_of log) ++ fresh from size ∷ []
  reservations = reservations-more key words views me v log s at may.rests.active to size more (Owed me) log.groups (Filling entry)
      (placing to next v.books) new-parts quarter may.within_log within_ring refl carries tt work slots owners accounts in_group loads tt s.totals

  abbrev old_state : SlotState
  old_state = slots_of key words views log

  pub reserve-leads : Leads key words (record words { tail = to }) views (set views me new) log (reserves me size)
  reserve-leads = record {
    after = after;
    sound = sound;
    shows = (
      (
        task_of-hands_of 0 me me views v (omega arith) at ∙ ap task_in may.rests.idle,
        record {
          positive = positive;
          quarter = quarter;
          within_log = subst (λ n. n ≤ LAST) (sym whole) may.within_log;
          within_ring = omega (arith, whole, within_ring);
        },
      ),
      λ i. record old_state {
        log = record old_state.log { reservations = reservations i; tail = sym whole i };
        hands = hands_of-set 0 me me views v new (omega arith) at i;
      },
    );
  }

module _ (key : Start) (me : ℕ) (v : View) (from to : ℕ) (may : MayReserve from to v) where
  pub reserve-step : IsStep key me Tail from to v (reserved from to v) (reserves me (to - from))
  reserve-step = record {
    leads = λ words views log s at is. subst
        (λ n. Leads key words (record words { tail = to }) views (set views me (reserved n to v)) log (reserves me (to - n))) is
        (reserve-leads key words views me v to log s at (subst (λ n. MayReserve n to v) (sym is) may));
  }

  pub reserve_exchange-step : (n : ℕ) → IsStep key me Tail n (either (eqb n from) to n) v (after_exchange from to n v)
      (cond (n == from) (reserves me (to - from)) none)
  reserve_exchange-step = tail_exchange-step key me v from to (reserved from to v) (reserves me (to - from))
      (ap (exchanged from to v) may.rests.idle) reserve-step
