-- The roles of the seats and the count of the active ones.
use Rattle.std.proofs.Common.{◌≡◌, ℕ, ◌+◌, cond, Bool, true, false, true≢false, List, ◌++◌, map, set, sym, refl, ap, ◌∙◌, subst, arith}
use mathlib.Core.Option.{some}
use lib.ListN.{get_elem?}
use Rattle.log_rule.specs.declared.start.Start.{Start}
use Rattle.log_rule.specs.declared.view.Books.{Books}
use Rattle.log_rule.specs.declared.view.Call.{Call}
use Rattle.log_rule.specs.declared.view.Call.TheVariants.{Idle}
use Rattle.log_rule.specs.declared.view.Role.{Role}
use Rattle.log_rule.specs.declared.view.Role.TheVariants.{Flusher, Fresh, Active, Ended, Note, Spent}
use Rattle.log_rule.specs.declared.view.Standing.{Standing}
use Rattle.log_rule.specs.declared.view.View.{View}
use Rattle.log_rule.specs.Events.{task_in, slots_of, Leads, none}
use Rattle.log_rule.specs.Groups.{Group}
use Rattle.log_rule.specs.Log.{Log, ranges_of, parts_of}
use Rattle.log_rule.specs.Marks.{IsFirstReleased, Carries, HasTrueEnds}
use Rattle.log_rule.specs.Members.{LoadsForGroup, AwaitsPlace, HasTotalOfWorkers, HasSeenLast}
use Rattle.log_rule.specs.Sound.{EachView, EachPair, HasSeenBoundaries, SendsIfFlusher, StoresStop, HasReadStop, RestsIfQuiet, LookedIfQuiet}
use Rattle.log_rule.specs.Sound.{HasWorkingOwner, HasConstants, RestsUnlessActive, OwnsIfWorker, HoldsIfActive, base_of, history_in, books_of}
use Rattle.log_rule.specs.Sound.{HasSoundRole, HasSoundRoles, HasSoundCrew, IsSound, is_active_view}
use Rattle.log_rule.specs.Roles.{is_active, is_worker, is_working}
use Rattle.log_rule.specs.Slots.{pieces_at, phase_at, KnowsGroup}
use Rattle.log_rule.specs.Views.{entries_in, books_in, claims_in}
use Rattle.log_rule.specs.Words.{Words, AccountWords}
use Rattle.log_rule.specs.Accounts.{KeepsAccounts}
use Rattle.log_rule.proofs.Carriers.{carrier-set}
use Rattle.log_rule.proofs.Members.{KeepsView}
use Rattle.log_rule.proofs.MachineShown.{hands_of-set_same}
use Rattle.log_rule.proofs.ViewChanges.{each_view-set, each_seat-set, each_seat-at, each_pair-set, count-set}

-- a seat's standing stays
pub crew-set_same : (crew : ℕ) (views : List View) (me : ℕ) (v new : View) → HasSoundCrew crew views → get_elem? views me ≡ some v
    → new.standing ≡ v.standing → HasSoundCrew crew (set views me new)
crew-set_same crew views me v new s at same = record {
  count = s.count ∙ sym (counts (count-set is_active_view views me v new at) (ap (λ (z : Standing). is_active z.role) same));
  each = each_view-set (λ seat z. HasSoundRole seat z.standing) views me new s.each (subst (HasSoundRole me) (sym same) (s.each me v at));
  pairs = each_pair-set (λ i y j z. HasSoundRoles i y.standing j z.standing) views me v new at s.pairs
      (subst (λ (z : Standing). HasSoundRoles me z me z) (sym same) (s.pairs me v at me v at))
      (λ j z differ there. (
        subst (λ (y : Standing). HasSoundRoles me y j z.standing) (sym same) (s.pairs me v at j z there),
        subst (λ (y : Standing). HasSoundRoles j z.standing me y) (sym same) (s.pairs j z there me v at),
      ));
}
  where
    counts : {a b : ℕ} {p q : Bool} → a + cond p 1 0 ≡ b + cond q 1 0 → q ≡ p → a ≡ b
    counts {a} {b} {p} {q} e is = let f : a + cond p 1 0 ≡ b + cond p 1 0 = e ∙ ap (λ (x : Bool). b + cond x 1 0) is in omega arith

-- a seat that is neither the flusher's nor a worker's is bound to nothing by the others
pub not_flusher_nor_worker-sound_roles : (seat : ℕ) (standing : Standing) (other : ℕ) (others : Standing) → is_worker standing.role ≡ false → (standing.role ≡ Flusher → ⊥)
    → HasSoundRoles seat standing other others
not_flusher_nor_worker-sound_roles seat standing other others off no-flusher = record {
  apart = λ w. absurd (true≢false (sym w ∙ off));
  made = λ f. absurd (no-flusher f);
  enrolled = λ f. absurd (no-flusher f);
  merged = λ f. absurd (no-flusher f);
  fresh = λ f. absurd (true≢false (sym (ap is_worker f) ∙ off));
  unmerged = λ w. absurd (true≢false (sym w ∙ off));
}

-- a seat that is quiet no less, and at work no more, than it was
pub rests_if_quiet-set : (views : List View) (me : ℕ) (v new : View) → EachPair (λ _ y _ z. RestsIfQuiet y z) views
    → get_elem? views me ≡ some v → ((j : ℕ) (z : View) → get_elem? views j ≡ some z → RestsIfQuiet v z → RestsIfQuiet new z)
    → ((z : View) → RestsIfQuiet z v → RestsIfQuiet z new)
    → EachPair (λ _ y _ z. RestsIfQuiet y z) (set views me new)
rests_if_quiet-set views me v new all at first second = each_pair-set (λ _ y _ z. RestsIfQuiet y z) views me v new at all
    (second new (first me v at (all me v at me v at)))
    (λ j z _ there. (first j z there (all me v at j z there), second z (all j z there me v at)))

-- who has something under way is at work
active-works : (role : Role) → is_working role ≡ false → is_active role ≡ false
active-works Flusher off = refl
active-works Fresh off = absurd (true≢false off)
active-works Active off = absurd (true≢false off)
active-works Ended off = refl
active-works Note off = refl
active-works Spent off = refl

-- where a seat has something under way, the flusher's is not quiet
pub busy-not_quiet : (key : Start) (words : Words) (views : List View) (me : ℕ) (v : View) (log : Log) → IsSound key words views log
    → get_elem? views me ≡ some v → (v.call ≡ Idle → ⊥) → (j : ℕ) (z : View) → get_elem? views j ≡ some z → z.standing.role ≡ Flusher
    → z.sending.quiet ≡ true → ⊥
busy-not_quiet key words views me v log s at busy j z there flusher quiet =
    busy (s.resting me v at (active-works v.standing.role (s.quiet j z there me v at flusher quiet)))

-- the flusher's seat is the only one
pub sole-flusher : (crew : ℕ) (views : List View) (me : ℕ) (v : View) → HasSoundCrew crew views → get_elem? views me ≡ some v
    → v.standing.role ≡ Flusher → (j : ℕ) (z : View) → get_elem? views j ≡ some z → z.standing.role ≡ Flusher → j ≡ me
sole-flusher crew views me v s at flusher j z there f = (s.each j z there).first f ∙ sym ((s.each me v at).first flusher)

-- the new call has of the log and at the slots what the old one has
pub record HasSame (groups : ℕ → Group) (seat : ℕ) (old new : Call) : Type 0 where
  pub entries : entries_in groups new ≡ entries_in groups old
  pub claims : claims_in new ≡ claims_in old
  pub books : (books : Books) → books_in groups new books ≡ books_in groups old books
  pub pieces : (slot : ℕ) → pieces_at slot new ≡ pieces_at slot old
  pub phases : (slot : ℕ) → phase_at seat slot new ≡ phase_at seat slot old
  pub knows : KnowsGroup groups old → KnowsGroup groups new

same-call : (groups : ℕ → Group) (seat : ℕ) (old new : Call) → new ≡ old → HasSame groups seat old new
same-call groups seat old new is = subst (HasSame groups seat old) (sym is)
    record { entries = refl; claims = refl; books = λ _. refl; pieces = λ _. refl; phases = λ _. refl; knows = λ known. known }

-- the seat's view, the crew and the accounts change, but not what the seat owns or has reserved, nor what it has at the slots
module _ (key : Start) (words : Words) (stop crew : ℕ) (account : ℕ → AccountWords) (views : List View) (me : ℕ) (v new : View) (log : Log) (s : IsSound key words views log)
    (at : get_elem? views me ≡ some v) (same : HasSame log.groups me v.call new.call)
    (carries : IsFirstReleased log.ahead → Carries words.exposed v.call → Carries words.exposed new.call)
    (ends : HasTrueEnds key.start words.exposed log new.call) (entries : new.entries ≡ v.entries)
    (sees : HasSeenBoundaries key.start words.tail words.exposed words.durable (ranges_of log) new.seen) (constants : HasConstants key new)
    (rests : RestsUnlessActive new) (owns : OwnsIfWorker new) (roles : HasSoundCrew crew (set views me new))
    (sends : SendsIfFlusher key.start words.exposed words.durable log new) (stops : EachView (λ _ z. StoresStop stop z) (set views me new))
    (read_stop : EachView (λ _ z. HasReadStop stop z) (set views me new))
    (quiet : EachPair (λ _ y _ z. RestsIfQuiet y z) (set views me new)) (looked : LookedIfQuiet words.exposed new)
    (unheld : HoldsIfActive new)
    (accounts : KeepsAccounts (base_of key) account (history_in key log.parts) (map (books_of log.groups) (set views me new)))
    (kept : KeepsView log.groups views me new) where
  pub change_view-sound : IsSound key (record words { stop = stop; crew = crew; account = account }) (set views me new) log
  change_view-sound = record {
    ordered = s.ordered;
    seen = each_view-set (λ _ z. HasSeenBoundaries key.start words.tail words.exposed words.durable (ranges_of log) z.seen) views me new s.seen sees;
    contiguous = s.contiguous;
    filled = s.filled;
    below = s.below;
    at_work = s.at_work;
    slots = s.slots;
    marks = s.marks;
    carried = λ first. carrier-set words.exposed views me v new at (carries first) (s.carried first);
    ends = each_view-set (λ _ z. HasTrueEnds key.start words.exposed log z.call) views me new s.ends ends;
    owners = each_seat-set (HasWorkingOwner log.groups log.parts log.ahead) views me v new at s.owners
        (let mine = each_seat-at (HasWorkingOwner log.groups log.parts log.ahead) views me v at s.owners in record {
          owns = mine.owns ∙ (λ i. parts_of me true (sym entries i) ++ parts_of me false (sym same.entries i));
          owes = mine.owes ∙ sym same.claims;
          joins = λ slot. mine.joins slot ∙ sym (same.pieces slot);
          leads = λ slot. mine.leads slot ∙ sym (same.phases slot);
          knows = same.knows mine.knows;
        });
    constants = each_view-set (λ _ z. HasConstants key z) views me new s.constants constants;
    resting = each_view-set (λ _ z. RestsUnlessActive z) views me new s.resting rests;
    entries = each_view-set (λ _ z. OwnsIfWorker z) views me new s.entries owns;
    roles = roles;
    sends = each_view-set (λ _ z. SendsIfFlusher key.start words.exposed words.durable log z) views me new s.sends sends;
    stops = stops;
    read_stop = read_stop;
    quiet = quiet;
    looked = each_view-set (λ _ z. LookedIfQuiet words.exposed z) views me new s.looked looked;
    unheld = each_view-set (λ _ z. HoldsIfActive z) views me new s.unheld unheld;
    accounts = accounts;
    in_group = s.in_group;
    loads = each_view-set (λ _ z. LoadsForGroup log.groups z.seen z.call) views me new s.loads kept.loads;
    awaits = each_view-set (λ _ z. AwaitsPlace z.call z.books) views me new s.awaits kept.awaits;
    totals = each_view-set (λ _ z. (slot : ℕ) → HasTotalOfWorkers (log.groups slot) z) views me new s.totals kept.totals;
    heard = kept.heard;
    lasts = each_view-set (λ _ z. HasSeenLast z) views me new s.lasts kept.last;
  }

-- nor what it has under way
module _ (key : Start) (words : Words) (stop crew : ℕ) (account : ℕ → AccountWords) (views : List View) (me : ℕ) (v new : View) (log : Log) (s : IsSound key words views log)
    (at : get_elem? views me ≡ some v) (call : new.call ≡ v.call) (entries : new.entries ≡ v.entries)
    (sees : HasSeenBoundaries key.start words.tail words.exposed words.durable (ranges_of log) new.seen) (constants : HasConstants key new)
    (rests : RestsUnlessActive new) (owns : OwnsIfWorker new) (roles : HasSoundCrew crew (set views me new))
    (sends : SendsIfFlusher key.start words.exposed words.durable log new) (stops : EachView (λ _ z. StoresStop stop z) (set views me new))
    (read_stop : EachView (λ _ z. HasReadStop stop z) (set views me new))
    (quiet : EachPair (λ _ y _ z. RestsIfQuiet y z) (set views me new)) (looked : LookedIfQuiet words.exposed new)
    (unheld : HoldsIfActive new)
    (accounts : KeepsAccounts (base_of key) account (history_in key log.parts) (map (books_of log.groups) (set views me new)))
    (kept : KeepsView log.groups views me new) where
  pub change_standing-sound : IsSound key (record words { stop = stop; crew = crew; account = account }) (set views me new) log
  change_standing-sound = change_view-sound key words stop crew account views me v new log s at (same-call log.groups me v.call new.call call)
      (λ _. subst (Carries words.exposed) (sym call)) (subst (HasTrueEnds key.start words.exposed log) (sym call) (s.ends me v at)) entries
      sees constants rests owns roles sends stops read_stop quiet looked unheld accounts kept

  pub change_standing-leads : Leads key words (record words { stop = stop; crew = crew; account = account }) views (set views me new) log none
  change_standing-leads = record {
    after = log;
    shows = λ i. record (slots_of key words views log) { hands = hands_of-set_same 0 me views v new at (ap task_in call) i };
    sound = change_standing-sound;
  }
